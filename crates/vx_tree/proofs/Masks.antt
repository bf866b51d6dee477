-- The masks of validities, and the bits of plain booleans.
use Rattle.std.proofs.Common.{ℕ, ◌<◌, ◌≡◌, Bool, true, false, List, length, map, replicate, get_or, refl, sym, ◌∙◌, ap, arith}
use Rattle.std.specs.List.{range_with_len}
use Rattle.std.proofs.lemmas.List.FromFn.{fill_by_all}
use Rattle.std.proofs.lemmas.List.{get_or-replicate, length-replicate}
use Rattle.vx_base.specs.Rows.{Row, truth_of}
use Rattle.vx_base.specs.Kinds.{Kind, booleans, integers, texts, binaries, lists, fixed_lists, records, is_plain_booleans}
use Rattle.vx_tree.specs.Tree.{Tree, bools, constant, Valid, non_nullable, all_valid, all_invalid, by_array}
use Rattle.vx_tree.specs.Meaning.{row_at, tree_len, kind_of, is_valid_at, valid_mask}
use Rattle.vx_tree.specs.Named.{IsRepeated}

-- a constant state gives the same boolean for each row
pub mask_of_constant : (v : Valid) (n : ℕ) (b : Bool) → ((i : ℕ) → is_valid_at v i ≡ b) → replicate n b ≡ valid_mask v n
mask_of_constant v n b same =
    fill_by_all (is_valid_at v) (replicate n b) n b (length-replicate n b) (λ i l. get_or-replicate n i b b l ∙ sym (same i))

pub all_true_mask : (v : Valid) (n : ℕ) → v ≡ non_nullable → replicate n true ≡ valid_mask v n
all_true_mask v n e = mask_of_constant v n true (λ i. rw e refl)

pub all_valid_mask : (v : Valid) (n : ℕ) → v ≡ all_valid → replicate n true ≡ valid_mask v n
all_valid_mask v n e = mask_of_constant v n true (λ i. rw e refl)

pub all_invalid_mask : (v : Valid) (n : ℕ) → v ≡ all_invalid → replicate n false ≡ valid_mask v n
all_invalid_mask v n e = mask_of_constant v n false (λ i. rw e refl)

-- plain booleans are their bits
pub bits_are_truths : {b : ℕ} (t : Tree) (bits : List Bool) (v : Valid) → t ≡ bools b bits v → kind_of t ≡ booleans false
    → bits ≡ map (λ i. truth_of (row_at t i)) (range_with_len 0 (tree_len t))
bits_are_truths {b} t bits non_nullable e k = rw e (fill_by_all (λ i. truth_of (row_at (bools b bits non_nullable) i)) bits (length bits) false refl (λ i l. refl))
bits_are_truths t bits all_valid e k = let h = rw e at k in cc
bits_are_truths t bits all_invalid e k = let h = rw e at k in cc
bits_are_truths t bits (by_array m) e k = let h = rw e at k in cc

-- a truth value, however often
pub truths_of_constant : (t : Tree) (k : Kind) (r : Row) (n : ℕ) → t ≡ constant k r n → replicate n (truth_of r) ≡ map (λ i. truth_of (row_at t i)) (range_with_len 0 (tree_len t))
truths_of_constant t k r n e =
    rw e (fill_by_all (λ i. truth_of r) (replicate n (truth_of r)) n false (length-replicate n (truth_of r)) (λ i l. get_or-replicate n i (truth_of r) false l))

-- that of rows that are all one
pub truths_of_repeated : (t : Tree) (b : Bool) (n : ℕ) → IsRepeated t → n ≡ tree_len t → b ≡ truth_of (row_at t 0) → replicate n b ≡ map (λ i. truth_of (row_at t i)) (range_with_len 0 (tree_len t))
truths_of_repeated t b n h same e =
    fill_by_all (λ i. truth_of (row_at t i)) (replicate n b) (tree_len t) false (length-replicate n b ∙ same) (λ i l.
    get_or-replicate n i b false (rw same l) ∙ e ∙ ap truth_of (sym (h.alike i)))

-- ---- read row by row

-- the truths of the first n rows are written
pub record AreTruths (t : Tree) (n : ℕ) (bits : List Bool) : Type 0 where
  pub long : length bits ≡ tree_len t
  pub each : (i : ℕ) → i < n → get_or bits i false ≡ truth_of (row_at t i)

-- all of them
pub AreTruths-all : (t : Tree) (n : ℕ) (bits : List Bool) → n ≡ length bits → AreTruths t n bits → bits ≡ map (λ i. truth_of (row_at t i)) (range_with_len 0 (tree_len t))
AreTruths-all t n bits e h = fill_by_all (λ i. truth_of (row_at t i)) bits (tree_len t) false h.long (λ i l. h.each i (omega (arith, h.long)))

-- ---- kinds

-- plain booleans are the one kind that passes the test
pub plain_booleans : (k : Kind) → is_plain_booleans k ≡ true → k ≡ booleans false
plain_booleans (booleans true) h = cc
plain_booleans (booleans false) h = refl
plain_booleans (integers t n) h = cc
plain_booleans (texts n) h = cc
plain_booleans (binaries n) h = cc
plain_booleans (lists k n) h = cc
plain_booleans (fixed_lists k size n) h = cc
plain_booleans (records names ks n) h = cc
