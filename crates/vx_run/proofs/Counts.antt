-- Counts that are read of an array.
use Rattle.std.proofs.Common.{◌≡◌, ℕ, ◌+◌, ◌-◌, ◌<◌, ◌≤◌, true, List, [], ◌∷◌, ◌++◌, length, drop, get_or, refl, sym, ◌∙◌, ap, subst, arith, length-append}
use Rattle.std.specs.Prelude.{pos, ◌≤ℤ◌, slice_range}
use Rattle.std.specs.List.{All}
use Rattle.std.proofs.lemmas.Int.{ints}
use Rattle.std.proofs.lemmas.List.{get_or-take, get_or-drop, get_or_default, get_or_append_left, get_or_push}
use Rattle.std.proofs.lemmas.List.FromFn.{length-map-range_with_len}
use borrow.Author.Count.{below_more}
use Rattle.vx_base.proofs.ListParts.{length_part}
use Rattle.vx_base.specs.Integers.{numbers}
use Rattle.vx_base.specs.Kinds.{is_plain_integers}
use Rattle.vx_base.specs.Rows.{whole, count_in}
use Rattle.vx_base.specs.declared.ptypes.PType.{PType}
use Rattle.vx_tree.specs.Tree.{Tree, primitive, Valid, non_nullable, all_valid, all_invalid, by_array}
use Rattle.vx_tree.specs.Meaning.{tree_len, kind_of, row_at}
use Rattle.vx_tree.specs.Formed.{IsCounts}
use Rattle.vx_run.specs.Shown.{AreCountsFrom}

pub ruleset masks = (length-map-range_with_len)

-- ---- read row by row

pub counts-more : (t : Tree) (start n : ℕ) (counts more : List ℕ) (count : ℕ) → AreCountsFrom t start n counts → count ≡ count_in (row_at t (start + n)) → more ≡ counts ++ count ∷ [] → AreCountsFrom t start (n + 1) more
counts-more t start n counts more count h here pushed =
    let P : ℕ → Type 0 = λ i. get_or (counts ++ count ∷ []) i 0 ≡ count_in (row_at t (start + i)) in
    let below : (i : ℕ) → i < n → P i = λ i inside. get_or_append_left counts (count ∷ []) 0 i (omega (arith, h.len)) ∙ h.each i inside in
    let last : P n = get_or_push counts count 0 n h.len ∙ here in
    rw pushed (record { len = omega (arith, length-append counts (count ∷ []), h.len); each = below_more P n below last })

-- ---- read of their bytes

-- only in the state that knows no null are integers plain
plain-numbers : (t : PType) (bs : List ℕ) (v : Valid) → is_plain_integers (kind_of (primitive t bs v)) ≡ true → v ≡ non_nullable
plain-numbers t bs non_nullable plain = refl
plain-numbers t bs all_valid plain = cc
plain-numbers t bs all_invalid plain = cc
plain-numbers t bs (by_array m) plain = cc

pub count-number : (a : Tree) (t : PType) (bs : List ℕ) (v : Valid) → a ≡ primitive t bs v → IsCounts a → (i : ℕ) → i < tree_len a → get_or (numbers t bs) i (pos 0) ≡ pos (count_in (row_at a i))
count-number a t bs v parts are i inside =
    let same : a ≡ primitive t bs non_nullable = parts ∙ ap (primitive t bs) (plain-numbers t bs v (ap (λ x. is_plain_integers (kind_of x)) (sym parts) ∙ are.kind)) in
    let row : whole (get_or (numbers t bs) i (pos 0)) ≡ row_at a i = sym (ap (λ x. row_at x i) same) in
    let count : whole (get_or (numbers t bs) i (pos 0)) ≡ whole (pos (count_in (row_at a i))) = row ∙ are.counts i inside in
    cc

-- what the bytes of some rows of an array of counts hold
pub record IsCountPart (a : Tree) (t : PType) (start n : ℕ) (part : List ℕ) : Type 0 where
  pub len : length (numbers t part) ≡ n
  pub each : (i : ℕ) → i < n → get_or (numbers t part) i (pos 0) ≡ pos (count_in (row_at a (start + i)))

pub counts-part : (a : Tree) (t : PType) (bs part : List ℕ) (v : Valid) (start end : ℕ) → a ≡ primitive t bs v → IsCounts a → start ≤ end → end ≤ tree_len a → numbers t part ≡ slice_range (numbers t bs) start end → IsCountPart a t start (end - start) part
counts-part a t bs part v start end parts are ordered inside cut =
    let room : end ≤ length (numbers t bs) = omega (arith, ap tree_len parts) in
    record {
      len = ap length cut ∙ length_part (numbers t bs) start end ordered room;
      each = λ i below.
          ap (λ zs. get_or zs i (pos 0)) cut ∙ get_or-take (end - start) (drop start (numbers t bs)) i (pos 0) below
          ∙ get_or-drop start (numbers t bs) i (pos 0) ∙ count-number a t bs v parts are (start + i) (omega arith);
    }

pub part-not_negative : (a : Tree) (t : PType) (start n : ℕ) (part : List ℕ) → IsCountPart a t start n part → All (λ z. pos 0 ≤ℤ z) (numbers t part)
part-not_negative a t start n part h = λ i d inside.
    let count : get_or (numbers t part) i (pos 0) ≡ pos (count_in (row_at a (start + i))) = h.each i (omega (arith, h.len)) in
    let least : pos 0 ≤ℤ pos (count_in (row_at a (start + i))) = omega (arith, ints) in
    subst (λ z. pos 0 ≤ℤ z) (sym count ∙ get_or_default (numbers t part) i (pos 0) d inside) least
