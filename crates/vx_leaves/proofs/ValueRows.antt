-- Values for rows: how many numbers there are, and where all rows or none are valid.
use Rattle.std.proofs.Common.{ℕ, eqb, ◌+◌, ◌*◌, ◌/◌, ◌^◌, ◌<◌, ◌≤◌, ◌≡◌, Bool, true, false, cond, List, [], ◌∷◌, length, map, count_by, zero, suc, refl, sym, ◌∙◌, ap, subst, zero-add, arith}
use Rattle.std.specs.Prelude.{ℤ, Some}
use Rattle.std.specs.List.{range_with_len}
use Rattle.std.proofs.Math.Nat.{mul-le-mul_right}
use Rattle.std.proofs.lemmas.Bool.{lt-ltb}
use Rattle.std.proofs.lemmas.List.Sums.{count_by-le-length, sum_by-cons}
use Rattle.vx_base.specs.Integers.{byte_width, numbers}
use Rattle.vx_base.specs.Refusals.{length_mismatch}
use Rattle.vx_base.specs.declared.ptypes.PType.{PType}
use Rattle.vx_base.proofs.NumberLists.{length_numbers, whole}
use Rattle.vx_tree.specs.Tree.{Tree, bools, primitive, Valid, non_nullable, all_valid, all_invalid, by_array}
use Rattle.vx_tree.specs.Formed.{ValidFits}
use Rattle.vx_tree.specs.Meaning.{is_valid_at, valid_mask}
use Rattle.vx_tree.specs.Validities.{valid_from}
use Rattle.vx_tree.proofs.Masks.{bits_are_truths}
use Rattle.vx_tree.proofs.RowLists.{length-valid_mask}
use Rattle.vx_leaves.specs.Leaves.{IsPrimitive}
use Rattle.vx_leaves.specs.Spread.{spread, never_null, count_fault}

-- an array that is told by equal parts
pub is_primitive_of : (t u : PType) (bs : List ℕ) (zs : List ℤ) (v w : Valid) (a : Tree) → a ≡ primitive u bs v → u ≡ t → v ≡ w → numbers t bs ≡ zs → IsPrimitive t zs w a
is_primitive_of t u bs zs v w a e p q s = record { bytes = bs; tree = e ∙ ap (λ x. primitive x bs v) p ∙ ap (primitive t bs) q; same = s }

pub count_of : (t : PType) (bs : List ℕ) (n : ℕ) → length bs ≡ n * byte_width t → length (numbers t bs) ≡ n
count_of t bs n e = length_numbers t bs ∙ ap (λ m. m / byte_width t) e ∙ whole t n

-- truth values that tell which rows are valid are its mask
pub valid_mask-bools : {b : ℕ} (v : Valid) (t : Tree) (bits : List Bool) (w : Valid) (n : ℕ) → v ≡ by_array t → t ≡ bools b bits w → ValidFits v n → bits ≡ valid_mask v n
valid_mask-bools v t bits w n e same fits =
    let h : ValidFits (by_array t) n = subst (λ u. ValidFits u n) e fits in
    bits_are_truths t bits w same h.kind ∙ ap (valid_mask (by_array t)) h.len ∙ ap (λ u. valid_mask u n) (sym e)

-- the validity that bits tell is that of as many rows
pub ValidFits-from_bits : (first : ℕ) (bits : List Bool) (v : Valid) (n : ℕ) → v ≡ valid_from first bits all_valid → length bits ≡ n → ValidFits v n
ValidFits-from_bits first bits v n e long = subst (λ w. ValidFits w n) (sym e) (by_count (eqb (count_by (λ b. b) bits) (length bits)) (eqb (count_by (λ b. b) bits) 0))
  where
    by_count : (full none : Bool) → ValidFits (cond full all_valid (cond none all_invalid (by_array (bools first bits non_nullable)))) n
    by_count true none = tt
    by_count false true = tt
    by_count false false = record { len = long; kind = refl }

-- no more bytes than those of a number a row
pub count_room : (v : Valid) (n width : ℕ) → n * width < 2 ^ 64 → count_by (λ b. b) (valid_mask v n) * width < 2 ^ 64
count_room v n width h =
    let within : count_by (λ b. b) (valid_mask v n) ≤ n = omega (arith, count_by-le-length (λ (b : Bool). b) (valid_mask v n), length-valid_mask v n) in
    let scaled : count_by (λ b. b) (valid_mask v n) * width ≤ n * width = mul-le-mul_right width within in
    omega arith

-- where every row is valid, each has its value
spread_trues : (f : ℕ → Bool) (start n : ℕ) (zs : List ℤ) → ((i : ℕ) → f i ≡ true) → length zs ≡ n → spread (map f (range_with_len start n)) zs ≡ zs
spread_trues f start zero [] all e = refl
spread_trues f start zero (z ∷ zs) all e = absurd (omega arith)
spread_trues f start (suc n) [] all e = absurd (omega arith)
spread_trues f start (suc n) (z ∷ zs) all e =
    ap (λ b. spread (b ∷ map f (range_with_len (start + 1) n)) (z ∷ zs)) (all start)
    ∙ ap (λ ys. z ∷ ys) (spread_trues f (start + 1) n zs all (omega arith))

pub spread_all : (v : Valid) (n : ℕ) (zs : List ℤ) → never_null v ≡ true → length zs ≡ n → spread (valid_mask v n) zs ≡ zs
spread_all non_nullable n zs state e = spread_trues (is_valid_at non_nullable) 0 n zs (λ i. refl) e
spread_all all_valid n zs state e = spread_trues (is_valid_at all_valid) 0 n zs (λ i. refl) e
spread_all all_invalid n zs state e = cc
spread_all (by_array m) n zs state e = cc

-- where none is, none has one
count_falses : (f : ℕ → Bool) (start n : ℕ) → ((i : ℕ) → f i ≡ false) → count_by (λ b. b) (map f (range_with_len start n)) ≡ 0
count_falses f start zero none = refl
count_falses f start (suc n) none =
    ap (λ b. count_by (λ x. x) (b ∷ map f (range_with_len (start + 1) n))) (none start)
    ∙ sum_by-cons (λ x. cond x 1 0) false (map f (range_with_len (start + 1) n))
    ∙ zero-add (count_by (λ b. b) (map f (range_with_len (start + 1) n)))
    ∙ count_falses f (start + 1) n none

-- too few bytes for the valid rows are a fault
pub short_is : (t : PType) (bs : List ℕ) (v : Valid) (n : ℕ) → never_null v ≡ false → length bs < count_by (λ b. b) (valid_mask v n) * byte_width t → count_fault t bs v n ≡ Some length_mismatch
short_is t bs non_nullable n state h = cc
short_is t bs all_valid n state h = cc
short_is t bs all_invalid n state h =
    let none : count_by (λ b. b) (valid_mask all_invalid n) ≡ 0 = count_falses (is_valid_at all_invalid) 0 n (λ i. refl) in
    absurd (no_less (length bs) (count_by (λ b. b) (valid_mask all_invalid n)) (byte_width t) none h)
  where
    no_less : (k m w : ℕ) → m ≡ 0 → k < m * w → ⊥
    no_less k m w e l = let z : m * w ≡ 0 * w = ap (λ x. x * w) e in omega arith
short_is t bs (by_array m) n state h = rw (lt-ltb (length bs) (count_by (λ b. b) (valid_mask (by_array m) n) * byte_width t) h)
