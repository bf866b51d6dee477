-- The fields of a record, by their names and places.
use Rattle.std.proofs.Common.{ℕ, zero, suc, ◌+◌, ◌<◌, ◌≡◌, Bool, true, false, cond, List, [], ◌∷◌, ◌++◌, length, get_or, take, drop, map, Some, None, refl, ◌∙◌, ap, add-one, arith}
use Rattle.std.specs.Prelude.{position, nat_lt}
use Rattle.std.proofs.lemmas.Bool.Decides.{nat_tests}
use Rattle.std.proofs.lemmas.List.Sums.{position_or_len_is}
use Rattle.vx_base.specs.Kinds.{kind, kinds_from}
use Rattle.vx_base.specs.DTypes.{kinds_of, dtype_meaning}
use Rattle.vx_base.specs.Fields.{kind_count, kinds_without}
use Rattle.vx_base.specs.declared.dtypes.DType.{DType}

is_below : (m n : ℕ) → m < n → nat_lt m n ≡ true
is_below m n h = grind (arith, nat_tests)

is_not_below : (n : ℕ) → nat_lt n n ≡ false
is_not_below n = grind (arith, nat_tests)

-- the first place that passes, and that none does
pub position-found : {X : Type 0} (p : X → Bool) (xs : List X) (i : ℕ) (d : X) → i < length xs → ((k : ℕ) → k < i → p (get_or xs k d) ≡ false) → p (get_or xs i d) ≡ true → position p xs ≡ Some i
position-found p xs i d within before here =
    let first = position_or_len_is p xs i d (omega arith) before (λ h. here) in
    ap (λ (n : ℕ). cond (nat_lt n (length xs)) (Some n) None) first ∙ ap (λ (b : Bool). cond b (Some i) None) (is_below i (length xs) within)

pub position-none : {X : Type 0} (p : X → Bool) (xs : List X) (d : X) → ((k : ℕ) → k < length xs → p (get_or xs k d) ≡ false) → position p xs ≡ None
position-none p xs d none =
    let last = position_or_len_is p xs (length xs) d (omega arith) none (λ h. absurd (omega arith)) in
    ap (λ (n : ℕ). cond (nat_lt n (length xs)) (Some n) None) last ∙ ap (λ (b : Bool). cond b (Some (length xs)) None) (is_not_below (length xs))

-- there are as many kinds as data types
pub kind_count_of : (ds : List DType) → kind_count (kinds_of ds) ≡ length ds
kind_count_of [] = refl
kind_count_of (d ∷ ds) = ap suc (kind_count_of ds)

-- the kinds of the data types before a place and after it
pub kinds_without_of : (ds : List DType) (i : ℕ) → kinds_from (map dtype_meaning (take i ds) ++ map dtype_meaning (drop (i + 1) ds)) ≡ kinds_without i (kinds_of ds)
kinds_without_of ds i = rw add-one (by_suc ds i)
  where
    by_suc : (ds : List DType) (i : ℕ) → kinds_from (map dtype_meaning (take i ds) ++ map dtype_meaning (drop (suc i) ds)) ≡ kinds_without i (kinds_of ds)
    by_suc [] zero = refl
    by_suc [] (suc i) = refl
    by_suc (d ∷ ds) zero = refl
    by_suc (d ∷ ds) (suc i) = ap (kind (dtype_meaning d)) (by_suc ds i)
