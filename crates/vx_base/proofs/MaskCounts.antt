-- How many of the booleans of a mask are true.
use Rattle.std.proofs.Common.{ℕ, ◌+◌, ◌≡◌, Bool, true, false, cond, List, [], ◌∷◌, length, replicate, refl, ◌∙◌, ap, zero-add, arith}
use Rattle.std.specs.Prelude.{count_by}
use Rattle.std.proofs.lemmas.List.{length-replicate, get_or-replicate}
use Rattle.std.proofs.lemmas.List.Folds.{sum_by-replicate}
use Rattle.std.proofs.lemmas.List.Sums.{count_by-le-length, sum_by-cons}

pub count-all_true : (n : ℕ) → count_by (λ b. b) (replicate n true) ≡ n
count-all_true n = sum_by-replicate (λ (b : Bool). cond b 1 0) n true ∙ omega arith

pub count-all_false : (n : ℕ) → count_by (λ b. b) (replicate n false) ≡ 0
count-all_false n = sum_by-replicate (λ (b : Bool). cond b 1 0) n false ∙ omega arith

pub count-true : (bs : List Bool) → count_by (λ b. b) (true ∷ bs) ≡ 1 + count_by (λ b. b) bs
count-true bs = sum_by-cons (λ (b : Bool). cond b 1 0) true bs

pub count-false : (bs : List Bool) → count_by (λ b. b) (false ∷ bs) ≡ count_by (λ b. b) bs
count-false bs = sum_by-cons (λ (b : Bool). cond b 1 0) false bs ∙ zero-add (count_by (λ b. b) bs)

-- booleans that are all counted are all true
pub all_true_from_count : (bs : List Bool) → count_by (λ b. b) bs ≡ length bs → bs ≡ replicate (length bs) true
all_true_from_count [] h = refl
all_true_from_count (true ∷ bs) h = ap (λ (cs : List Bool). true ∷ cs) (all_true_from_count bs (omega (arith, count-true bs)))
all_true_from_count (false ∷ bs) h = absurd (omega (arith, count-false bs, count_by-le-length (λ (b : Bool). b) bs))

pub all_false_from_count : (bs : List Bool) → count_by (λ b. b) bs ≡ 0 → bs ≡ replicate (length bs) false
all_false_from_count [] h = refl
all_false_from_count (true ∷ bs) h = absurd (omega (arith, count-true bs))
all_false_from_count (false ∷ bs) h = ap (λ (cs : List Bool). false ∷ cs) (all_false_from_count bs (omega (arith, count-false bs)))

pub length-all : (n : ℕ) (b : Bool) → length (replicate n b) ≡ n
length-all n b = length-replicate n b

pub ruleset mask_counts = (count-all_true, count-all_false, all_true_from_count, all_false_from_count, length-all, get_or-replicate)
