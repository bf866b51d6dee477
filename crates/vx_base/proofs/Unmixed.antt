-- Masks whose booleans are all alike, and what is true in both of two lists where one is such a mask.
use Rattle.std.proofs.Common.{◌≡◌, ◌≤◌, Bool, true, false, List, [], ◌∷◌, length, replicate, count_by, refl, sym, ap, ◌∙◌, arith}
use Rattle.std.specs.Prelude.{◌&&◌}
use Rattle.std.proofs.Common.{inl, inr}
use Rattle.std.proofs.lemmas.Bool.Decides.{eqb_tells}
use Rattle.std.proofs.lemmas.List.Sums.{count_by-le-length}
use Rattle.vx_base.specs.Bits.{both}
use Rattle.vx_base.specs.Booleans.{IsMixed}
use Rattle.vx_base.proofs.MaskCounts.{all_true_from_count, all_false_from_count}

-- where not all are true and both values do not stand, none is
pub count_none : (mask : List Bool) → ¬ (count_by (λ b. b) mask ≡ length mask) → ¬ (IsMixed mask) → count_by (λ b. b) mask ≡ 0
count_none mask some unmixed =
    let count = count_by (λ b. b) mask in
    let most : count ≤ length mask = count_by-le-length (λ (b : Bool). b) mask in
    elim (eqb_tells count 0) [
      | inl none ↦ none.1
      | inr there ↦ absurd (unmixed (omega arith, omega arith))
    ]

and_true : (b : Bool) → (b && true) ≡ b
and_true true = refl
and_true false = refl

and_false : (b : Bool) → (b && false) ≡ false
and_false true = refl
and_false false = refl

both_trues : (bits : List Bool) → both bits (replicate (length bits) true) ≡ bits
both_trues [] = refl
both_trues (b ∷ bs) = ap (λ x. x ∷ both bs (replicate (length bs) true)) (and_true b) ∙ ap (λ xs. b ∷ xs) (both_trues bs)

both_falses : (bits : List Bool) → both bits (replicate (length bits) false) ≡ replicate (length bits) false
both_falses [] = refl
both_falses (b ∷ bs) = ap (λ x. x ∷ both bs (replicate (length bs) false)) (and_false b) ∙ ap (λ xs. false ∷ xs) (both_falses bs)

pub both-all : (bits mask : List Bool) → length mask ≡ length bits → count_by (λ b. b) mask ≡ length mask → both bits mask ≡ bits
both-all bits mask len all = ap (both bits) (all_true_from_count mask all ∙ ap (λ n. replicate n true) len) ∙ both_trues bits

pub both-none : (bits mask : List Bool) → length mask ≡ length bits → count_by (λ b. b) mask ≡ 0 → both bits mask ≡ replicate (length mask) false
both-none bits mask len none =
    ap (both bits) (all_false_from_count mask none ∙ ap (λ n. replicate n false) len) ∙ both_falses bits ∙ ap (λ n. replicate n false) (sym len)
