-- The two ways to say that a cut is longest.
use Rattle.std.proofs.Common.{◌≡◌, ℕ, zero, suc, ◌+◌, ◌<◌, ◌≤◌, List, [], ◌∷◌, length, take, get_or, sum, refl, sym, ap, ⊎_elim, arith}
use Rattle.std.proofs.lemmas.Bool.{cases_lt}
use Rattle.std.proofs.lemmas.List.{take_all}
use Rattle.std.proofs.lemmas.List.Sums.{sum_by-take-le}
use Rattle.vx_views.specs.Cut.{ArePieces, AreLongest, PassWithNext}
use Rattle.vx_views.proofs.CutPieces.{ArePieces-le, sum_take_mono}
use Rattle.vx_views.proofs.CutOpen.{sum_more}

-- the non-empty value that begins at e, the j-th value's beginning lying further on
pub record Next (lens : List ℕ) (e j : ℕ) : Type 0 where
  pub k : ℕ
  pub k_in : k < length lens
  pub before : k < j
  pub begins : sum (take k lens) ≡ e
  pub some : 0 < get_or lens k 0

next_value : (lens : List ℕ) (n k e j : ℕ) → j ≤ k + n → sum (take k lens) ≡ e → e < sum (take j lens) → Next lens e j
next_value lens zero k e j near here later = absurd (omega (arith, sum_take_mono lens j k (omega arith)))
next_value lens (suc n) k e j near here later =
    let below : k < j = ⊎_elim
    (λ (lt : k < j). lt)
    (λ (ge : j ≤ k). absurd (omega (arith, sum_take_mono lens j k ge)))
    (cases_lt k j) in
    ⊎_elim
    (λ (k_in : k < length lens). ⊎_elim
    (λ (some : 0 < get_or lens k 0). record { k = k; k_in = k_in; before = below; begins = here; some = some })
    (λ (none : get_or lens k 0 ≤ 0). next_value lens n (k + 1) e j (omega arith) (omega (arith, sum_more lens k k_in)) later)
    (cases_lt 0 (get_or lens k 0)))
    (λ (past : length lens ≤ k). absurd (omega (arith, ap sum (take_all k lens past), sum_by-take-le (λ (x : ℕ). x) lens j)))
    (cases_lt k (length lens))

pub AreLongest-passes : (limit : ℕ) (lens : List ℕ) (from : ℕ) (ends : List ℕ) (to : ℕ) → ArePieces limit lens from ends to → AreLongest limit lens from ends → PassWithNext limit lens from ends
AreLongest-passes limit lens from [] to pieces longest = tt
AreLongest-passes limit lens from (e ∷ []) to pieces longest = tt
AreLongest-passes limit lens from (e ∷ f ∷ es) to pieces longest = (
  λ k k_in begins some.
      let more = sum_more lens k k_in in
      omega (arith, pieces.0, longest.0 (sum (take (k + 1) lens)) (k + 1, refl) (omega arith)),
  AreLongest-passes limit lens e (f ∷ es) to pieces.3 longest.1,
)

pub AreLongest-from_passes : (limit : ℕ) (lens : List ℕ) (from : ℕ) (ends : List ℕ) → ArePieces limit lens from ends (sum lens) → PassWithNext limit lens from ends → AreLongest limit lens from ends
AreLongest-from_passes limit lens from [] pieces passes = tt
AreLongest-from_passes limit lens from (e ∷ []) pieces passes = (
  λ later here lt. absurd (omega (arith, pieces.3, here.1, sum_by-take-le (λ (x : ℕ). x) lens here.0)),
  tt,
)
AreLongest-from_passes limit lens from (e ∷ f ∷ es) pieces passes = (
  λ later here lt.
      let next = next_value lens here.0 pieces.2.0 e here.0 (omega arith) (sym pieces.2.1) (omega (arith, here.1)) in
      let more = sum_more lens next.k next.k_in in
      omega (arith, pieces.0, here.1, more, next.begins, sum_take_mono lens (next.k + 1) here.0 (omega (arith, next.before)), passes.0 next.k next.k_in next.begins next.some),
  AreLongest-from_passes limit lens e (f ∷ es) pieces.3 passes.1,
)

pub no_pieces : (limit : ℕ) (lens ends : List ℕ) → sum lens ≡ 0 → ArePieces limit lens 0 ends (sum lens) → ends ≡ []
no_pieces limit lens [] none pieces = refl
no_pieces limit lens (e ∷ es) none pieces = absurd (omega (arith, pieces.0, ArePieces-le limit lens e es (sum lens) pieces.3))
