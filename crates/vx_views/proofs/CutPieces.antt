-- Pieces one after another: the longest ones are ahead of all others.
use Rattle.std.proofs.Common.{◌≡◌, ℕ, ◌+◌, ◌<◌, ◌≤◌, List, [], ◌∷◌, ◌++◌, length, take, sum, min, refl, ap, ⊎_elim, arith}
use Rattle.std.proofs.lemmas.Bool.{cases_lt}
use Rattle.std.proofs.lemmas.List.{take-take}
use Rattle.std.proofs.lemmas.List.Sums.{sum_by-take-le}
use Rattle.vx_views.specs.Cut.{IsValueEnd, ArePieces, AreLongest}

pub ArePieces-le : (limit : ℕ) (lens : List ℕ) (from : ℕ) (ends : List ℕ) (to : ℕ) → ArePieces limit lens from ends to → from ≤ to
ArePieces-le limit lens from [] to pieces = omega arith
ArePieces-le limit lens from (e ∷ es) to pieces = omega (arith, ArePieces-le limit lens e es to pieces.3)

-- the longest pieces from further on are no more than any pieces to the heap's end, and fewer where they stop before it
longest_ahead_by : (limit : ℕ) (lens : List ℕ) (ends others : List ℕ) (from start to short : ℕ) → start ≤ from → to + short ≤ sum lens → ArePieces limit lens from ends to → AreLongest limit lens from ends → ArePieces limit lens start others (sum lens) → length ends + min 1 short ≤ length others
longest_ahead_by limit lens [] [] from start to short h bound pieces longest other = omega arith
longest_ahead_by limit lens [] (b ∷ bs) from start to short h bound pieces longest other = omega arith
longest_ahead_by limit lens (m ∷ ms) [] from start to short h bound pieces longest other = absurd (omega (arith, ArePieces-le limit lens m ms to pieces.3))
longest_ahead_by limit lens (m ∷ ms) (b ∷ bs) from start to short h bound pieces longest other =
    ⊎_elim
    (λ (lt : m < b). absurd (omega (arith, longest.0 b other.2 lt)))
    (λ (ge : b ≤ m). omega (arith, longest_ahead_by limit lens ms bs m b to short ge bound pieces.3 longest.1 other.3))
    (cases_lt m b)

pub longest_ahead : (limit : ℕ) (lens : List ℕ) (ends others : List ℕ) (from start to : ℕ) → start ≤ from → to ≤ sum lens → ArePieces limit lens from ends to → AreLongest limit lens from ends → ArePieces limit lens start others (sum lens) → length ends ≤ length others
longest_ahead limit lens ends others from start to h bound pieces longest other = omega (arith, longest_ahead_by limit lens ends others from start to 0 h (omega arith) pieces longest other)

pub longest_ahead_strictly : (limit : ℕ) (lens : List ℕ) (ends others : List ℕ) (from start to : ℕ) → start ≤ from → to < sum lens → ArePieces limit lens from ends to → AreLongest limit lens from ends → ArePieces limit lens start others (sum lens) → length ends < length others
longest_ahead_strictly limit lens ends others from start to h bound pieces longest other = omega (arith, longest_ahead_by limit lens ends others from start to 1 h (omega arith) pieces longest other)

-- two lists of longest pieces to the heap's end are the same
pub longest_same : (limit : ℕ) (lens : List ℕ) (ends others : List ℕ) (from start : ℕ) → from ≡ start → ArePieces limit lens from ends (sum lens) → AreLongest limit lens from ends → ArePieces limit lens start others (sum lens) → AreLongest limit lens start others → ends ≡ others
longest_same limit lens [] [] from start same pieces longest other longest' = refl
longest_same limit lens [] (b ∷ bs) from start same pieces longest other longest' = absurd (omega (arith, ArePieces-le limit lens b bs (sum lens) other.3))
longest_same limit lens (m ∷ ms) [] from start same pieces longest other longest' = absurd (omega (arith, ArePieces-le limit lens m ms (sum lens) pieces.3))
longest_same limit lens (m ∷ ms) (b ∷ bs) from start same pieces longest other longest' =
    let first : m ≡ b = ⊎_elim
    (λ (lt : m < b). absurd (omega (arith, longest.0 b other.2 lt)))
    (λ (ge : b ≤ m). ⊎_elim
    (λ (lt : b < m). absurd (omega (arith, longest'.0 m pieces.2 lt)))
    (λ (le : m ≤ b). omega arith)
    (cases_lt b m))
    (cases_lt m b) in
    let rest : ms ≡ bs = longest_same limit lens ms bs m b first pieces.3 longest.1 other.3 longest'.1 in
    cc

pub sum_take_mono : (lens : List ℕ) (j k : ℕ) → j ≤ k → sum (take j lens) ≤ sum (take k lens)
sum_take_mono lens j k h =
    let e = ap sum (take-take j k lens h) in
    omega (arith, e, sum_by-take-le (λ (x : ℕ). x) (take k lens) j)

-- one more piece at the end
pub ArePieces-push : (limit : ℕ) (lens : List ℕ) (from : ℕ) (ends : List ℕ) (mid e : ℕ) → ArePieces limit lens from ends mid → mid < e → e ≤ mid + limit → IsValueEnd lens e → ArePieces limit lens from (ends ++ e ∷ []) e
ArePieces-push limit lens from [] mid e pieces low high here = (omega arith, omega arith, here, refl)
ArePieces-push limit lens from (x ∷ xs) mid e pieces low high here = (pieces.0, pieces.1, pieces.2, ArePieces-push limit lens x xs mid e pieces.3 low high here)

pub AreLongest-push : (limit : ℕ) (lens : List ℕ) (from : ℕ) (ends : List ℕ) (mid e : ℕ) → ArePieces limit lens from ends mid → AreLongest limit lens from ends → ((later : ℕ) → IsValueEnd lens later → e < later → mid + limit < later) → AreLongest limit lens from (ends ++ e ∷ [])
AreLongest-push limit lens from [] mid e pieces longest last = (λ later here lt. omega (arith, last later here lt), tt)
AreLongest-push limit lens from (x ∷ xs) mid e pieces longest last = (longest.0, AreLongest-push limit lens x xs mid e pieces.3 longest.1 last)
