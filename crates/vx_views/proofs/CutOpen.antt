-- A cut in the making: closed pieces, and one that is opened still.
use Rattle.std.proofs.Common.{◌≡◌, ℕ, zero, suc, ◌+◌, ◌<◌, ◌≤◌, List, [], ◌∷◌, ◌++◌, length, take, get_or, sum, refl, sym, ap, subst, ⊎_elim, add-one, arith}
use Rattle.std.specs.List.{All}
use Rattle.std.proofs.lemmas.Bool.{cases_lt}
use Rattle.std.proofs.lemmas.List.{take_all, length_push}
use Rattle.std.proofs.lemmas.List.Sums.{sum_by_more, sum_by-take-le}
use Rattle.vx_views.specs.Cut.{IsValueEnd, ArePieces, AreLongest, IsCut, IsMaximalCut}
use Rattle.vx_views.proofs.CutPieces.{longest_ahead_strictly, sum_take_mono, ArePieces-push, AreLongest-push}

-- the first k values are in: `ends` are the closed pieces' ends, and the opened piece begins at `begin`
pub record IsOpen (limit : ℕ) (lens : List ℕ) (k : ℕ) (ends : List ℕ) (begin : ℕ) : Type 0 where
  pub pieces : ArePieces limit lens 0 ends begin
  pub longest : AreLongest limit lens 0 ends
  pub low : begin ≤ sum (take k lens)
  pub high : sum (take k lens) ≤ begin + limit

pub sum_more : (lens : List ℕ) (k : ℕ) → k < length lens → sum (take (k + 1) lens) ≡ sum (take k lens) + get_or lens k 0
sum_more lens k h = sum_by_more (λ (x : ℕ). x) lens k 0 h

pub IsOpen-keep : (limit : ℕ) (lens : List ℕ) (k : ℕ) (ends : List ℕ) (begin : ℕ) → IsOpen limit lens k ends begin → k < length lens → sum (take (k + 1) lens) ≤ begin + limit → IsOpen limit lens (k + 1) ends begin
IsOpen-keep limit lens k ends begin opened k_in fits =
    record { pieces = opened.pieces; longest = opened.longest; low = omega (arith, opened.low, sum_more lens k k_in); high = fits }

-- no later value end is within the limit, if that of the next value is not
pub no_later : (limit : ℕ) (lens : List ℕ) (k begin : ℕ) → begin + limit < sum (take (k + 1) lens) → (later : ℕ) → IsValueEnd lens later → sum (take k lens) < later → begin + limit < later
no_later limit lens k begin over later here lt =
    ⊎_elim
    (λ (less : k < here.0). omega (arith, sum_take_mono lens (k + 1) here.0 (omega arith), here.1))
    (λ (ge : here.0 ≤ k). absurd (omega (arith, sum_take_mono lens here.0 k ge, here.1)))
    (cases_lt k here.0)

pub IsOpen-close : (limit : ℕ) (lens : List ℕ) (k : ℕ) (ends : List ℕ) (begin : ℕ) → IsOpen limit lens k ends begin → k < length lens → get_or lens k 0 ≤ limit → begin + limit < sum (take (k + 1) lens) → IsOpen limit lens (k + 1) (ends ++ sum (take k lens) ∷ []) (sum (take k lens))
IsOpen-close limit lens k ends begin opened k_in small over =
    let more = sum_more lens k k_in in
    record {
      pieces = ArePieces-push limit lens 0 ends begin (sum (take k lens)) opened.pieces (omega arith) opened.high (k, refl);
      longest = AreLongest-push limit lens 0 ends begin (sum (take k lens)) opened.pieces opened.longest (no_later limit lens k begin over);
      low = omega arith;
      high = omega arith;
    }

-- at the end the opened piece is closed, if it is not empty
pub IsMaximalCut-from_open : (limit : ℕ) (lens : List ℕ) (ends : List ℕ) (begin : ℕ) → IsOpen limit lens (length lens) ends begin → sum lens ≤ begin → IsMaximalCut limit lens ends
IsMaximalCut-from_open limit lens ends begin opened done =
    let all : sum (take (length lens) lens) ≡ sum lens = ap sum (take_all (length lens) lens (omega arith)) in
    let same : begin ≡ sum lens = omega (arith, opened.low) in
    record { cut = record { pieces = subst (λ to. ArePieces limit lens 0 ends to) same opened.pieces }; longest = opened.longest }

pub IsMaximalCut-from_open_push : (limit : ℕ) (lens : List ℕ) (ends : List ℕ) (begin : ℕ) → IsOpen limit lens (length lens) ends begin → begin < sum lens → IsMaximalCut limit lens (ends ++ sum lens ∷ [])
IsMaximalCut-from_open_push limit lens ends begin opened rest =
    let all : sum (take (length lens) lens) ≡ sum lens = ap sum (take_all (length lens) lens (omega arith)) in
    let is_end : IsValueEnd lens (sum lens) = (length lens, sym all) in
    let none_later : (later : ℕ) → IsValueEnd lens later → sum lens < later → begin + limit < later = λ later here lt. absurd (⊎_elim
    (λ (less : length lens < here.0). omega (arith, ap sum (take_all here.0 lens (omega arith)), here.1))
    (λ (ge : here.0 ≤ length lens). omega (arith, sum_take_mono lens here.0 (length lens) ge, here.1))
    (cases_lt (length lens) here.0)) in
    record {
      cut = record { pieces = ArePieces-push limit lens 0 ends begin (sum lens) opened.pieces rest (omega (arith, opened.high)) is_end };
      longest = AreLongest-push limit lens 0 ends begin (sum lens) opened.pieces opened.longest none_later;
    }

-- one more value
open_more : (limit : ℕ) (lens : List ℕ) → All (λ n. n ≤ limit) lens → (k : ℕ) → k < length lens → (ends : List ℕ) × (begin : ℕ) × IsOpen limit lens k ends begin → (ends : List ℕ) × (begin : ℕ) × IsOpen limit lens (k + 1) ends begin
open_more limit lens small k k_in before =
    ⊎_elim
    (λ (over : before.1 + limit < sum (take (k + 1) lens)). (before.0 ++ sum (take k lens) ∷ [], sum (take k lens), IsOpen-close limit lens k before.0 before.1 before.2 k_in (small k 0 k_in) over))
    (λ (fits : sum (take (k + 1) lens) ≤ before.1 + limit). (before.0, before.1, IsOpen-keep limit lens k before.0 before.1 before.2 k_in fits))
    (cases_lt (before.1 + limit) (sum (take (k + 1) lens)))

-- there is a cut in the making after each number of values
some_open : (limit : ℕ) (lens : List ℕ) → All (λ n. n ≤ limit) lens → (k : ℕ) → k ≤ length lens → (ends : List ℕ) × (begin : ℕ) × IsOpen limit lens k ends begin
some_open limit lens small zero h = ([], 0, record { pieces = refl; longest = tt; low = omega arith; high = omega arith })
some_open limit lens small (suc k) h =
    let next : (ends : List ℕ) × (begin : ℕ) × IsOpen limit lens (k + 1) ends begin = open_more limit lens small k (omega arith) (some_open limit lens small k (omega arith)) in
    subst (λ n. (ends : List ℕ) × (begin : ℕ) × IsOpen limit lens n ends begin) (add-one k) next

pub some_maximal : (limit : ℕ) (lens : List ℕ) → All (λ n. n ≤ limit) lens → (ends : List ℕ) × IsMaximalCut limit lens ends
some_maximal limit lens small =
    let opened = some_open limit lens small (length lens) (omega arith) in
    ⊎_elim
    (λ (rest : opened.1 < sum lens). (opened.0 ++ sum lens ∷ [], IsMaximalCut-from_open_push limit lens opened.0 opened.1 opened.2 rest))
    (λ (done : sum lens ≤ opened.1). (opened.0, IsMaximalCut-from_open limit lens opened.0 opened.1 opened.2 done))
    (cases_lt opened.1 (sum lens))

-- any cut has more pieces than are closed once the open one is closed
pub more_pieces : (limit : ℕ) (lens : List ℕ) (k : ℕ) (ends : List ℕ) (begin : ℕ) (others : List ℕ) → IsOpen limit lens k ends begin → k < length lens → get_or lens k 0 ≤ limit → begin + limit < sum (take (k + 1) lens) → IsCut limit lens others → length ends + 1 < length others
more_pieces limit lens k ends begin others opened k_in small over cut =
    let closed = IsOpen-close limit lens k ends begin opened k_in small over in
    let before_end : sum (take k lens) < sum lens = omega (arith, sum_more lens k k_in, sum_by-take-le (λ (x : ℕ). x) lens (k + 1), opened.high) in
    omega (arith, length_push ends (sum (take k lens)), longest_ahead_strictly limit lens (ends ++ sum (take k lens) ∷ []) others 0 0 (sum (take k lens)) (omega arith) before_end closed.pieces closed.longest cut.pieces)
