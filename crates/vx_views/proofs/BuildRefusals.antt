-- What a call that builds views is refused for, given what its parts found.
use Rattle.std.proofs.Common.{◌≡◌, Result, Ok, Err, IfOk, IfSome, IfNone, drop, slice_range, length-take, length-drop, unsigned_abs, ℕ, ℤ, zero, suc, ◌+◌, ◌-◌, ◌^◌, ◌<◌, ◌≤◌, List, [], ◌∷◌, length, take, get_or, sum, if◌then◌else◌, nat_le, Option, Some, None, inl, inr, refl, ap, ⊎_elim, ◌⊎◌, arith}
use Rattle.std.specs.List.{All}
use Rattle.std.specs.Result.{IsErrAnd}
use Rattle.std.proofs.lemmas.Bool.{cases_lt, le-leb, lt-leb, leb-true}
use Rattle.vx_base.specs.declared.errors.VortexError.{VortexError}
use Rattle.vx_base.specs.declared.errors.VortexError.TheVariants.{Memory, LimitTooLarge, Overflow}
use Rattle.vx_base.specs.Refusals.{Refusal, or_else, refusal_of, IsMemoryOr, Names, Refuses, limit_too_large, overflow, value_too_long}
use Rattle.vx_views.specs.declared.view.TheConstants.{MAX_BUFFER_LEN}
use Rattle.vx_views.specs.Cut.{ArePieces, IsCut, IsMaximalCut}
use Rattle.vx_views.specs.BuildFaults.{limit_fault, numbering_fault, lengths_of, differences, too_long_at, lengths_fault, offsets_fault, IsPieceCount}
use Rattle.vx_base.specs.Integers.{number_nth}
use Rattle.vx_views.specs.Places.{AreBuilt}
use Rattle.vx_views.proofs.OffsetFacts.{AreFaultlessOffsets-none}
use Rattle.std.proofs.lemmas.List.Sums.{sum_by-take-le}
use Rattle.vx_views.proofs.CutPieces.{sum_take_mono, longest_same, longest_ahead}
use Rattle.vx_views.proofs.CutPlaces.{length-pieces_of}
use Rattle.vx_base.proofs.FirstFaults.{or_else-first, or_else-second, first_fault-none_at}
use Rattle.vx_views.proofs.FirstFaults.{if-none}
use Rattle.vx_views.proofs.NoFaults.{AreFaultless-none, length_at, length-lengths_of}
use Rattle.vx_views.proofs.CutOpen.{sum_more, some_maximal}

-- pieces cannot hold a value that is longer than the limit
pieces_hold_not : (limit : ℕ) (lens : List ℕ) (from : ℕ) (ends : List ℕ) (to k : ℕ) → ArePieces limit lens from ends to → k < length lens → limit < get_or lens k 0 → from ≤ sum (take k lens) → sum (take (k + 1) lens) ≤ to → ⊥
pieces_hold_not limit lens from [] to k pieces k_in over low high = omega (arith, sum_more lens k k_in)
pieces_hold_not limit lens from (e ∷ es) to k pieces k_in over low high =
    ⊎_elim
    (λ (after : k < pieces.2.0). omega (arith, pieces.1, pieces.2.1, sum_more lens k k_in, sum_take_mono lens (k + 1) pieces.2.0 (omega arith)))
    (λ (before : pieces.2.0 ≤ k). pieces_hold_not limit lens e es to k pieces.3 k_in over (omega (arith, pieces.2.1, sum_take_mono lens pieces.2.0 k before)) high)
    (cases_lt k pieces.2.0)

-- a value that is longer than the limit
pub record HasLong (limit : ℕ) (lens : List ℕ) : Type 0 where
  pub row : ℕ
  pub row_in : row < length lens
  pub long : limit < get_or lens row 0

short_or_long : (limit : ℕ) (lens : List ℕ) → All (λ n. n ≤ limit) lens ⊎ HasLong limit lens
short_or_long limit [] = inl (λ k d h. absurd (omega arith))
short_or_long limit (n ∷ ns) =
    ⊎_elim
    (λ (over : limit < n). inr (record { row = 0; row_in = omega arith; long = over }))
    (λ (small : n ≤ limit). ⊎_elim
    (λ (rest : All (λ m. m ≤ limit) ns). inl (all_cons n ns small rest))
    (λ (some : HasLong limit ns). inr (record { row = suc some.row; row_in = omega (arith, some.row_in); long = some.long }))
    (short_or_long limit ns))
    (cases_lt limit n)
  where
    all_cons : (m : ℕ) (ms : List ℕ) → m ≤ limit → All (λ x. x ≤ limit) ms → All (λ x. x ≤ limit) (m ∷ ms)
    all_cons m ms small rest zero d h = small
    all_cons m ms small rest (suc k) d h = rest k d (omega arith)

maximal_count : (limit : ℕ) (lens ends : List ℕ) → IsMaximalCut limit lens ends → IsPieceCount limit lens (length ends)
maximal_count limit lens ends m others other = ap length (longest_same limit lens others ends 0 0 refl other.cut.pieces other.longest m.cut.pieces m.longest)

-- the maximal cut has some number of pieces, where there is one
pub piece_count : (limit : ℕ) (lens : List ℕ) → (pieces : ℕ) × IsPieceCount limit lens pieces
piece_count limit lens =
    ⊎_elim
    (λ (small : All (λ n. n ≤ limit) lens). let m = some_maximal limit lens small in (length m.0, maximal_count limit lens m.0 m.1))
    (λ (some : HasLong limit lens). (0, λ ends m. absurd (pieces_hold_not limit lens 0 ends (sum lens) some.row m.cut.pieces some.row_in some.long (omega arith) (sum_by-take-le (λ (x : ℕ). x) lens (some.row + 1)))))
    (short_or_long limit lens)

-- what is answered of building views, where `fault` is the first one of the lengths or offsets
abbrev pub IsAnswer : {A : Type 0} → ℕ → ℕ → Option Refusal → List ℕ → Result A VortexError → Type 0
IsAnswer start limit fault lens r = (pieces : ℕ) × (IsPieceCount limit lens pieces × Refuses r (or_else (limit_fault limit) (or_else fault (numbering_fault start pieces))))

abbrev pub IsRefused : ℕ → ℕ → Option Refusal → List ℕ → VortexError → Type 0
IsRefused start limit fault lens e = (pieces : ℕ) × (IsPieceCount limit lens pieces × IsMemoryOr (or_else (limit_fault limit) (or_else fault (numbering_fault start pieces))) e)

limit-none : (limit : ℕ) → limit ≤ MAX_BUFFER_LEN → limit_fault limit ≡ None
limit-none limit h = ap (λ b. if b then None else Some limit_too_large) (le-leb limit MAX_BUFFER_LEN h)

-- the fault of the numbering, where nothing before it has one
last_fault : (start limit : ℕ) (fault : Option Refusal) (pieces : ℕ) (found : Option Refusal) → limit ≤ MAX_BUFFER_LEN → fault ≡ None → numbering_fault start pieces ≡ found → or_else (limit_fault limit) (or_else fault (numbering_fault start pieces)) ≡ found
last_fault start limit fault pieces found h none is = or_else-second (limit_fault limit) (or_else fault (numbering_fault start pieces)) found (limit-none limit h) (or_else-second fault (numbering_fault start pieces) found none is)

pub refused-limit : (start limit : ℕ) (fault : Option Refusal) (lens : List ℕ) → MAX_BUFFER_LEN < limit → IsRefused start limit fault lens LimitTooLarge
refused-limit start limit fault lens h =
    let p = piece_count limit lens in
    let first : limit_fault limit ≡ Some limit_too_large = ap (λ b. if b then None else Some limit_too_large) (lt-leb limit MAX_BUFFER_LEN h) in
    (p.0, (p.1, inr (or_else-first (limit_fault limit) (or_else fault (numbering_fault start p.0)) (Some limit_too_large) first refl)))

pub refused-numbers : (start limit : ℕ) (fault : Option Refusal) (lens : List ℕ) → limit ≤ MAX_BUFFER_LEN → fault ≡ None → ((k : ℕ) → k < length lens → get_or lens k 0 ≤ limit) → ((ends : List ℕ) → IsCut limit lens ends → 2 ^ 32 < start + length ends)
    → IsRefused start limit fault lens Overflow
refused-numbers start limit fault lens h none short past =
    ⊎_elim
    (λ (small : All (λ n. n ≤ limit) lens).
    let m = some_maximal limit lens small in
    let over : numbering_fault start (length m.0) ≡ Some overflow = ap (λ b. if b then None else Some overflow) (lt-leb (start + length m.0) (2 ^ 32) (past m.0 m.1.cut)) in
    (length m.0, (maximal_count limit lens m.0 m.1, inr (last_fault start limit fault (length m.0) (Some overflow) h none over))))
    (λ (some : HasLong limit lens). absurd (omega (arith, short some.row some.row_in, some.long)))
    (short_or_long limit lens)

-- of an error that a part answered
pub answer-memory : {A : Type 0} {Q : VortexError → Type 0} (start limit : ℕ) (fault : Option Refusal) (lens : List ℕ) (r : Result A VortexError) → IsErrAnd r Q → ((e : VortexError) → Q e → e ≡ Memory) → IsAnswer start limit fault lens r
answer-memory start limit fault lens (Ok x) h k = absurd h
answer-memory start limit fault lens (Err e) h k = let p = piece_count limit lens in (p.0, (p.1, inl (k e h)))

pub answer-fault : {A : Type 0} {Q : VortexError → Type 0} (start limit : ℕ) (fault : Option Refusal) (lens : List ℕ) (r : Result A VortexError) → limit ≤ MAX_BUFFER_LEN → IsErrAnd r Q → ((e : VortexError) → Q e → Names fault e) → IsAnswer start limit fault lens r
answer-fault start limit fault lens (Ok x) small h k = absurd h
answer-fault start limit fault lens (Err e) small h k =
    let p = piece_count limit lens in
    let names : Names fault e = k e h in
    (p.0, (p.1, inr (or_else-second (limit_fault limit) (or_else fault (numbering_fault start p.0)) (refusal_of e) (limit-none limit small) (or_else-first fault (numbering_fault start p.0) (refusal_of e) names.1 names.0))))

pub made-faultless : (start limit : ℕ) (fault : Option Refusal) (heap lens : List ℕ) (buffers views : List (List ℕ)) → limit ≤ MAX_BUFFER_LEN → fault ≡ None → AreBuilt start limit heap lens buffers views
    → (pieces : ℕ) × (IsPieceCount limit lens pieces × (or_else (limit_fault limit) (or_else fault (numbering_fault start pieces)) ≡ None))
made-faultless start limit fault heap lens buffers views h none built =
    let named : numbering_fault start (length built.ends) ≡ None = ap (λ b. if b then None else Some overflow) (le-leb (start + length built.ends) (2 ^ 32) built.numbered) in
    (length built.ends, (maximal_count limit lens built.ends built.cut, last_fault start limit fault (length built.ends) None h none named))

-- the buffers that are built are no more than the pieces of any cut
pub AreBuilt-fewest : (start limit : ℕ) (heap lens : List ℕ) (buffers views : List (List ℕ)) → AreBuilt start limit heap lens buffers views → (others : List ℕ) → IsCut limit lens others → length buffers ≤ length others
AreBuilt-fewest start limit heap lens buffers views built others cut =
    omega (arith, ap length built.pieces, length-pieces_of heap 0 built.ends, longest_ahead limit lens built.ends others 0 0 (sum lens) (omega arith) (omega arith) built.cut.cut.pieces built.cut.longest cut.pieces)

-- lengths without a fault are within the limit
pub short_lengths : (limit heap_len : ℕ) (numbers : List ℤ) → lengths_fault limit heap_len numbers ≡ None → (k : ℕ) → k < length (lengths_of numbers) → get_or (lengths_of numbers) k 0 ≤ limit
short_lengths limit heap_len numbers e k h =
    let k_in : k < length numbers = omega (arith, length-lengths_of numbers) in
    omega (arith, length_at numbers k k_in, (AreFaultless-none limit heap_len numbers e).short k k_in)

pub short_differences : (limit heap_len : ℕ) (offsets : List ℤ) → offsets_fault limit heap_len offsets ≡ None → (k : ℕ) → k < length (lengths_of (differences offsets)) → get_or (lengths_of (differences offsets)) k 0 ≤ limit
short_differences limit heap_len offsets e k h =
    let k_in : k < length (differences offsets) = omega (arith, length-lengths_of (differences offsets)) in
    let here = first_fault-none_at (too_long_at limit (differences offsets)) (length (differences offsets)) k (AreFaultlessOffsets-none limit heap_len offsets e).short k_in in
    omega (arith, length_at (differences offsets) k k_in, leb-true (unsigned_abs (number_nth (differences offsets) k)) limit (if-none (nat_le (unsigned_abs (number_nth (differences offsets) k)) limit) (value_too_long k) here))

-- the same of what a cut found
pub made-weaker : {A E : Type 0} (P Q : A → Type 0) (r : Result (Option A) E) → ((x : A) → P x → Q x) → IfOk r (λ o. IfSome o P) → IfOk r (λ o. IfSome o Q)
made-weaker P Q (Ok (Some x)) k h = k x h
made-weaker P Q (Ok None) k h = tt
made-weaker P Q (Err e) k h = tt

pub stopped-weaker : {A E : Type 0} (P Q : Type 0) (r : Result (Option A) E) → (P → Q) → IfOk r (λ o. IfNone o P) → IfOk r (λ o. IfNone o Q)
stopped-weaker P Q (Ok (Some x)) k h = tt
stopped-weaker P Q (Ok None) k h = k h
stopped-weaker P Q (Err e) k h = tt

pub length-used : (heap : List ℕ) (first last : ℕ) → first ≤ last → last ≤ length heap → length (slice_range heap first last) ≡ last - first
length-used heap first last h k = omega (arith, length-take (last - first) (drop first heap), length-drop first heap)
