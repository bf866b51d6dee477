-- Why the cut of a heap is not made: the lengths have a fault, or no cut's pieces can be numbered.
use Rattle.std.proofs.Common.{◌≡◌, ℕ, ℤ, pos, ◌+◌, ◌-◌, ◌^◌, ◌<◌, ◌≤◌, IsTrue, true, false, List, length, take, get_or, sum, None, unsigned_abs, sym, ap, ◌∙◌, arith}
use Rattle.std.specs.Int.{is_negative}
use Rattle.std.proofs.lemmas.List.Sums.{sum_by-take-le}
use Rattle.vx_views.specs.Cut.{IsCut}
use Rattle.vx_views.specs.BuildFaults.{lengths_of, lengths_fault}
use Rattle.vx_base.specs.Integers.{number_nth}
use Rattle.vx_views.proofs.CutOpen.{sum_more, more_pieces}
use Rattle.vx_views.proofs.CutPlaces.{IsCutting}
use Rattle.vx_views.proofs.NoFaults.{AreFaultless-none, length_at, length-lengths_of}

-- each cut has so many pieces that the last number passes u32
abbrev pub PassNumbers : ℕ → ℕ → List ℤ → Type 0
PassNumbers start limit numbers = (ends : List ℕ) → IsCut limit (lengths_of numbers) ends → 2 ^ 32 < start + length ends

pub stop-negative : (start limit heap_len : ℕ) (numbers : List ℤ) (k : ℕ) → k < length numbers → IsTrue (is_negative (number_nth numbers k)) → lengths_fault limit heap_len numbers ≡ None → PassNumbers start limit numbers
stop-negative start limit heap_len numbers k h below e =
    let natural : is_negative (number_nth numbers k) ≡ false = (AreFaultless-none limit heap_len numbers e).natural k h in
    let both : false ≡ true = sym natural ∙ below in
    absurd (cc)

-- the value of the row is longer than the limit, or ends past the heap
pub stop-fits_not : (start limit heap_len : ℕ) (numbers : List ℤ) (k at n : ℕ) → k < length numbers → number_nth numbers k ≡ pos n → at ≡ sum (take k (lengths_of numbers)) → (n ≤ limit → at + n ≤ heap_len → ⊥) → lengths_fault limit heap_len numbers ≡ None → PassNumbers start limit numbers
stop-fits_not start limit heap_len numbers k at n h same at_is fits_not e =
    let sound = AreFaultless-none limit heap_len numbers e in
    let here : unsigned_abs (number_nth numbers k) ≡ n = ap unsigned_abs same in
    let k_in : k < length (lengths_of numbers) = omega (arith, length-lengths_of numbers) in
    absurd (fits_not (omega (arith, sound.short k h)) (omega (arith, sound.exact, length_at numbers k h, sum_more (lengths_of numbers) k k_in, sum_by-take-le (λ (x : ℕ). x) (lengths_of numbers) (k + 1))))

-- the open piece has the last number, and the next value does not fit in it
pub stop-number : (start limit : ℕ) (heap : List ℕ) (numbers : List ℤ) (k : ℕ) (buffers views : List (List ℕ)) (number begin at n : ℕ) → IsCutting start limit heap (lengths_of numbers) k buffers views number begin at → k < length numbers → number_nth numbers k ≡ pos n → n ≤ limit → limit < at - begin + n → number ≡ 2 ^ 32 - 1 → PassNumbers start limit numbers
stop-number start limit heap numbers k buffers views number begin at n w h same small over last others cut =
    let here : unsigned_abs (number_nth numbers k) ≡ n = ap unsigned_abs same in
    let k_in : k < length (lengths_of numbers) = omega (arith, length-lengths_of numbers) in
    let len : get_or (lengths_of numbers) k 0 ≡ n = length_at numbers k h ∙ here in
    let more = sum_more (lengths_of numbers) k k_in in
    omega (arith, w.at_is, w.number_is, w.opened.low, more_pieces limit (lengths_of numbers) k w.ends begin others w.opened k_in (omega arith) (omega (arith, w.at_is, w.opened.low)) cut)
