-- What a call that builds views is refused for, the first fault first. Lengths and offsets are integers of any type.
use Rattle.std.specs.Prelude.{◌≡◌, ℕ, ℤ, pos, ◌-ℤ◌, ◌+◌, ◌-◌, ◌^◌, List, length, map, drop, sum, if◌then◌else◌, ◌==◌, nat_le, int_lt, ◌≤ℤ◌}
use Rattle.std.specs.Prelude.{◌<◌, ◌≤◌, Option, Some, None, slice_range, unsigned_abs}
use Rattle.std.specs.Int.{is_negative}
use Rattle.std.specs.List.{zip}
use Rattle.vx_base.specs.Integers.{number_nth}
use Rattle.vx_base.specs.Refusals.{Refusal, limit_too_large, negative, lengths_not_exact, value_too_long, overflow, empty_input}
use Rattle.vx_base.specs.Refusals.{falling_offsets, out_of_bounds, or_else, first_fault}
use Rattle.vx_views.specs.Cut.{IsMaximalCut}
use Rattle.vx_views.specs.declared.view.TheConstants.{MAX_BUFFER_LEN}

-- integers, none of them negative, as lengths
abbrev pub lengths_of : List ℤ → List ℕ
lengths_of numbers = map unsigned_abs numbers

-- each offset but the first, less the one before it
abbrev pub differences : List ℤ → List ℤ
differences offsets = map (λ pair. pair.1 -ℤ pair.0) (zip offsets (drop 1 offsets))

-- the lengths of the values between offsets
abbrev pub lengths_between : List ℤ → List ℕ
lengths_between offsets = lengths_of (differences offsets)

abbrev pub first_offset : List ℤ → ℕ
first_offset offsets = unsigned_abs (number_nth offsets 0)

abbrev pub last_offset : List ℤ → ℕ
last_offset offsets = unsigned_abs (number_nth offsets (length offsets - 1))

-- the part of a heap from the first offset to the last
abbrev pub used_part : List ℕ → List ℤ → List ℕ
used_part heap offsets = slice_range heap (first_offset offsets) (last_offset offsets)

-- the bytes of a heap between the offset of a row and the next one
abbrev pub bytes_between : List ℕ → List ℤ → ℕ → List ℕ
bytes_between heap offsets row = slice_range heap (unsigned_abs (number_nth offsets row)) (unsigned_abs (number_nth offsets (row + 1)))

-- ---- one fault each

-- the limit passes the greatest length of a buffer
abbrev pub limit_fault : ℕ → Option Refusal
limit_fault limit = if nat_le limit MAX_BUFFER_LEN then None else Some limit_too_large

-- the integer of the row is negative
abbrev pub negative_at : List ℤ → ℕ → Option Refusal
negative_at numbers row = if is_negative (number_nth numbers row) then Some (negative row) else None

-- the lengths are not those of a heap of so many bytes
abbrev pub sum_fault : ℕ → List ℤ → Option Refusal
sum_fault heap_len numbers = if sum (lengths_of numbers) == heap_len then None else Some lengths_not_exact

-- the value of the row is longer than the limit
abbrev pub too_long_at : ℕ → List ℤ → ℕ → Option Refusal
too_long_at limit numbers row = if nat_le (unsigned_abs (number_nth numbers row)) limit then None else Some (value_too_long row)

-- the number of the last of so many pieces, numbered from `start` on, passes u32
abbrev pub numbering_fault : ℕ → ℕ → Option Refusal
numbering_fault start pieces = if nat_le (start + pieces) (2 ^ 32) then None else Some overflow

-- there is no offset
abbrev pub no_offset_fault : List ℤ → Option Refusal
no_offset_fault offsets = if length offsets == 0 then Some empty_input else None

-- the offset of the row is less than the one before it
abbrev pub falling_at : List ℤ → ℕ → Option Refusal
falling_at offsets row = if int_lt (number_nth offsets row) (number_nth offsets (row - 1)) then Some (falling_offsets row) else None

-- the last offset lies past a heap of so many bytes
abbrev pub past_heap_fault : ℕ → List ℤ → Option Refusal
past_heap_fault heap_len offsets = if nat_le (last_offset offsets) heap_len then None else Some (out_of_bounds (last_offset offsets))

-- ---- the least faulty row

abbrev pub first_negative : List ℤ → Option Refusal
first_negative numbers = first_fault (negative_at numbers) (length numbers)

abbrev pub first_too_long : ℕ → List ℤ → Option Refusal
first_too_long limit numbers = first_fault (too_long_at limit numbers) (length numbers)

abbrev pub first_falling : List ℤ → Option Refusal
first_falling offsets = first_fault (falling_at offsets) (length offsets)

-- ---- the first fault of all

-- of lengths over a heap of so many bytes
abbrev pub lengths_fault : ℕ → ℕ → List ℤ → Option Refusal
lengths_fault limit heap_len lens = or_else (first_negative lens) (or_else (sum_fault heap_len lens) (first_too_long limit lens))

-- of building views by lengths, where the maximal cut has so many pieces
abbrev pub build_fault : ℕ → ℕ → ℕ → List ℤ → ℕ → Option Refusal
build_fault start limit heap_len lens pieces =
    or_else (limit_fault limit) (or_else (lengths_fault limit heap_len lens) (numbering_fault start pieces))

-- of offsets into a heap of so many bytes
abbrev pub offsets_fault : ℕ → ℕ → List ℤ → Option Refusal
offsets_fault limit heap_len offsets =
    or_else (no_offset_fault offsets) (or_else (first_negative offsets) (or_else (first_falling offsets)
    (or_else (past_heap_fault heap_len offsets) (first_too_long limit (differences offsets)))))

-- of building views by offsets, where the maximal cut has so many pieces
abbrev pub build_from_offsets_fault : ℕ → ℕ → ℕ → List ℤ → ℕ → Option Refusal
build_from_offsets_fault start limit heap_len offsets pieces =
    or_else (limit_fault limit) (or_else (offsets_fault limit heap_len offsets) (numbering_fault start pieces))

-- how many pieces the maximal cut has, where there is one (there is where no value is longer than the limit)
abbrev pub IsPieceCount : ℕ → List ℕ → ℕ → Type 0
IsPieceCount limit lens pieces = (ends : List ℕ) → IsMaximalCut limit lens ends → length ends ≡ pieces

-- no offset is less than the one before it
abbrev pub AreRising : List ℤ → Type 0
AreRising offsets = (row : ℕ) → row + 1 < length offsets → number_nth offsets row ≤ℤ number_nth offsets (row + 1)

-- the part of a heap of so many bytes that offsets use, from the first to the last
pub record IsUsedRange (heap_len : ℕ) (offsets : List ℤ) (first last : ℕ) : Type 0 where
  pub some : 0 < length offsets
  pub first_is : number_nth offsets 0 ≡ pos first
  pub last_is : number_nth offsets (length offsets - 1) ≡ pos last
  pub in_order : first ≤ last
  pub within : last ≤ heap_len
