-- What offsets and sizes tell of, and whether it lies within what they refer to.
use Rattle.std.specs.Prelude.{◌≡◌, ◌+◌, ◌<◌, ◌≤◌, ◌-ℤ◌, ℕ, ℤ, pos, List, length, map, slice_range, unsigned_abs, IsUtf8, Option, Some}
use Rattle.vx_base.specs.Integers.{number_nth}

-- ---- what lies between offsets

-- how far an offset lies past the first one
abbrev pub past_first : List ℤ → ℕ → ℤ
past_first offsets i = number_nth offsets i -ℤ number_nth offsets 0

-- the offsets, counted from the first one
abbrev pub starts_of : List ℤ → List ℤ
starts_of offsets = map (λ z. z -ℤ number_nth offsets 0) offsets

-- the bytes between an offset and the next one, where the first byte is that at the first offset
abbrev pub between : List ℤ → List ℕ → ℕ → List ℕ
between offsets heap i = slice_range heap (unsigned_abs (past_first offsets i)) (unsigned_abs (past_first offsets (i + 1)))

-- what lies between an offset and the next one starts and ends within so many
pub record IsSpan (offsets : List ℤ) (count i : ℕ) : Type 0 where
  pub start : ℕ
  pub end : ℕ
  pub starts : past_first offsets i ≡ pos start
  pub ends : past_first offsets (i + 1) ≡ pos end
  pub in_order : start ≤ end
  pub within : end ≤ count

abbrev pub AreSpans : List ℤ → ℕ → Type 0
AreSpans offsets count = (i : ℕ) → i + 1 < length offsets → IsSpan offsets count i

-- and is UTF-8
abbrev pub AreTexts : List ℤ → List ℕ → Type 0
AreTexts offsets heap = (i : ℕ) → i + 1 < length offsets → IsUtf8 (between offsets heap i)

-- ---- lists

-- so many elements after so many others, where both are told, are no more than there are
abbrev pub IsWithin : Option ℕ → Option ℕ → ℕ → Type 0
IsWithin (Some start) (Some size) count = start + size ≤ count
IsWithin _ _ count = ⊥

-- a list of so many elements from an offset on lies among so many
pub record IsListRow (offset size : ℤ) (count : ℕ) : Type 0 where
  pub start : ℕ
  pub elements : ℕ
  pub starts : offset ≡ pos start
  pub has : size ≡ pos elements
  pub within : start + elements ≤ count

abbrev pub AreListRows : List ℤ → List ℤ → ℕ → Type 0
AreListRows offsets sizes count = (i : ℕ) → i < length offsets → IsListRow (number_nth offsets i) (number_nth sizes i) count

-- ---- places

-- a number is a place among so many
pub record IsPlace (number : ℤ) (count : ℕ) : Type 0 where
  pub place : ℕ
  pub is : number ≡ pos place
  pub within : place < count

abbrev pub ArePlaces : List ℤ → ℕ → Type 0
ArePlaces numbers count = (i : ℕ) → i < length numbers → IsPlace (number_nth numbers i) count
