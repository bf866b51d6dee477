-- Counts that lie as bytes of an integer type.
use Rattle.std.specs.Prelude.{◌≡◌, ℕ, ◌*◌, ℤ, pos, negsuc, ◌≤ℤ◌, List, length, map, take}
use Rattle.std.specs.List.{All}
use Rattle.vx_base.specs.declared.ptypes.PType.{PType}
use Rattle.vx_base.specs.Integers.{byte_width, numbers}

-- the count that a number is
abbrev pub count_of : ℤ → ℕ
count_of (pos n) = n
count_of (negsuc n) = 0

-- the counts that bytes of a type hold, one after another
abbrev pub counts_of : PType → List ℕ → List ℕ
counts_of t bytes = map count_of (numbers t bytes)

-- no number that bytes of a type hold is negative
abbrev pub AreCountBytes : PType → List ℕ → Type 0
AreCountBytes t bytes = All (λ z. pos 0 ≤ℤ z) (numbers t bytes)

-- bytes that hold these counts, and no byte more
pub record HoldCounts (t : PType) (bytes counts : List ℕ) : Type 0 where
  pub are : numbers t bytes ≡ map pos counts
  pub whole : length bytes ≡ length counts * byte_width t

-- the numbers before place i
abbrev pub numbers_before : PType → ℕ → List ℕ → List ℤ
numbers_before t i bytes = numbers t (take (i * byte_width t) bytes)
