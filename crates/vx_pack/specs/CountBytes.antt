-- Counts that stand as bytes of an integer type.
use Rattle.std.specs.Prelude.{◌≤ℤ◌, ℕ, ℤ, pos, negsuc, List, map}
use Rattle.std.specs.List.{All}
use Rattle.vx_base.specs.Integers.{numbers}
use Rattle.vx_base.specs.declared.ptypes.PType.{PType}

-- the count that a number is
abbrev pub count_of : ℤ → ℕ
count_of (pos n) = n
count_of (negsuc n) = 0

-- the counts that bytes of a type hold, one after another
abbrev pub counts_of : PType → List ℕ → List ℕ
counts_of t bytes = map count_of (numbers t bytes)

-- no number that bytes of a type hold is negative
abbrev pub AreCountBytes : PType → List ℕ → Type 0
AreCountBytes t bytes = All (λ z. pos 0 ≤ℤ z) (numbers t bytes)
