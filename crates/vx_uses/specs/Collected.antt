-- Rows of items that may be none.
use Rattle.std.specs.Prelude.{ℤ, Bool, Option, Some, None}
use Rattle.vx_base.specs.Rows.{Row, null, boolean, whole}

-- the number of an item as a row, null where there is none
abbrev pub number_row : {A : Type 0} → (A → ℤ) → Option A → Row
number_row value None = null
number_row value (Some item) = whole (value item)

-- a truth value as a row, null where there is none
abbrev pub truth_row : Option Bool → Row
truth_row None = null
truth_row (Some truth) = boolean truth
