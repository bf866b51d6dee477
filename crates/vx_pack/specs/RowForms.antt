-- What a row is.
use Rattle.std.specs.Prelude.{Bool, Option, Some, None}
use Rattle.vx_base.specs.Rows.{Row, boolean, record_of, Fields}

-- the truth value of a row, where it is one
abbrev pub truth_in : Row → Option Bool
truth_in (boolean b) = Some b
truth_in _ = None

-- the fields of a row, where it is a record
abbrev pub record_in : Row → Option Fields
record_in (record_of fs) = Some fs
record_in _ = None
