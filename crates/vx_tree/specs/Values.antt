-- The bytes of a row.
use Rattle.std.specs.Prelude.{ℕ, List, Option, Some, None}
use Rattle.vx_base.specs.Rows.{Row, bytes, text}

-- the bytes of a row that is a text or a byte list
abbrev pub bytes_in : Row → Option (List ℕ)
bytes_in (bytes value) = Some value
bytes_in (text value) = Some value
bytes_in _ = None
