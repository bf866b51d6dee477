-- Rows that are packed into buffers.
use Rattle.std.specs.Prelude.{ℕ, List, [], length}
use Rattle.vx_base.specs.Rows.{Row, bytes, text}

-- the bytes of a text or a byte list: none where it is null
abbrev pub row_bytes : Row → List ℕ
row_bytes (bytes value) = value
row_bytes (text value) = value
row_bytes _ = []

-- how many there are
abbrev pub row_size : Row → ℕ
row_size row = length (row_bytes row)
