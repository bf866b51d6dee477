-- Buffers that are lent.
use Rattle.std.specs.Prelude.{ℕ, List, [], length, map, slice_index_or, ◌<◌, IsUtf8}
use Rattle.vx_c.specs.declared.table.CodraskBytes.{CodraskBytes}

-- the bytes of each buffer
abbrev pub bytes_in : List CodraskBytes → List (List ℕ)
bytes_in buffers = map (λ b. b.bytes.now) buffers

-- each buffer is UTF-8
abbrev pub AreTextBuffers : List CodraskBytes → Type 0
AreTextBuffers buffers = (i : ℕ) → i < length buffers → IsUtf8 (slice_index_or (bytes_in buffers) i [])
