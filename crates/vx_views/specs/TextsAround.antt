-- Where texts lie in bytes that are none as a whole: round each 64th byte the longest one.
use Rattle.std.specs.Prelude.{◌≡◌, ◌<◌, ◌≤◌, ◌*◌, ℕ, Bool, false, if◌then◌else◌, List, [], length, take, slice_index_or, slice_range, IsUtf8}
use Rattle.std.specs.List.{range_with_len, sum_by, zip}
use Rattle.vx_base.specs.Bits.{bool_at}
use Rattle.vx_views.specs.Views.{view_size, view_block, is_inline, buffer_at}

-- the first so many bytes are the longest text that the bytes begin with
pub record IsLongestFront (bytes : List ℕ) (count : ℕ) : Type 0 where
  pub within : count ≤ length bytes
  pub text : IsUtf8 (take count bytes)
  pub longest : (more : ℕ) → count < more → more ≤ length bytes → ¬ (IsUtf8 (take more bytes))

-- the bytes of a range are a text, and it holds each text that the byte at place p is part of
pub record IsTextAround (bytes : List ℕ) (p : ℕ) (range : ℕ × ℕ) : Type 0 where
  pub order : range.0 ≤ range.1
  pub within : range.1 ≤ length bytes
  pub text : IsUtf8 (slice_range bytes range.0 range.1)
  pub holds : (start end : ℕ) → start ≤ p → p < end → end ≤ length bytes
      → IsUtf8 (slice_range bytes start end) → (range.0 ≤ start) × (end ≤ range.1)

-- a table of bytes: its ranges are those around the first byte, the 64th after it, and so on
abbrev pub AreTextsAround : List ℕ → List (ℕ × ℕ) → Type 0
AreTextsAround bytes table = (k : ℕ) → k < length table → IsTextAround bytes (64 * k) (slice_index_or table k (0, 0))

-- a table of each buffer; one that is short or empty says nothing of the bytes that it does not reach
abbrev pub AreTextTables : List (List ℕ) → List (List (ℕ × ℕ)) → Type 0
AreTextTables buffers tables = (block : ℕ) → AreTextsAround (buffer_at buffers block) (slice_index_or tables block [])

-- the table of each buffer that is not known to be a text reaches its last byte
abbrev pub AreReached : List Bool → List (List ℕ) → List (List (ℕ × ℕ)) → Type 0
AreReached texts buffers tables =
    (block : ℕ) → block < length buffers → bool_at texts block ≡ false
    → length (buffer_at buffers block) ≤ 64 * length (slice_index_or tables block [])

-- how many bytes of its buffer a view names, where that is not known to be a text
abbrev pub open_size : List Bool → List ℕ → ℕ
open_size texts view = if is_inline view then 0 else if bool_at texts (view_block view) then 0 else view_size view

-- the same of the view of a row, where it is valid
abbrev pub open_size_at : List Bool → List Bool → List (List ℕ) → ℕ → ℕ
open_size_at texts mask views row = if bool_at mask row then open_size texts (slice_index_or views row []) else 0

-- how many bytes the valid views name together
unfoldable pub open_sizes : List Bool → List Bool → List (List ℕ) → ℕ
open_sizes texts mask views = sum_by (open_size_at texts mask views) (range_with_len 0 (length views))

-- how many bytes a buffer has, where it is not known to be a text
abbrev pub open_len : Bool × List ℕ → ℕ
open_len pair = if pair.0 then 0 else length pair.1

-- how many bytes such buffers have together
unfoldable pub open_bytes : List Bool → List (List ℕ) → ℕ
open_bytes texts buffers = sum_by open_len (zip texts buffers)
