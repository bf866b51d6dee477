-- What the 16 bytes of a view stand for, and the words by which values are compared.
-- A view is a list of 16 bytes, and the buffers that it may refer to are a list of lists of bytes. Numbers stand with their
-- lowest byte first.
use Rattle.std.specs.Prelude.{◌≡◌, ℕ, ◌+◌, ◌-◌, ◌^◌, ◌<◌, ◌≤◌, min, Bool, if◌then◌else◌, List, [], ◌++◌, length, take, drop, replicate}
use Rattle.std.specs.Prelude.{nat_le, slice_range, slice_index_or}
use Rattle.std.specs.Int.{w32, w64, from_le_bytes, to_le_bytes, from_be_bytes}
use Rattle.vx_views.specs.declared.view.TheConstants.{MAX_INLINED_SIZE}
pub use Rattle.vx_base.specs.Bytes.{AreBytes}

-- ---- what a view says

-- the number in the four bytes at a place
unfoldable pub number_le : List ℕ → ℕ → ℕ
number_le bytes place = from_le_bytes w32 (slice_range bytes place (place + 4))

-- how many bytes the value has
abbrev pub view_size : List ℕ → ℕ
view_size view = number_le view 0

-- the value's first four bytes, or fewer and then what pads them
abbrev pub view_prefix : List ℕ → List ℕ
view_prefix view = slice_range view 4 8

-- which buffer has the value of a view that refers to one
abbrev pub view_block : List ℕ → ℕ
view_block view = number_le view 8

-- where the value begins in that buffer
abbrev pub view_offset : List ℕ → ℕ
view_offset view = number_le view 12

-- a value of at most MAX_INLINED_SIZE bytes stands in the view itself
abbrev pub is_inline : List ℕ → Bool
is_inline view = nat_le (view_size view) MAX_INLINED_SIZE

-- the buffer of a number, empty where there is none
abbrev pub buffer_at : List (List ℕ) → ℕ → List ℕ
buffer_at buffers block = slice_index_or buffers block []

-- the value: bytes of the view itself, or of the buffer that it refers to
abbrev pub view_value : List (List ℕ) → List ℕ → List ℕ
view_value buffers view =
    if is_inline view then slice_range view 4 (4 + view_size view)
    else slice_range (buffer_at buffers (view_block view)) (view_offset view) (view_offset view + view_size view)

-- the buffer that a view refers to is there, and is long enough; an inlined view refers to none
abbrev pub Resolves : List (List ℕ) → List ℕ → Type 0
Resolves buffers view =
    MAX_INLINED_SIZE < view_size view →
    (view_block view < length buffers) × (view_offset view + view_size view ≤ length (buffer_at buffers (view_block view)))

-- 16 bytes
pub record IsView (view : List ℕ) : Type 0 where
  pub sixteen : length view ≡ 16
  pub bytes : AreBytes view

-- ---- the view of a value

-- the first so many bytes of a value, and zeroes where it has no more
unfoldable pub padded : ℕ → List ℕ → List ℕ
padded len value = take len (value ++ replicate len 0)

-- the view that refers to a value of a size and prefix, in the buffer of a number, from an offset on
unfoldable pub ref_view : ℕ → List ℕ → ℕ → ℕ → List ℕ
ref_view size prefix block offset = to_le_bytes w32 size ++ prefix ++ to_le_bytes w32 block ++ to_le_bytes w32 offset

-- the view that holds a value of at most MAX_INLINED_SIZE bytes
unfoldable pub inlined_view : List ℕ → List ℕ
inlined_view value = to_le_bytes w32 (length value) ++ padded MAX_INLINED_SIZE value

-- the view of a value that stands in the buffer of a number, from an offset on
abbrev pub view_of : List ℕ → ℕ → ℕ → List ℕ
view_of value block offset =
    if nat_le (length value) MAX_INLINED_SIZE then inlined_view value else ref_view (length value) (take 4 value) block offset

-- the value that an inlined view holds
abbrev pub held_value : List ℕ → List ℕ
held_value view = slice_range view 4 (4 + view_size view)

-- an inlined view, with zeroes after its value
pub record IsZeroPadded (view : List ℕ) : Type 0 where
  pub formed : IsView view
  pub inlined : view_size view ≤ MAX_INLINED_SIZE
  pub zeroes : slice_range view 4 16 ≡ padded MAX_INLINED_SIZE (held_value view)

-- a value above MAX_INLINED_SIZE bytes stands in the buffer of a number, from an offset on
abbrev pub StandsAt : List (List ℕ) → List ℕ → ℕ → ℕ → Type 0
StandsAt buffers value block offset =
    MAX_INLINED_SIZE < length value →
    (block < length buffers) × (offset + length value ≤ length (buffer_at buffers block))
    × (slice_range (buffer_at buffers block) offset (offset + length value) ≡ value)

-- ---- words

-- the length and the prefix as one number
unfoldable pub view_head : List ℕ → ℕ
view_head view = from_le_bytes w64 (slice_range view 0 8)

-- the prefix as a number whose order is the bytes' order
unfoldable pub view_order_prefix : List ℕ → ℕ
view_order_prefix view = from_be_bytes w32 (view_prefix view)

-- the other eight bytes of an inlined view as a number whose order is the bytes' order
unfoldable pub view_order_tail : List ℕ → ℕ
view_order_tail view = from_be_bytes w64 (slice_range view 8 16)

-- the prefix that a view of the value has
abbrev pub prefix_of : List ℕ → List ℕ
prefix_of value = padded 4 value

-- the head that a view of the value has; a length above a u32 counts as the greatest u32
unfoldable pub head_of : List ℕ → ℕ
head_of value = from_le_bytes w64 (to_le_bytes w32 (min (length value) (2 ^ 32 - 1)) ++ prefix_of value)

-- the value's first four bytes as a number whose order is the bytes' order
unfoldable pub order_prefix_of : List ℕ → ℕ
order_prefix_of value = from_be_bytes w32 (prefix_of value)

-- the eight bytes after those, likewise
unfoldable pub order_tail_of : List ℕ → ℕ
order_tail_of value = from_be_bytes w64 (padded 8 (drop 4 value))
