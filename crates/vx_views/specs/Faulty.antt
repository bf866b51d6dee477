-- Why a view may not stand at a valid row, and which of several faults is named.
use Rattle.std.specs.Prelude.{ℕ, ◌+◌, Bool, not, ◌&&◌, nat_lt, nat_le, if◌then◌else◌, List, [], length, take, bytes_eq, slice_index_or}
use Rattle.std.specs.Prelude.{Option, Some, None}
use Rattle.std.specs.Str.{is_utf8}
use Rattle.vx_base.specs.Bits.{bool_at}
use Rattle.vx_base.specs.Refusals.{Refusal, not_utf8, bad_buffer, bad_start, bad_end, bad_prefix, or_else, first_fault}
use Rattle.vx_views.specs.Views.{view_size, view_prefix, view_block, view_offset, is_inline, buffer_at, view_value}

-- what is wrong with where a view refers to: there is no such buffer, it does not reach to the value's start or not to
-- its end, or the value there begins otherwise than the view says
abbrev pub place_fault : List (List ℕ) → List ℕ → ℕ → Option Refusal
place_fault buffers view row =
    let buffer = buffer_at buffers (view_block view) in
    if nat_le (length buffers) (view_block view) then Some (bad_buffer row)
    else if nat_le (length buffer) (view_offset view) then Some (bad_start row)
    else if nat_lt (length buffer) (view_offset view + view_size view) then Some (bad_end row)
    else if bytes_eq (view_prefix view) (take 4 (view_value buffers view)) then None
    else Some (bad_prefix row)

-- what is wrong with a value of which text is asked
abbrev pub text_fault : Bool → List ℕ → ℕ → Option Refusal
text_fault check_utf8 value row = if check_utf8 && not (is_utf8 value) then Some (not_utf8 row) else None

-- the first fault of the view of a valid row
abbrev pub view_fault : Bool → List (List ℕ) → List ℕ → ℕ → Option Refusal
view_fault check_utf8 buffers view row =
    or_else (if is_inline view then None else place_fault buffers view row) (text_fault check_utf8 (view_value buffers view) row)

-- the fault of a row: a null row has none, whatever its view says
abbrev pub row_fault : Bool → List Bool → List (List ℕ) → List (List ℕ) → ℕ → Option Refusal
row_fault check_utf8 mask buffers views row =
    if bool_at mask row then view_fault check_utf8 buffers (slice_index_or views row []) row else None

-- the fault of the least faulty row
unfoldable pub views_fault : Bool → List Bool → List (List ℕ) → List (List ℕ) → Option Refusal
views_fault check_utf8 mask buffers views = first_fault (row_fault check_utf8 mask buffers views) (length views)
