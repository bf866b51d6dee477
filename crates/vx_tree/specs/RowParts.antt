-- The parts of rows.
use Rattle.std.specs.Prelude.{ℕ, zero, suc, Bool, false, List, [], length, replicate, nat_lt}
use Rattle.vx_base.specs.Rows.{Row, null, bytes, text, items, record_of, Fields, no_fields, field, list_from}
use Rattle.vx_views.specs.declared.view.TheConstants.{MAX_INLINED_SIZE}

-- a value too long to stand in its view
abbrev pub is_long : List ℕ → Bool
is_long bs = nat_lt MAX_INLINED_SIZE (length bs)

-- a text or a byte list that is too long to stand in its view
abbrev pub is_long_row : Row → Bool
is_long_row (bytes bs) = is_long bs
is_long_row (text bs) = is_long bs
is_long_row _ = false

-- the rows of a list, none where it is null
abbrev pub items_in : Row → List Row
items_in (items rs) = list_from rs
items_in _ = []

-- the rows of a list of a size, so many nulls where it is null
abbrev pub items_or_nulls : ℕ → Row → List Row
items_or_nulls size (items rs) = list_from rs
items_or_nulls size _ = replicate size null

-- the row of the field at a place, null where there is none
abbrev pub field_at : ℕ → Fields → Row
field_at c no_fields = null
field_at zero (field name r fs) = r
field_at (suc c) (field name r fs) = field_at c fs

abbrev pub field_in : ℕ → Row → Row
field_in c (record_of fs) = field_at c fs
field_in c _ = null
