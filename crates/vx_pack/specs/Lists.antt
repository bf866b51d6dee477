-- The rows of a list, as a part.
use Rattle.std.specs.Prelude.{◌≡◌, Bool, true, false, Option, Some, None}
use Rattle.vx_base.specs.Kinds.{Kind, lists, fixed_lists}
use Rattle.vx_base.specs.Rows.{Row, items, list_in}
use Rattle.vx_tree.specs.Meaning.{rows_range}
use Rattle.vx_pack.specs.Parts.{IsPart, part_len, part_row}
use Rattle.vx_pack.specs.declared.parts.Part.{Part}

-- a row that is a list
abbrev pub is_list : Row → Bool
is_list (items rs) = true
is_list _ = false

-- a kind of lists
abbrev pub is_lists : Kind → Bool
is_lists (lists k n) = true
is_lists (fixed_lists k size n) = true
is_lists _ = false

-- the kind of the items of a kind of lists
abbrev pub IsItemOf : Kind → Kind → Type 0
IsItemOf item (lists k n) = k ≡ item
IsItemOf item (fixed_lists k size n) = k ≡ item
IsItemOf item _ = ⊥

-- a row is the list of these rows
pub record IsListOf (item : Kind) (r : Row) (p : Part) : Type 0 where
  pub rows : r ≡ items (rows_range (part_row item p) 0 (part_len p))
  pub part : IsPart item p

-- the rows of a row, where it is a list
abbrev pub IsListIn : Kind → Row → Option Part → Type 0
IsListIn item r None = list_in r ≡ None
IsListIn item r (Some p) = IsListOf item r p
