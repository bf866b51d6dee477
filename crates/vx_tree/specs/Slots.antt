-- The validity that an array has of its own, and the child that it is.
use Rattle.std.specs.Prelude.{ℕ, Bool, true, false, Option, Some, None}
use Rattle.vx_base.specs.Rows.{boolean}
use Rattle.vx_base.specs.Kinds.{booleans}
use Rattle.vx_tree.specs.Tree.{Tree, bools, primitive, constant, fixed_list, list_view, structure, view_array}
use Rattle.vx_tree.specs.Tree.{Valid, non_nullable, all_valid, all_invalid, by_array}

-- a constant and a dictionary have none of their own
abbrev pub validity_of : Tree → Valid
validity_of (bools b bits v) = v
validity_of (primitive t bs v) = v
validity_of (fixed_list e k v n) = v
validity_of (list_view e o s v f) = v
validity_of (structure ns ts v n) = v
validity_of (view_array vs bs u v) = v
validity_of _ = non_nullable

-- the same parts under another validity
abbrev pub under_validity : Tree → Valid → Tree
under_validity (bools b bits v) w = bools b bits w
under_validity (primitive t bs v) w = primitive t bs w
under_validity (fixed_list e k v n) w = fixed_list e k w n
under_validity (list_view e o s v f) w = list_view e o s w f
under_validity (structure ns ts v n) w = structure ns ts w n
under_validity (view_array vs bs k v) w = view_array vs bs k w
under_validity t w = t

-- its parts stay as they are where rows become null; views become empty, and a constant and a dictionary have no validity
abbrev pub keeps_parts : Tree → Bool
keeps_parts (bools b bits v) = true
keeps_parts (primitive t bs v) = true
keeps_parts (fixed_list e k v n) = true
keeps_parts (list_view e o s v f) = true
keeps_parts (structure ns ts v n) = true
keeps_parts _ = false

-- none where no row is null, a constant false where every row is, else the array
abbrev pub validity_slot : Valid → ℕ → Option Tree
validity_slot non_nullable n = None
validity_slot all_valid n = None
validity_slot all_invalid n = Some (constant (booleans false) (boolean false) n)
validity_slot (by_array t) n = Some t
