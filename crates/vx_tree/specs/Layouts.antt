-- The layout of an array.
use Rattle.std.specs.Prelude.{ℕ, Bool, true, false}
use Rattle.vx_tree.specs.Tree.{Tree, bools, primitive, constant, dictionary, fixed_list, list_view, view_array, structure}

abbrev pub is_bools : Tree → Bool
is_bools (bools b bits v) = true
is_bools _ = false

abbrev pub is_primitive : Tree → Bool
is_primitive (primitive t bs v) = true
is_primitive _ = false

abbrev pub is_constant : Tree → Bool
is_constant (constant k r n) = true
is_constant _ = false

abbrev pub is_dictionary : Tree → Bool
is_dictionary (dictionary c v f) = true
is_dictionary _ = false

abbrev pub is_fixed_list : Tree → Bool
is_fixed_list (fixed_list e k v n) = true
is_fixed_list _ = false

abbrev pub is_list_view : Tree → Bool
is_list_view (list_view e o s v f) = true
is_list_view _ = false

abbrev pub is_view_array : Tree → Bool
is_view_array (view_array vs bs k v) = true
is_view_array _ = false

abbrev pub is_struct : Tree → Bool
is_struct (structure ns ts v n) = true
is_struct _ = false

-- rows that have no rows in them, each by its own place: booleans, integers, texts and byte lists
abbrev pub is_leaf : Tree → Bool
is_leaf (bools b bits v) = true
is_leaf (primitive t bs v) = true
is_leaf (view_array vs bs k v) = true
is_leaf _ = false

-- ---- parts

-- the bit of the first byte at which the booleans begin
abbrev pub first_bit : Tree → ℕ
first_bit (bools b bits v) = b
first_bit _ = 0

-- the values that the codes of a dictionary name
abbrev pub values_in : Tree → Tree
values_in (dictionary c v f) = v
values_in t = t
