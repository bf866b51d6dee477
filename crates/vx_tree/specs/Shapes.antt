-- The layout of an array, with what slicing and taking keep of it.
use Rattle.std.specs.Prelude.{ℕ, Bool, true, false, List, if◌then◌else◌}
use Rattle.vx_base.specs.Rows.{Row, is_present}
use Rattle.vx_base.specs.Kinds.{Kind, is_nullable_kind}
use Rattle.vx_tree.specs.Tree.{Tree, bools, primitive, constant, dictionary, fixed_list, list_view, structure}
use Rattle.vx_tree.specs.Tree.{view_array, Valid, non_nullable, all_valid, all_invalid, by_array}
use Rattle.vx_tree.specs.Meaning.{kind_of}

-- the state of a validity
pub data State : Type 0 where
  never_null : State
  none_null : State
  every_null : State
  told : State

abbrev pub state_of : Valid → State
state_of non_nullable = never_null
state_of all_valid = none_null
state_of all_invalid = every_null
state_of (by_array t) = told

-- null may stand under the state
abbrev pub is_nullable_state : State → Bool
is_nullable_state never_null = false
is_nullable_state none_null = true
is_nullable_state every_null = true
is_nullable_state told = true

-- the state of a validity that is taken by indices of a state
abbrev pub taken_state : State → State → State
taken_state never_null index = index
taken_state none_null never_null = none_null
taken_state none_null none_null = none_null
taken_state none_null every_null = every_null
taken_state none_null told = told
taken_state every_null index = every_null
taken_state told index = told

-- the state of one row, however often
abbrev pub row_state : Kind → Row → State
row_state k r = if is_present r then (if is_nullable_kind k then none_null else never_null) else every_null

-- the state of an array: a constant's by its row, a dictionary's is its values' taken by its codes
abbrev pub tree_state : Tree → State
tree_state (bools b bits v) = state_of v
tree_state (primitive t bs v) = state_of v
tree_state (constant k r n) = row_state k r
tree_state (dictionary c v f) = taken_state (tree_state v) (tree_state c)
tree_state (fixed_list e k v n) = state_of v
tree_state (list_view e o s v f) = state_of v
tree_state (structure ns ts v n) = state_of v
tree_state (view_array vs bs u v) = state_of v

-- a layout, with its state, its flag, and what is kept whole: a constant's row, a dictionary's values, a list view's
-- elements and the kinds of its offsets and sizes, a view array's buffers
pub data Shape : Type 0 where
  bool_shape : State → Shape
  primitive_shape : State → Shape
  constant_shape : Kind → Row → Shape
  dictionary_shape : Tree → State → Bool → Shape
  fixed_list_shape : State → Shape
  list_view_shape : Tree → Kind → Kind → State → Bool → Shape
  struct_shape : State → Shape
  view_shape : List (List ℕ) → State → Shape

abbrev pub shape_of : Tree → Shape
shape_of (bools b bits v) = bool_shape (state_of v)
shape_of (primitive t bs v) = primitive_shape (state_of v)
shape_of (constant k r n) = constant_shape k r
shape_of (dictionary c v f) = dictionary_shape v (taken_state (tree_state v) (tree_state c)) f
shape_of (fixed_list e k v n) = fixed_list_shape (state_of v)
shape_of (list_view e o s v f) = list_view_shape e (kind_of o) (kind_of s) (state_of v) f
shape_of (structure ns ts v n) = struct_shape (state_of v)
shape_of (view_array vs bs u v) = view_shape bs (state_of v)

-- slicing keeps all of it, but clears a dictionary's flag
abbrev pub sliced_shape : Shape → Shape
sliced_shape (bool_shape s) = bool_shape s
sliced_shape (primitive_shape s) = primitive_shape s
sliced_shape (constant_shape k r) = constant_shape k r
sliced_shape (dictionary_shape v s f) = dictionary_shape v s false
sliced_shape (fixed_list_shape s) = fixed_list_shape s
sliced_shape (list_view_shape e o z s f) = list_view_shape e o z s f
sliced_shape (struct_shape s) = struct_shape s
sliced_shape (view_shape bs s) = view_shape bs s

-- selecting keeps all of it, but clears a list view's flag and a dictionary's
abbrev pub selected_shape : Shape → Shape
selected_shape (bool_shape s) = bool_shape s
selected_shape (primitive_shape s) = primitive_shape s
selected_shape (constant_shape k r) = constant_shape k r
selected_shape (dictionary_shape v s f) = dictionary_shape v s false
selected_shape (fixed_list_shape s) = fixed_list_shape s
selected_shape (list_view_shape e o z s f) = list_view_shape e o z s false
selected_shape (struct_shape s) = struct_shape s
selected_shape (view_shape bs s) = view_shape bs s

-- nulls make a constant a dictionary of its one row, where null may stand among them
abbrev pub nulled_constant : Kind → Row → State → Shape
nulled_constant k r never_null = constant_shape k r
nulled_constant k r index = dictionary_shape (constant k r 1) (taken_state (row_state k r) index) false

-- nulls of a validity of some state take that state, and clear a dictionary's flag
abbrev pub nulled_shape : Shape → State → Shape
nulled_shape (bool_shape s) index = bool_shape (taken_state s index)
nulled_shape (primitive_shape s) index = primitive_shape (taken_state s index)
nulled_shape (constant_shape k r) index = nulled_constant k r index
nulled_shape (dictionary_shape v s f) index = dictionary_shape v (taken_state s index) false
nulled_shape (fixed_list_shape s) index = fixed_list_shape (taken_state s index)
nulled_shape (list_view_shape e o z s f) index = list_view_shape e o z (taken_state s index) f
nulled_shape (struct_shape s) index = struct_shape (taken_state s index)
nulled_shape (view_shape bs s) index = view_shape bs (taken_state s index)

-- taking selects, and takes the nulls of the indices
abbrev pub taken_shape : Shape → State → Shape
taken_shape s index = nulled_shape (selected_shape s) index
