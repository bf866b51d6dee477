-- The flags of what is selected and of what is nulled.
use Rattle.std.proofs.Common.{ℕ, ◌≡◌, Bool, false, List, refl, sym, ◌∙◌, ap}
use Rattle.vx_base.specs.Rows.{Row}
use Rattle.vx_base.specs.Kinds.{Kind}
use Rattle.vx_tree.specs.Tree.{Tree, bools, primitive, constant, dictionary, fixed_list, list_view, structure, view_array, Valid}
use Rattle.vx_tree.specs.Shapes.{State, never_null, none_null, every_null, told, Shape, bool_shape, primitive_shape, constant_shape, dictionary_shape, fixed_list_shape, list_view_shape, struct_shape, view_shape, state_of, shape_of, selected_shape, nulled_constant, nulled_shape}
use Rattle.vx_tree.specs.Flags.{is_flagged}
use Rattle.vx_tree.specs.Operations.{IsSelected, IsNulled}

-- the flag that a shape tells
abbrev shape_flag : Shape → Bool
shape_flag (dictionary_shape v s f) = f
shape_flag (list_view_shape e o z s f) = f
shape_flag _ = false

flag_told : (t : Tree) → is_flagged t ≡ shape_flag (shape_of t)
flag_told (bools b bits v) = refl
flag_told (primitive t bs v) = refl
flag_told (constant k r n) = refl
flag_told (dictionary c v f) = refl
flag_told (fixed_list e k v n) = refl
flag_told (list_view e o s v f) = refl
flag_told (structure ns ts v n) = refl
flag_told (view_array vs bs u v) = refl

selected_flag : (x : Shape) → shape_flag (selected_shape x) ≡ false
selected_flag (bool_shape s) = refl
selected_flag (primitive_shape s) = refl
selected_flag (constant_shape k r) = refl
selected_flag (dictionary_shape v s f) = refl
selected_flag (fixed_list_shape s) = refl
selected_flag (list_view_shape e o z s f) = refl
selected_flag (struct_shape s) = refl
selected_flag (view_shape bs s) = refl

nulled_constant_flag : (k : Kind) (r : Row) (index : State) → shape_flag (nulled_constant k r index) ≡ false
nulled_constant_flag k r never_null = refl
nulled_constant_flag k r none_null = refl
nulled_constant_flag k r every_null = refl
nulled_constant_flag k r told = refl

nulled_flag : (x : Shape) (index : State) → shape_flag x ≡ false → shape_flag (nulled_shape x index) ≡ false
nulled_flag (bool_shape s) index h = refl
nulled_flag (primitive_shape s) index h = refl
nulled_flag (constant_shape k r) index h = nulled_constant_flag k r index
nulled_flag (dictionary_shape v s f) index h = refl
nulled_flag (fixed_list_shape s) index h = refl
nulled_flag (list_view_shape e o z s f) index h = h
nulled_flag (struct_shape s) index h = refl
nulled_flag (view_shape bs s) index h = refl

pub flag_of_selected : (t s : Tree) (ps : List ℕ) → IsSelected t ps s → is_flagged s ≡ false
flag_of_selected t s ps h = flag_told s ∙ ap shape_flag h.shape ∙ selected_flag (shape_of t)

pub flag_of_nulled : (s r : Tree) (u : Valid) → IsNulled s u r → is_flagged s ≡ false → is_flagged r ≡ false
flag_of_nulled s r u h none = flag_told r ∙ ap shape_flag h.shape ∙ nulled_flag (shape_of s) (state_of u) (sym (flag_told s) ∙ none)
