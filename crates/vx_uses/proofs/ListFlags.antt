-- List views under another flag, and what a flag tells of them.
use Rattle.std.proofs.Common.{◌≡◌, Bool, true, refl}
use Rattle.vx_tree.specs.Tree.{Tree, bools, primitive, constant, dictionary, fixed_list, list_view, structure, view_array}
use Rattle.vx_tree.specs.Meaning.{kind_of, rows}
use Rattle.vx_lists.specs.ListViews.{is_list_view, flag_of, with_flag}

-- no other layout has a flag
pub flagged_view : (t : Tree) → flag_of t ≡ true → is_list_view t ≡ true
flagged_view (list_view e o s v f) set = refl
flagged_view (bools b bits v) set = cc
flagged_view (primitive t bs v) set = cc
flagged_view (constant k r n) set = cc
flagged_view (dictionary c v f) set = cc
flagged_view (fixed_list e k v n) set = cc
flagged_view (structure ns ts v n) set = cc
flagged_view (view_array vs bs k v) set = cc

pub rows_under_flag : (f : Bool) (t : Tree) → is_list_view t ≡ true → rows (with_flag f t) ≡ rows t
rows_under_flag f (list_view e o s v g) is = refl
rows_under_flag f (bools b bits v) is = cc
rows_under_flag f (primitive t bs v) is = cc
rows_under_flag f (constant k r n) is = cc
rows_under_flag f (dictionary c v g) is = cc
rows_under_flag f (fixed_list e k v n) is = cc
rows_under_flag f (structure ns ts v n) is = cc
rows_under_flag f (view_array vs bs k v) is = cc

pub kind_under_flag : (f : Bool) (t : Tree) → is_list_view t ≡ true → kind_of (with_flag f t) ≡ kind_of t
kind_under_flag f (list_view e o s v g) is = refl
kind_under_flag f (bools b bits v) is = cc
kind_under_flag f (primitive t bs v) is = cc
kind_under_flag f (constant k r n) is = cc
kind_under_flag f (dictionary c v g) is = cc
kind_under_flag f (fixed_list e k v n) is = cc
kind_under_flag f (structure ns ts v n) is = cc
kind_under_flag f (view_array vs bs k v) is = cc
