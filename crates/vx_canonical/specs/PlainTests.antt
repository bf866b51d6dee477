-- Whether an array is in plain layout at every depth, as a boolean.
use Rattle.std.specs.Prelude.{◌&&◌, Bool, true, false}
use Rattle.vx_tree.specs.Tree.{Tree, bools, primitive, constant, dictionary, fixed_list, list_view, structure}
use Rattle.vx_tree.specs.Tree.{view_array, Trees, no_trees, tree, Valid, non_nullable, all_valid, all_invalid}
use Rattle.vx_tree.specs.Tree.{by_array}

-- neither it nor any of its parts is a constant or a dictionary
abbrev mutual
  pub is_plain : Tree → Bool
  is_plain (bools b bits v) = is_plain_valid v
  is_plain (primitive t bs v) = is_plain_valid v
  is_plain (constant k r n) = false
  is_plain (dictionary c v f) = false
  is_plain (fixed_list e k v n) = is_plain e && is_plain_valid v
  is_plain (list_view e o s v f) = is_plain e && (is_plain o && (is_plain s && is_plain_valid v))
  is_plain (structure ns ts v n) = are_plain ts && is_plain_valid v
  is_plain (view_array vs bs k v) = is_plain_valid v

  pub are_plain : Trees → Bool
  are_plain no_trees = true
  are_plain (tree t ts) = is_plain t && are_plain ts

  pub is_plain_valid : Valid → Bool
  is_plain_valid non_nullable = true
  is_plain_valid all_valid = true
  is_plain_valid all_invalid = true
  is_plain_valid (by_array t) = is_plain t
