-- The plain layouts, one for each data type, in the parts too.
use Rattle.vx_tree.specs.Tree.{Tree, bools, primitive, constant, dictionary, fixed_list, list_view, structure}
use Rattle.vx_tree.specs.Tree.{view_array, Trees, no_trees, tree, Valid, non_nullable, all_valid, all_invalid}
use Rattle.vx_tree.specs.Tree.{by_array}

-- neither a constant nor a dictionary, nor is any of its parts
abbrev mutual
  pub IsPlain : Tree → Type 0
  IsPlain (bools b bits v) = IsPlainValid v
  IsPlain (primitive t bs v) = IsPlainValid v
  IsPlain (constant k r n) = ⊥
  IsPlain (dictionary c v f) = ⊥
  IsPlain (fixed_list e k v n) = IsPlain e × IsPlainValid v
  IsPlain (list_view e o s v f) = IsPlain e × IsPlain o × IsPlain s × IsPlainValid v
  IsPlain (structure ns ts v n) = ArePlain ts × IsPlainValid v
  IsPlain (view_array vs bs k v) = IsPlainValid v

  pub ArePlain : Trees → Type 0
  ArePlain no_trees = Unit {0}
  ArePlain (tree t ts) = IsPlain t × ArePlain ts

  pub IsPlainValid : Valid → Type 0
  IsPlainValid non_nullable = Unit {0}
  IsPlainValid all_valid = Unit {0}
  IsPlainValid all_invalid = Unit {0}
  IsPlainValid (by_array t) = IsPlain t
