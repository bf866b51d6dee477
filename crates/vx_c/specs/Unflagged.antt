-- An array as a table has it: no flag is set.
use Rattle.std.specs.Prelude.{◌+◌, ◌≤◌, ℕ, suc, false, List, [], ◌∷◌}
use Rattle.vx_base.specs.Kinds.{Kind, lists, fixed_lists, records, Kinds, no_kinds, kind}
use Rattle.vx_tree.specs.Fitting.{AllFormed}
use Rattle.vx_tree.specs.Meaning.{kind_of}
use Rattle.vx_tree.specs.Plain.{IsPlain}
use Rattle.vx_tree.specs.Tree.{Tree, bools, primitive, constant, dictionary, fixed_list, list_view, structure}
use Rattle.vx_tree.specs.Tree.{view_array, Trees, no_trees, tree, Valid, non_nullable, all_valid, all_invalid, by_array}

-- the same array, the flags of lists and dictionaries not set, at any depth
abbrev mutual
  pub unflagged : Tree → Tree
  unflagged (bools b bits v) = bools b bits (unflagged_valid v)
  unflagged (primitive t bs v) = primitive t bs (unflagged_valid v)
  unflagged (constant k r n) = constant k r n
  unflagged (dictionary c v f) = dictionary (unflagged c) (unflagged v) false
  unflagged (fixed_list e k v n) = fixed_list (unflagged e) k (unflagged_valid v) n
  unflagged (list_view e o s v f) = list_view (unflagged e) (unflagged o) (unflagged s) (unflagged_valid v) false
  unflagged (structure ns ts v n) = structure ns (unflagged_trees ts) (unflagged_valid v) n
  unflagged (view_array vs bs k v) = view_array vs bs k (unflagged_valid v)

  pub unflagged_trees : Trees → Trees
  unflagged_trees no_trees = no_trees
  unflagged_trees (tree t ts) = tree (unflagged t) (unflagged_trees ts)

  pub unflagged_valid : Valid → Valid
  unflagged_valid non_nullable = non_nullable
  unflagged_valid all_valid = all_valid
  unflagged_valid all_invalid = all_invalid
  unflagged_valid (by_array t) = by_array (unflagged t)

-- how many nodes the table of an array has
abbrev mutual
  pub node_count : Tree → ℕ
  node_count (bools b bits v) = suc (valid_count v)
  node_count (primitive t bs v) = suc (valid_count v)
  node_count (constant k r n) = 1
  node_count (dictionary c v f) = suc (node_count c + node_count v)
  node_count (fixed_list e k v n) = suc (valid_count v + node_count e)
  node_count (list_view e o s v f) = suc (valid_count v + (node_count e + (node_count o + node_count s)))
  node_count (structure ns ts v n) = suc (valid_count v + trees_count ts)
  node_count (view_array vs bs k v) = suc (valid_count v)

  pub trees_count : Trees → ℕ
  trees_count no_trees = 0
  trees_count (tree t ts) = node_count t + trees_count ts

  pub valid_count : Valid → ℕ
  valid_count non_nullable = 0
  valid_count all_valid = 0
  valid_count all_invalid = 0
  valid_count (by_array t) = node_count t

-- of several arrays
abbrev pub nodes_of : List Tree → ℕ
nodes_of [] = 0
nodes_of (t ∷ ts) = node_count t + nodes_of ts

-- how many nodes the table of a plain array of a kind has at least: those of its validities come to them
abbrev mutual
  pub least_count : Kind → ℕ
  least_count (lists k n) = least_count k + 3
  least_count (fixed_lists k size n) = least_count k + 1
  least_count (records names ks n) = least_counts ks + 1
  least_count _ = 1

  pub least_counts : Kinds → ℕ
  least_counts no_kinds = 0
  least_counts (kind k ks) = least_count k + least_counts ks

-- the table of a plain array, well formed at every depth, has no fewer nodes than the least of its kind
abbrev pub IsLeastCount : Type 0
IsLeastCount = (t : Tree) → AllFormed t → IsPlain t → least_count (kind_of t) ≤ node_count t
