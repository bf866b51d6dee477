-- How many nodes the parts of data types and of arrays have.
use Rattle.std.proofs.Common.{◌≡◌, ◌+◌, ◌<◌, ◌≤◌, Bool, true, false, List, ℕ, drop, length, ap, refl, arith}
use Rattle.std.specs.Prelude.{slice_index_or}
use Rattle.vx_base.proofs.StructKinds.{from_place, struct_kind}
use Rattle.vx_base.specs.DTypes.{dtype_meaning, field_kinds, kinds_of}
use Rattle.vx_base.specs.declared.dtypes.DType.{DType, Struct as struct_dtype}
use Rattle.vx_base.specs.declared.nullability.Nullability.{Nullability}
use Rattle.vx_base.specs.declared.struct_fields.StructFields.{StructFields}
use Rattle.vx_tree.specs.Fitting.{AllFormed, ColumnsFormed}
use Rattle.vx_tree.specs.Formed.{value_kind}
use Rattle.vx_tree.specs.Meaning.{is_texts, kind_of, kinds_of as kinds_in, nullable, trees_from}
use Rattle.vx_tree.specs.Plain.{IsPlain, ArePlain}
use Rattle.vx_tree.specs.Tree.{Tree, bools, primitive, constant, dictionary, fixed_list, list_view, structure, view_array, Trees, no_trees, tree}
use Rattle.vx_c.specs.Unflagged.{least_count, least_counts, node_count, trees_count}

pub least_count-struct : (d : DType) (fs : StructFields) (n : Nullability) → d ≡ struct_dtype fs n
    → least_count (dtype_meaning d) ≡ least_counts (field_kinds fs) + 1
least_count-struct d fs n is = ap least_count (struct_kind d fs n is)

pub least_counts-from : (ds : List DType) (i : ℕ) (d : DType) → i < length ds → d ≡ slice_index_or ds i d
    → least_counts (kinds_of (drop i ds)) ≡ least_count (dtype_meaning d) + least_counts (kinds_of (drop (i + 1) ds))
least_counts-from ds i d inside here = ap (λ (xs : List DType). least_counts (kinds_of xs)) (from_place ds i d inside here)

pub trees_count-at : (ts : List Tree) (i : ℕ) (t : Tree) → i < length ts → t ≡ slice_index_or ts i t
    → trees_count (trees_from (drop i ts)) ≡ node_count t + trees_count (trees_from (drop (i + 1) ts))
trees_count-at ts i t inside here = ap (λ (xs : List Tree). trees_count (trees_from xs)) (from_place ts i t inside here)

-- ---- the least number of nodes

value_count : (is_text n : Bool) → least_count (value_kind is_text n) ≡ 1
value_count true n = refl
value_count false n = refl

pub some_node : (t : Tree) → 1 ≤ node_count t
some_node (bools b bits v) = omega arith
some_node (primitive t bs v) = omega arith
some_node (constant k r n) = omega arith
some_node (dictionary c v f) = omega arith
some_node (fixed_list e k v n) = omega arith
some_node (list_view e o s v f) = omega arith
some_node (structure ns ts v n) = omega arith
some_node (view_array vs bs k v) = omega arith

mutual
  pub least_nodes : (t : Tree) → AllFormed t → IsPlain t → least_count (kind_of t) ≤ node_count t
  least_nodes (bools b bits v) formed plain = omega arith
  least_nodes (primitive t bs v) formed plain = omega arith
  least_nodes (constant k r n) formed plain = absurd plain
  least_nodes (dictionary c v f) formed plain = absurd plain
  least_nodes (fixed_list e k v n) formed plain = omega (arith, least_nodes e formed.1 plain.0)
  least_nodes (list_view e o s v f) formed plain = omega (arith, least_nodes e formed.1 plain.0, some_node o, some_node s)
  least_nodes (structure ns ts v n) formed plain = omega (arith, least_columns ts formed.1 plain.0)
  least_nodes (view_array vs bs k v) formed plain = omega (arith, ap least_count formed.0.1.kind, value_count (is_texts k) (nullable v))

  least_columns : (ts : Trees) → ColumnsFormed ts → ArePlain ts → least_counts (kinds_in ts) ≤ trees_count ts
  least_columns no_trees formed plain = omega arith
  least_columns (tree t ts) formed plain = omega (arith, least_nodes t formed.0 plain.0, least_columns ts formed.1 plain.1)
