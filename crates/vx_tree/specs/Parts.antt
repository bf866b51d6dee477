-- The parts of a layout as a tree.
use Rattle.vx_base.specs.DTypes.{dtype_meaning}
use Rattle.vx_tree.specs.declared.array.Layout.{Layout}
use Rattle.vx_tree.specs.declared.array.Validity.{Validity}
use Rattle.vx_tree.specs.declared.array.Validity.TheVariants as validity
use Rattle.vx_tree.specs.declared.array.Layout.TheVariants as layout
use Rattle.vx_tree.specs.Tree.{Tree, bools, primitive, constant, dictionary, fixed_list, list_view, Valid}
use Rattle.vx_tree.specs.Tree.{non_nullable, all_valid, all_invalid, by_array, view_array, structure}
use Rattle.vx_tree.specs.Meaning.{trees_from}

abbrev pub valid_of : Validity → Valid
valid_of validity.NonNullable = non_nullable
valid_of validity.AllValid = all_valid
valid_of validity.AllInvalid = all_invalid
valid_of (validity.Array t) = by_array t

abbrev pub tree_of : Layout → Tree
tree_of (layout.Bool bits v) = bools bits.offset bits.bits (valid_of v)
tree_of (layout.Primitive t bs v) = primitive t bs (valid_of v)
tree_of (layout.Constant s n) = constant s.kind s.row n
tree_of (layout.Dict c v f) = dictionary c v f
tree_of (layout.FixedSizeList e k v n) = fixed_list e k (valid_of v) n
tree_of (layout.ListView e o s v f) = list_view e o s (valid_of v) f
tree_of (layout.VarBinView vs bs d v) = view_array vs bs.items (dtype_meaning d) (valid_of v)
tree_of (layout.Struct ns cs v n) = structure ns (trees_from cs.items) (valid_of v) n
