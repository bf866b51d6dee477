-- A part of an array is less deep than the array.
use Rattle.std.specs.Prelude.{◌≤◌, ◌+◌, max, List, [], ◌∷◌}
use denote.Param.Weighed.{most}
use Rattle.std.proofs.Common.{arith}
use Rattle.vx_tree.specs.declared.array.Layout.{Layout}
use Rattle.vx_tree.specs.declared.array.Layout.TheVariants as layout
use Rattle.vx_tree.specs.declared.array.Validity.{Validity}
use Rattle.vx_tree.specs.declared.array.Validity.TheVariants as validity
use Rattle.vx_tree.specs.declared.array.ArrayRef.TheDeep.{deep-Layout, deep-Validity}
use Rattle.vx_tree.specs.Tree.{Tree, depth, valid_depth, trees_depth}
use Rattle.vx_tree.specs.Meaning.{trees_from}
use Rattle.vx_tree.specs.Parts.{tree_of, valid_of}

pub valid_falls : (v : Validity) → deep-Validity v ≤ valid_depth (valid_of v)
valid_falls validity.NonNullable = omega arith
valid_falls validity.AllValid = omega arith
valid_falls validity.AllInvalid = omega arith
valid_falls (validity.Array t) = omega arith

pub columns_fall : (ts : List Tree) → most (λ t. depth t + 1) ts ≤ trees_depth (trees_from ts)
columns_fall [] = omega arith
columns_fall (t ∷ ts) = omega (arith, columns_fall ts)

pub layout_falls : (l : Layout) → max (max (deep-Layout l) 0) 0 ≤ depth (tree_of l)
layout_falls (layout.Bool bits v) = omega (arith, valid_falls v)
layout_falls (layout.Primitive t bs v) = omega (arith, valid_falls v)
layout_falls (layout.Constant s n) = omega arith
layout_falls (layout.Dict c v f) = omega arith
layout_falls (layout.FixedSizeList e k v n) = omega (arith, valid_falls v)
layout_falls (layout.ListView e o s v f) = omega (arith, valid_falls v)
layout_falls (layout.VarBinView vs bs d v) = omega (arith, valid_falls v)
layout_falls (layout.Struct ns cs v n) = omega (arith, valid_falls v, columns_fall cs.items)
