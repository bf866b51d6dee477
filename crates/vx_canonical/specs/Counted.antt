-- What is counted of arrays before any of them is made plain.
use Rattle.std.specs.Prelude.{map, Bool, true, false, Option, None}
use Rattle.vx_base.specs.DTypes.{dtype_meaning}
use Rattle.vx_base.specs.Kinds.{Kind, booleans, integers}
use Rattle.vx_base.specs.Refusals.{Refusal, or_else}
use Rattle.vx_base.specs.ValueRows.{option_row}
use Rattle.vx_tree.specs.CanonicalFaults.{plain_overflow}
use Rattle.vx_tree.specs.Extents.{Extent, leaf_extent, view_extent, list_extent, fixed_list_extent, struct_extent}
use Rattle.vx_tree.specs.Extents.{extent_of, extents_of, rows_extent, elements_extent, column_extent}
use Rattle.vx_tree.specs.Meaning.{tree_len, kind_of, trees_from}
use Rattle.vx_tree.specs.Tree.{Tree, bools, primitive, constant, dictionary, fixed_list, list_view, structure}
use Rattle.vx_tree.specs.Tree.{view_array, Trees, no_trees, tree}
use Rattle.vx_canonical.specs.declared.pieces.Part.{Part}
use Rattle.vx_canonical.specs.declared.pieces.Part.TheVariants as part
use Rattle.vx_canonical.specs.declared.pieces.Piece.{Piece}
use Rattle.vx_canonical.specs.declared.pieces.Piece.TheVariants as piece

-- ---- elements and buffers

-- of rows where they stand
abbrev pub piece_extent : Piece → Extent
piece_extent piece.Leaf = leaf_extent
piece_extent (piece.Views n) = view_extent n
piece_extent (piece.Lists e) = list_extent (tree_len e.now) (extent_of e.now)
piece_extent (piece.FixedLists e) = fixed_list_extent (extent_of e.now)
piece_extent (piece.Records cs) = struct_extent (extents_of (trees_from cs.now))
piece_extent (piece.Values d vs) = rows_extent (dtype_meaning d.now) (map option_row vs.items)

-- of a part of them
abbrev pub part_extent : Part → Extent → Extent
part_extent part.Elements x = elements_extent x
part_extent (part.Column c) x = column_extent c x

-- a kind of rows that have neither
abbrev pub is_leaf : Kind → Bool
is_leaf (booleans m) = true
is_leaf (integers t m) = true
is_leaf _ = false

-- ---- rows

-- the rows of constants, or those of the codes of dictionaries, need more elements in plain layout than can be counted, at any depth
abbrev mutual
  pub rows_overflow : Tree → Option Refusal
  rows_overflow (bools b bits v) = None
  rows_overflow (primitive t bs v) = None
  rows_overflow (constant k r n) = plain_overflow k n
  rows_overflow (dictionary c v f) = or_else (rows_overflow v) (plain_overflow (kind_of v) (tree_len c))
  rows_overflow (fixed_list e k v n) = rows_overflow e
  rows_overflow (list_view e o s v f) = rows_overflow e
  rows_overflow (structure ns ts v n) = columns_rows_overflow ts
  rows_overflow (view_array vs bs k v) = None

  -- the same of columns
  pub columns_rows_overflow : Trees → Option Refusal
  columns_rows_overflow no_trees = None
  columns_rows_overflow (tree t ts) = or_else (rows_overflow t) (columns_rows_overflow ts)
