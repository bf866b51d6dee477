use Rattle.std.proofs.Common.{◌+◌, ◌*◌, take, map}
use Rattle.vx_tree.specs.Meaning.{trees_from}
use Rattle.vx_tree.specs.Tree.{depth, trees_depth}
use Rattle.vx_c.specs.Unflagged.{unflagged}
use Rattle.vx_c.specs.Written.{IsWritten}
use Rattle.vx_c.proofs.writing.+write.Given as goal

abbrev pub decreases-write : goal.decreases-write
decreases-write l = 2 * depth l.array.now + 1

abbrev pub decreases-write_columns : goal.decreases-write_columns
decreases-write_columns l = 2 * trees_depth (trees_from l.columns.now)

abbrev pub invariant-write_columns-loop-column : goal.invariant-write_columns-loop-column
invariant-write_columns-loop-column l = IsWritten l.initial.nodes.items (map unflagged (take l.column-index l.columns)) l.nodes.items
