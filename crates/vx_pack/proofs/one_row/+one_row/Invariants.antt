use Rattle.std.proofs.Common.{◌+◌, ◌*◌}
use Rattle.vx_tree.specs.Meaning.{trees_from}
use Rattle.vx_tree.specs.Tree.{depth, trees_depth}
use Rattle.vx_pack.proofs.OneRow.{HaveOneRow}
use Rattle.vx_pack.proofs.one_row.+one_row.Given as goal

abbrev pub decreases-has_one_row : goal.decreases-has_one_row
decreases-has_one_row l = 2 * depth l.array.now + 1

abbrev pub decreases-have_one_row : goal.decreases-have_one_row
decreases-have_one_row l = 2 * trees_depth (trees_from l.columns.now)

abbrev pub invariant-have_one_row-loop-column : goal.invariant-have_one_row-loop-column
invariant-have_one_row-loop-column l = HaveOneRow l.columns l.column-index
