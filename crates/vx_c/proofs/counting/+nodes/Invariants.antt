use Rattle.std.proofs.Common.{◌≡◌, ◌+◌, drop}
use Rattle.vx_tree.specs.Meaning.{trees_from}
use Rattle.vx_c.specs.Unflagged.{trees_count}
use Rattle.vx_c.proofs.counting.+nodes.Given as goal

abbrev pub invariant-left_by_columns-loop-column : goal.invariant-left_by_columns-loop-column
invariant-left_by_columns-loop-column l =
    trees_count (trees_from (drop l.column-index l.columns)) + l.nodes ≡ trees_count (trees_from l.columns) + l.left
