use Rattle.std.proofs.Common.{take}
use Rattle.vx_tree.specs.Meaning.{trees_from}
use Rattle.vx_canonical.specs.Joined.{HaveJoinedNumbers}
use Rattle.vx_canonical.proofs.JoinedParts.{AreJoinedEach}
use Rattle.vx_canonical.proofs.join.+join.Given as goal

abbrev pub invariant-join_columns-loop-column : goal.invariant-join_columns-loop-column
invariant-join_columns-loop-column l = AreJoinedEach l.arrays 0 (take l.column-index l.columns) l.made.items × HaveJoinedNumbers l.arrays 0 (trees_from l.made.items)
