use Rattle.std.proofs.Common.{take}
use Rattle.vx_tree.specs.Meaning.{trees_from}
use Rattle.vx_tree.specs.Fitting.{ColumnsFormed}
use Rattle.vx_tree.proofs.layouts.structure.all_known.Given as goal

abbrev pub invariant-loop-column : goal.invariant-loop-column
invariant-loop-column l = ColumnsFormed (trees_from (take l.column-index l.columns))
