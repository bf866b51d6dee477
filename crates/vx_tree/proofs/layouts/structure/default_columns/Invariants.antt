use Rattle.std.proofs.Common.{take}
use Rattle.std.specs.List.{AllZip}
use Rattle.vx_tree.proofs.Columns.{IsAlike}
use Rattle.vx_tree.proofs.layouts.structure.default_columns.Given as goal

abbrev pub invariant-loop-column : goal.invariant-loop-column
invariant-loop-column l = AllZip (λ t u. IsAlike t l.fn.len u) (take l.column-index l.columns) l.made.items
