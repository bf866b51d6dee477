use Rattle.std.proofs.Common.{take}
use Rattle.std.specs.List.{AllZip}
use Rattle.vx_tree.specs.Operations.{IsSelected}
use Rattle.vx_tree.proofs.array.+select.Given as goal

abbrev pub invariant-ArrayRef::select_columns-loop-column : goal.invariant-ArrayRef::select_columns-loop-column
invariant-ArrayRef::select_columns-loop-column l = AllZip (λ t u. IsSelected t l.fn.selection u) (take l.column-index l.columns) l.selected.items
