use Rattle.std.proofs.Common.{◌-◌, take}
use Rattle.std.specs.List.{AllZip}
use Rattle.vx_tree.specs.Operations.{IsSlice}
use Rattle.vx_tree.proofs.array.+slice.Given as goal

abbrev pub invariant-ArrayRef::slice_columns-loop-column : goal.invariant-ArrayRef::slice_columns-loop-column
invariant-ArrayRef::slice_columns-loop-column l = AllZip (λ t u. IsSlice t l.fn.start (l.fn.end - l.fn.start) u) (take l.column-index l.columns) l.sliced.items
