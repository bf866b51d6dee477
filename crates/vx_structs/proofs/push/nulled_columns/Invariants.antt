use Rattle.std.proofs.Common.{take}
use Rattle.std.specs.List.{AllZip}
use Rattle.vx_tree.specs.Operations.{IsNulled}
use Rattle.vx_tree.specs.Parts.{valid_of}
use Rattle.vx_structs.proofs.push.nulled_columns.Given as goal

abbrev pub invariant-loop-column : goal.invariant-loop-column
invariant-loop-column l = AllZip (λ c d. IsNulled c (valid_of l.validity) d) (take l.column-index l.columns) l.made.items
