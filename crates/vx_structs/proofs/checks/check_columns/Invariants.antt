use Rattle.std.proofs.Common.{◌≡◌, drop}
use Rattle.vx_structs.specs.Structs.Faults.{column_lens_fault}
use Rattle.vx_structs.proofs.checks.check_columns.Given as goal

abbrev pub invariant-loop-column : goal.invariant-loop-column
invariant-loop-column l = column_lens_fault l.len l.columns ≡ column_lens_fault l.len (drop l.column-index l.columns)
