use Rattle.std.proofs.Common.{◌≡◌, drop}
use Rattle.vx_base.specs.DTypes.{kinds_of}
use Rattle.vx_structs.specs.Structs.Faults.{typed_columns_fault}
use Rattle.vx_structs.proofs.checks.check_typed_columns.Given as goal

abbrev pub invariant-loop-place : goal.invariant-loop-place
invariant-loop-place l =
    typed_columns_fault (kinds_of l.dtypes) l.len l.columns ≡ typed_columns_fault (kinds_of (drop l.place l.dtypes)) l.len (drop l.place l.columns)
