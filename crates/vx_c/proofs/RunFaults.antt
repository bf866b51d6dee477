-- Every refusal of a run has a number.
use Rattle.std.proofs.Common.{◌<◌, ◌==◌, Bool, true, false, arith}
use Rattle.std.specs.Prelude.{if◌then◌else◌}
use Rattle.vx_c.specs.declared.faults.CodraskRunFault.{CodraskRunFault}
use Rattle.vx_c.specs.declared.faults.RunError.{RunError}
use Rattle.vx_c.specs.declared.faults.RunError.TheVariants as error
use Rattle.vx_c.specs.Runs.{run_want_of_memory, run_fault_at, told_of_run}
use Rattle.vx_c.proofs.ErrorNumbers.{error_number-some, node_error_number-some}

some_at : (e : RunError) → 0 < (run_fault_at e).number
some_at error.Memory = omega arith
some_at (error.Table i node e) = node_error_number-some e
some_at (error.Form i e) = node_error_number-some e
some_at (error.Step i e) = error_number-some e
some_at (error.Result i e) = node_error_number-some e

some_either : (b : Bool) (fault : CodraskRunFault) → 0 < fault.number → 0 < (if b then run_want_of_memory else fault).number
some_either true fault some = omega arith
some_either false fault some = some

-- what C is told of a run that is refused has a number
pub told_some : (e : RunError) → 0 < (told_of_run e).number
told_some e = some_either ((run_fault_at e).number == 1) (run_fault_at e) (some_at e)
