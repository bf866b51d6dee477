use Rattle.vx_run.proofs.Streams.{grows-then}
use Rattle.vx_run.proofs.script.run_script.Goals as goal

pub returns-in-Err-Fault-clause-written : goal.returns-in-Err-Fault-clause-written
returns-in-Err-Fault-clause-written g c = grows-then _ _ _ c.run_all.ensures.written c.write_fault.ensures
