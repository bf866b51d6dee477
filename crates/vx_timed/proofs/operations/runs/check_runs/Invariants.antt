use Rattle.std.proofs.Common.{drop}
use Rattle.std.specs.List.{All}
use Rattle.vx_tree.specs.Runs.{IsRunWithin}
use Rattle.vx_timed.proofs.operations.runs.check_runs.Given as goal

abbrev pub invariant-loop-run : goal.invariant-loop-run
invariant-loop-run l = All (IsRunWithin l.len) (drop l.run-index l.runs) → All (IsRunWithin l.len) l.runs
