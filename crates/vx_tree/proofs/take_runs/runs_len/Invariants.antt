use Rattle.std.proofs.Common.{◌≡◌, ◌<◌, ◌^◌, take}
use Rattle.vx_tree.specs.Runs.{runs_len}
use Rattle.vx_tree.proofs.take_runs.runs_len.Given as goal

abbrev pub invariant-loop-run : goal.invariant-loop-run
invariant-loop-run l = (l.total ≡ runs_len (take l.run-index l.runs)) × (l.total < 2 ^ 64)
