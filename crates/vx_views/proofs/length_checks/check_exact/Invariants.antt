use Rattle.std.proofs.Common.{◌≡◌, ◌+◌, take, sum}
use Rattle.vx_views.specs.BuildFaults.{lengths_of}
use Rattle.vx_views.proofs.length_checks.check_exact.Given as goal

abbrev pub invariant-loop-row : goal.invariant-loop-row
invariant-loop-row g l = l.rest + sum (take l.row (lengths_of (g.L.Lengths.numbers l.lengths))) ≡ l.heap_len
