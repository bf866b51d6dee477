use Rattle.std.proofs.Common.{◌≡◌, map, take}
use Rattle.vx_views.specs.BuildFaults.{differences}
use Rattle.vx_views.proofs.build.offsets_to_lengths.Given as goal

abbrev pub invariant-loop-row : goal.invariant-loop-row
invariant-loop-row g l = map g.P.Number.value l.lengths.items ≡ take l.row (differences (map g.P.Number.value l.offsets))
