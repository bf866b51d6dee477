use Rattle.std.proofs.Common.{◌≡◌, ◌≤◌, None, length}
use Rattle.vx_base.specs.Refusals.{first_fault}
use Rattle.vx_views.specs.BuildFaults.{lengths_of, negative_at, too_long_at}
use Rattle.vx_views.proofs.CutPlaces.{IsCutting}
use Rattle.vx_views.proofs.build.cut_heap.Given as goal

abbrev pub invariant-loop-row : goal.invariant-loop-row
invariant-loop-row g l = record {
  cutting : IsCutting l.start l.limit l.heap (lengths_of (g.L.Lengths.numbers l.lengths)) l.row l.buffers.items l.views.items l.number l.begin l.at;
  none_negative : first_fault (negative_at (g.L.Lengths.numbers l.lengths)) l.row ≡ None;
  none_too_long : first_fault (too_long_at l.limit (g.L.Lengths.numbers l.lengths)) l.row ≡ None;
  within : l.at ≤ length l.heap;
}
