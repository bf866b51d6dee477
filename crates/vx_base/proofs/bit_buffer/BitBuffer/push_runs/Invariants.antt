use Rattle.std.proofs.Common.{◌≤◌, ◌-◌}
use Rattle.vx_base.specs.MaskRuns.{AreAdded, IsEdge}
use Rattle.vx_base.specs.Trues.{AreAll}
use Rattle.vx_base.proofs.bit_buffer.BitBuffer.push_runs.Given as goal

abbrev pub invariant-loop-place : goal.invariant-loop-place
invariant-loop-place l = record {
  later : l.start ≤ l.last.at;
  within : l.place ≤ l.end;
  edge : IsEdge l.last.at l.place l.last.is_true l.runs.items;
  alike : AreAll l.self.bits l.last.at l.place l.last.is_true;
  rows : AreAdded l.self.bits l.start l.last.at l.fn.runs.items l.runs.items;
}

abbrev pub decreases-loop-place : goal.decreases-loop-place
decreases-loop-place l = l.end - l.place
