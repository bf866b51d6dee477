use Rattle.vx_base.proofs.Edges.{Remain}
use Rattle.vx_base.proofs.bit_buffer.BitBuffer.push_word.Given as goal

abbrev pub invariant-loop-edges : goal.invariant-loop-edges
invariant-loop-edges l = Remain l.self.bits l.place l.end l.edges l.fn.from.at l.last.at l.fn.from.is_true l.last.is_true l.fn.runs.items l.runs.items

abbrev pub decreases-loop-edges : goal.decreases-loop-edges
decreases-loop-edges l = l.edges
