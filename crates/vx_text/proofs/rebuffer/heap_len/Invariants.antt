use Rattle.vx_text.proofs.HeapCounts.{IsCounting}
use Rattle.vx_text.proofs.rebuffer.heap_len.Given as goal

abbrev pub invariant-loop-row : goal.invariant-loop-row
invariant-loop-row l = IsCounting l.limit l.lens l.row l.number l.begin l.at
