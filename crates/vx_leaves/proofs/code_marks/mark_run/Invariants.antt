use Rattle.vx_leaves.specs.Dictionaries.{Marks, number_places}
use Rattle.vx_leaves.proofs.code_marks.mark_run.Given as goal

abbrev pub invariant-loop-row : goal.invariant-loop-row
invariant-loop-row g l = Marks (number_places g.T.NativePType.PTYPE l.bytes) l.fn.rows.start l.row l.referenced l.fn.out l.out
