use Rattle.vx_leaves.specs.Dictionaries.{number_places}
use Rattle.vx_leaves.proofs.SetBits.{MarksGone}
use Rattle.vx_leaves.proofs.code_marks.mark_word.Given as goal

-- the numbers of the bits that are gone have marked what they name
abbrev pub invariant-loop-rest : goal.invariant-loop-rest
invariant-loop-rest g l = MarksGone (number_places g.T.NativePType.PTYPE l.bytes) l.rows.start l.word l.rest l.referenced l.fn.out l.out

abbrev pub decreases-loop-rest : goal.decreases-loop-rest
decreases-loop-rest g l = l.rest
