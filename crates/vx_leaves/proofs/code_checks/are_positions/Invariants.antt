use Rattle.std.proofs.Common.{◌≡◌, ◌+◌}
use Rattle.std.specs.Prelude.{None}
use Rattle.vx_base.specs.Integers.{numbers, number_nth}
use Rattle.vx_base.specs.Rows.{whole}
use Rattle.vx_tree.specs.Faults.{index_fault}
use Rattle.vx_leaves.proofs.SetBits.{IsDone}
use Rattle.vx_leaves.proofs.code_checks.are_positions.Given as goal

-- the numbers of the bits that are gone have no fault
abbrev pub invariant-loop-rest : goal.invariant-loop-rest
invariant-loop-rest g l =
    IsDone l.word l.rest (λ i. index_fault l.len (l.start + i) (whole (number_nth (numbers g.T.NativePType.PTYPE l.bytes) (l.start + i))) ≡ None)

abbrev pub decreases-loop-rest : goal.decreases-loop-rest
decreases-loop-rest g l = l.rest
