use Rattle.std.proofs.Common.{◌≡◌, ℕ, cond}
use Rattle.vx_base.specs.Integers.{numbers, number_nth}
use Rattle.vx_base.specs.MaskRuns.{is_in_run}
use Rattle.vx_leaves.proofs.narrow.put_run.Given as goal

abbrev pub invariant-loop-row : goal.invariant-loop-row
invariant-loop-row g l = (k : ℕ) → number_nth (numbers g.U.NativePType.PTYPE l.out) k
    ≡ cond (is_in_run (l.fn.run.0, l.row) k) (number_nth (numbers g.T.NativePType.PTYPE l.bytes) k) (number_nth (numbers g.U.NativePType.PTYPE l.fn.out) k)
