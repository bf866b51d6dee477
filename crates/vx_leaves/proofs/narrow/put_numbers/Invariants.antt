use Rattle.std.proofs.Common.{◌≡◌, ℕ, cond, take}
use Rattle.std.specs.Prelude.{pos}
use Rattle.vx_base.specs.Integers.{numbers, number_nth}
use Rattle.vx_base.specs.MaskRuns.{is_in_runs}
use Rattle.vx_leaves.proofs.narrow.put_numbers.Given as goal

-- the numbers of the runs stand at their rows, and 0 elsewhere
abbrev pub invariant-loop-run : goal.invariant-loop-run
invariant-loop-run g l = (k : ℕ) → number_nth (numbers g.U.NativePType.PTYPE l.out) k
    ≡ cond (is_in_runs (take l.run-index l.run-items) k) (number_nth (numbers g.T.NativePType.PTYPE l.bytes) k) (pos 0)
