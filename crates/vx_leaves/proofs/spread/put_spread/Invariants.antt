use Rattle.std.proofs.Common.{◌≡◌, ℕ, cond, length, take, count_by}
use Rattle.std.specs.Prelude.{pos}
use Rattle.vx_base.specs.Integers.{numbers, number_nth}
use Rattle.vx_base.specs.MaskRuns.{is_in_runs}
use Rattle.vx_leaves.proofs.RunRows.{start_of}
use Rattle.vx_leaves.proofs.spread.put_spread.Given as goal

-- the values of the runs stand at their rows, and 0 elsewhere
abbrev pub invariant-loop-run : goal.invariant-loop-run
invariant-loop-run l = record {
  counted : l.next ≡ count_by (λ b. b) (take (start_of (length l.mask) l.run-items l.run-index) l.mask);
  written : (k : ℕ) → number_nth (numbers l.ptype l.out) k
      ≡ cond (is_in_runs (take l.run-index l.run-items) k) (number_nth (numbers l.ptype l.values) (count_by (λ b. b) (take k l.mask))) (pos 0);
}
