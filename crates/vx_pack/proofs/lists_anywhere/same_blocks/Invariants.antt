use Rattle.std.proofs.Common.{◌≤◌, ◌<◌, ◌-◌, ℕ}
use Rattle.vx_pack.specs.SameElements.{IsSameAt}
use Rattle.vx_pack.proofs.lists_anywhere.same_blocks.Given as goal

abbrev pub invariant-loop-first : goal.invariant-loop-first
invariant-loop-first l =
    record {
      within : l.first ≤ l.end;
      same : (i : ℕ) → i < l.first → IsSameAt l.elements l.a l.b i;
    }

abbrev pub decreases-loop-first : goal.decreases-loop-first
decreases-loop-first l = l.end - l.first
