use Rattle.std.proofs.Common.{◌≡◌, ◌<◌, ◌≤◌, ◌-◌, ℕ, length}
use Rattle.vx_base.specs.Bits.{bool_at}
use Rattle.vx_leaves.proofs.code_scan.all_marked.Given as goal

-- the places up to the cursor are marked
abbrev pub invariant-loop-cursor : goal.invariant-loop-cursor
invariant-loop-cursor l = record {
  within : l.cursor ≤ length l.marks;
  marked : (j : ℕ) → j < l.cursor → bool_at l.marks j ≡ l.referenced;
}

abbrev pub decreases-loop-cursor : goal.decreases-loop-cursor
decreases-loop-cursor l = length l.marks - l.cursor
