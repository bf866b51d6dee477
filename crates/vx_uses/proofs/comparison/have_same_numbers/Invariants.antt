use Rattle.std.proofs.Common.{◌≡◌, ℕ, ◌<◌}
use Rattle.vx_tree.specs.Meaning.{row_at}
use Rattle.vx_uses.proofs.comparison.have_same_numbers.Given as goal

abbrev pub invariant-loop-i : goal.invariant-loop-i
invariant-loop-i l = (k : ℕ) → k < l.i → row_at l.left k ≡ row_at l.right k
