use Rattle.std.proofs.Common.{◌≡◌, ◌<◌, ℕ}
use Rattle.vx_pack.specs.StoredTexts.{stored_value}
use Rattle.vx_pack.proofs.same_leaves.same_values.Given as goal

abbrev pub invariant-loop-i : goal.invariant-loop-i
invariant-loop-i l = (j : ℕ) → j < l.i → stored_value l.a j ≡ stored_value l.b j
