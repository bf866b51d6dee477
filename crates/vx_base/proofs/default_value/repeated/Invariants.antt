use Rattle.std.proofs.Common.{◌≡◌, replicate}
use Rattle.vx_base.proofs.default_value.repeated.Given as goal

abbrev pub invariant-loop-made : goal.invariant-loop-made
invariant-loop-made l = l.values.items ≡ replicate l._made l.value
