use Rattle.std.proofs.Common.{◌≡◌, take, map}
use Rattle.vx_canonical.specs.PlainValues.{truth_in}
use Rattle.vx_canonical.proofs.canonical_values.truths.Given as goal

abbrev pub invariant-loop-value : goal.invariant-loop-value
invariant-loop-value l = l.truths.items ≡ map truth_in (take l.value-index l.values)
