use Rattle.std.proofs.Common.{take}
use Rattle.vx_canonical.specs.PlainValues.{AreGathered}
use Rattle.vx_canonical.proofs.canonical_nested.gather_values.Given as goal

abbrev pub invariant-loop-value : goal.invariant-loop-value
invariant-loop-value l = AreGathered (take l.value-index l.values) l.gathered.items l.places.items
