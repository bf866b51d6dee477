use Rattle.std.proofs.Common.{take}
use Rattle.vx_canonical.specs.PlainValues.{AreTexts}
use Rattle.vx_canonical.proofs.canonical_values.plain_views.Given as goal

abbrev pub invariant-loop-value : goal.invariant-loop-value
invariant-loop-value l = AreTexts (take l.value-index l.values) l.views.items l.buffers.items
