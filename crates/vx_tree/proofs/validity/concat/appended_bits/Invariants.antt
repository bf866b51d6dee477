use Rattle.std.proofs.Common.{◌≡◌, take}
use Rattle.vx_tree.specs.Joins.{joined_mask}
use Rattle.vx_tree.proofs.validity.concat.appended_bits.Given as goal

abbrev pub invariant-loop-part : goal.invariant-loop-part
invariant-loop-part l = l.bits ≡ joined_mask (take l.part-index l.parts)
