use Rattle.std.proofs.Common.{◌≡◌, map, take}
use Rattle.vx_tree.specs.Joins.{mask_of}
use Rattle.vx_tree.proofs.validity.concat.masks_of.Given as goal

abbrev pub invariant-loop-part : goal.invariant-loop-part
invariant-loop-part l = l.masks.items ≡ map mask_of (take l.part-index l.parts)
