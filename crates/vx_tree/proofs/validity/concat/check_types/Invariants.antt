use Rattle.std.proofs.Common.{◌≡◌, drop}
use Rattle.vx_tree.specs.Joins.{types_fault}
use Rattle.vx_tree.proofs.validity.concat.check_types.Given as goal

abbrev pub invariant-loop-part : goal.invariant-loop-part
invariant-loop-part l = types_fault (drop l.part-index l.parts) ≡ types_fault l.parts
