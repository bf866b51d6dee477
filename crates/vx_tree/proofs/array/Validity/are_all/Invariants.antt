use Rattle.std.proofs.Common.{◌≡◌, drop}
use Rattle.vx_tree.specs.Parts.{valid_of}
use Rattle.vx_tree.specs.Joins.{are_all}
use Rattle.vx_tree.proofs.array.Validity.are_all.Given as goal

abbrev pub invariant-loop-part : goal.invariant-loop-part
invariant-loop-part l = are_all (valid_of l.self) (drop l.part-index l.parts) ≡ are_all (valid_of l.self) l.parts
