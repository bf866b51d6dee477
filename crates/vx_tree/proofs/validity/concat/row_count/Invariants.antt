use Rattle.std.proofs.Common.{◌≡◌, ◌<◌, ◌^◌, length, take}
use Rattle.vx_tree.specs.Joins.{joined_mask}
use Rattle.vx_tree.proofs.validity.concat.row_count.Given as goal

abbrev pub invariant-loop-len : goal.invariant-loop-len
invariant-loop-len l = (l.count ≡ length (joined_mask (take l.len-index l.parts))) × (l.count < 2 ^ 64)
