use Rattle.std.proofs.Common.{◌+◌, ◌*◌}
use Rattle.vx_tree.specs.Parts.{valid_of}
use Rattle.vx_tree.specs.Tree.{depth, valid_depth}
use Rattle.vx_pack.proofs.truths.+truth.Given as goal

abbrev pub decreases-truth_at : goal.decreases-truth_at
decreases-truth_at l = 2 * depth l.array.now + 1

abbrev pub decreases-is_valid_at : goal.decreases-is_valid_at
decreases-is_valid_at l = 2 * valid_depth (valid_of l.validity.now)
