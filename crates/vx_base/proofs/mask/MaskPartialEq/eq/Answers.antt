use Rattle.std.specs.Bool.{beq}
use Rattle.std.specs.Cmp.{booleans_Decides}
use Rattle.std.specs.Cmp.Lexicographic.{pointwise, pointwise_decides}
use Rattle.std.proofs.lemmas.Bool.Decides.{same_from_decides}
use Rattle.vx_base.proofs.mask.MaskPartialEq.eq.Goals as goal

pub returns : goal.returns
returns c =
    same_from_decides c.same.result (pointwise beq c.args.self.now c.args.other.now) c.same.ensures (pointwise_decides booleans_Decides c.args.self.now c.args.other.now)
