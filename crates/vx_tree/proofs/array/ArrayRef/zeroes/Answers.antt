use Rattle.vx_base.proofs.Refused.{Gives-weaker}
use Rattle.vx_tree.proofs.Nulled.{zeroes_made}
use Rattle.vx_tree.proofs.array.ArrayRef.zeroes.Goals as goal

pub returns : goal.returns
returns c = Gives-weaker c.primitive.result _ _ (λ a e. zeroes_made a c.args.ptype c.in_ok-bytes.bytes c.args.len e c.in_ok-bytes.ensures.zeroes) c.primitive.ensures
