use Rattle.vx_base.proofs.Refused.{Gives-weaker}
use Rattle.vx_canonical.proofs.JoinedListViews.{counts_written}
use Rattle.vx_canonical.proofs.layouts.list_view.counts_array.Goals as goal

pub returns : goal.returns
returns c =
    Gives-weaker c.primitive.result _ _ (λ a e. counts_written c.args.counts.now c.in_ok-bytes.bytes a e c.in_ok-bytes.ensures.ok) c.primitive.ensures
