use Rattle.vx_base.proofs.Refused.{Gives-weaker}
use Rattle.vx_lists.proofs.list_view.array.ListViewArray.trim_to_bounds.Goals as goal

pub trim_elements-requires-clause-below : goal.trim_elements-requires-clause-below
trim_elements-requires-clause-below c = c.in_ok-start.ensures.ok.below

pub trim_elements-requires-clause-above : goal.trim_elements-requires-clause-above
trim_elements-requires-clause-above c = c.in_ok-start.ensures.ok.above

pub trim_elements-requires-clause-ordered : goal.trim_elements-requires-clause-ordered
trim_elements-requires-clause-ordered c = c.in_ok-start.ensures.within.0

pub trim_elements-requires-clause-within : goal.trim_elements-requires-clause-within
trim_elements-requires-clause-within c = c.in_ok-start.ensures.within.1

pub returns : goal.returns
returns c =
    Gives-weaker c.trim_elements.result _ _ (λ _ trimmed. (c.in_ok-start.start, c.in_ok-start.end, c.in_ok-start.ensures.ok, trimmed)) c.trim_elements.ensures
