use Rattle.vx_base.proofs.Refused.{Gives-IfOk}
use Rattle.vx_lists.proofs.ListViews.Faults.{Refuses-given}
use Rattle.vx_lists.proofs.list_view.array.ListViewArray.try_new.Goals as goal

pub returns-clause-parts : goal.returns-clause-parts
returns-clause-parts c = Gives-IfOk c.new.result _ _ (λ a made. made) c.new.ensures

pub returns-clause-refuses : goal.returns-clause-refuses
returns-clause-refuses c = Refuses-given c.new.result _ _ c.in_ok-validate.ensures.tests c.new.ensures
