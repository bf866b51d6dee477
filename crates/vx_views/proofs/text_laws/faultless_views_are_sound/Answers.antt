use Rattle.vx_views.proofs.FaultyViews.{views_fault-AreSoundViews}
use Rattle.vx_views.proofs.text_laws.faultless_views_are_sound.Goals as goal

pub returns : goal.returns
returns c = views_fault-AreSoundViews
