use Rattle.vx_views.proofs.Places.{padded_view}
use Rattle.vx_views.proofs.view_laws.views_of_short_values_are_padded.Goals as goal

pub returns : goal.returns
returns c = λ value block offset bytes short. padded_view value block offset bytes short
