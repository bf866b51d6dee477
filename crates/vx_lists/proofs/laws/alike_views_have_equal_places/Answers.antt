use Rattle.vx_lists.proofs.ListViews.AlikeViews.{alike_offsets, alike_sizes}
use Rattle.vx_lists.proofs.laws.alike_views_have_equal_places.Goals as goal

pub returns-clause-offsets : goal.returns-clause-offsets
returns-clause-offsets c = alike_offsets

pub returns-clause-sizes : goal.returns-clause-sizes
returns-clause-sizes c = alike_sizes
