use Rattle.std.proofs.Common.{◌∙◌}
use Rattle.vx_tree.specs.Parts.{valid_of}
use Rattle.vx_tree.proofs.Positions.{mask_long}
use Rattle.vx_tree.proofs.layouts.var_bin_view.views_under.Goals as goal

pub valid_views-requires : goal.valid_views-requires
valid_views-requires c = mask_long (valid_of c.args.validity.now) c.in_ok-mask.mask c.len.result c.in_ok-mask.ensures ∙ c.len.ensures

pub returns : goal.returns
returns c = rw (c.in_ok-mask.ensures, c.len.ensures) at c.valid_views.ensures
