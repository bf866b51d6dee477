use Rattle.std.proofs.Common.{length}
use Rattle.vx_tree.specs.Parts.{valid_of}
use Rattle.vx_tree.proofs.Positions.{mask_long}
use Rattle.vx_text.proofs.var_bin_view_data.VarBinViewData.validate.Goals as goal

pub check_views-requires : goal.check_views-requires
check_views-requires c = mask_long (valid_of c.args.validity.now) c.in_ok-mask.mask (length c.args.views.now) c.in_ok-mask.ensures.mask
