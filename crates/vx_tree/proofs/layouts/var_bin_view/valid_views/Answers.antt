use Rattle.vx_tree.proofs.ViewArrays.{all_kept}
use Rattle.vx_tree.proofs.layouts.var_bin_view.valid_views.Goals as goal

pub returns-then-all_true : goal.returns-then-all_true
returns-then-all_true c = all_kept c.args.views c.args.mask.now c.requires (c.all_true.ensures.0 c.if-all_true.true)
