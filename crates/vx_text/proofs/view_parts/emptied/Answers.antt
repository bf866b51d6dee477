use Rattle.vx_tree.proofs.ViewArrays.{all_kept}
use Rattle.vx_text.proofs.view_parts.emptied.Goals as goal

pub returns-then-all_true : goal.returns-then-all_true
returns-then-all_true c = all_kept c.args.views c.args.mask.now c.requires (c.all_true.ensures.0 c.if-all_true.true)
