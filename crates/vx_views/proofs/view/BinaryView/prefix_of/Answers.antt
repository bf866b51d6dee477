use Rattle.std.proofs.Common.{◌∙◌, arith}
use Rattle.vx_views.proofs.Shifts.{padded_long}
use Rattle.vx_views.proofs.view.BinaryView.prefix_of.Goals as goal

pub returns : goal.returns
returns c = c.bytes_at.ensures ∙ padded_long 4 c.args.value.now (omega arith)
