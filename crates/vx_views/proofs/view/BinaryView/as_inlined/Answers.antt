use Rattle.std.proofs.Common.{arith}
use Rattle.vx_views.proofs.Places.{held_of_rest}
use Rattle.vx_views.proofs.view.BinaryView.as_inlined.Goals as goal

pub returns-clause-value : goal.returns-clause-value
returns-clause-value c = held_of_rest c.args.self.now c.part.result c.len.result c.part.ensures.bytes c.len.ensures.size (omega arith)
