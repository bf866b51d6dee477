use Rattle.std.proofs.Common.{false, subst}
use Rattle.vx_c.specs.Parts.{HasBytes}
use Rattle.vx_c.proofs.passing.are_by_type.Goals as goal

pub returns-in-I32 : goal.returns-in-I32
returns-in-I32 c = λ told o s offsets sizes. c.are_views.ensures told o s (subst (λ t. HasBytes t c.args.offsets.now false o) c.in-I32.is offsets) sizes

pub returns-in-I64 : goal.returns-in-I64
returns-in-I64 c = λ told o s offsets sizes. c.are_views-in-I64.ensures told o s (subst (λ t. HasBytes t c.args.offsets.now false o) c.in-I64.is offsets) sizes
