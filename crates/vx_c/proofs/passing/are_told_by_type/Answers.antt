use Rattle.std.proofs.Common.{subst}
use Rattle.vx_base.specs.Integers.{numbers}
use Rattle.vx_c.specs.Parts.{HasNumbers}
use Rattle.vx_c.specs.Spans.{starts_of}
use Rattle.vx_c.proofs.passing.are_told_by_type.Goals as goal

pub returns-in-I32 : goal.returns-in-I32
returns-in-I32 c = λ told o s offsets sizes. c.are_between.ensures told o s (subst (λ t. HasNumbers (starts_of (numbers t c.args.starts.now)) o) c.in-I32.is offsets) sizes

pub returns-in-I64 : goal.returns-in-I64
returns-in-I64 c = λ told o s offsets sizes. c.are_between-in-I64.ensures told o s (subst (λ t. HasNumbers (starts_of (numbers t c.args.starts.now)) o) c.in-I64.is offsets) sizes
