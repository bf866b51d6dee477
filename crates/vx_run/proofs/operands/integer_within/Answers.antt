use Rattle.std.proofs.Common.{rules}
use Rattle.vx_run.proofs.HeldIntegers.{integer-held}
use Rattle.vx_run.proofs.operands.integer_within.Goals as goal

pub returns : goal.returns
returns g c =
    integer-held g.T.NativePType.PTYPE c.args.word.now c.in_ok-integer.field-0 _ g.T.Number.value c.from_i128.result (search rules) c.in_ok-integer.ensures
    c.from_i128.ensures.some c.from_i128.ensures.value
