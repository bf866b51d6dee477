use Rattle.vx_run.specs.Words.{decimal}
use Rattle.vx_run.proofs.Decimals.{limit-reached}
use Rattle.vx_run.proofs.words.decimal_value.Goals as goal

pub returns-in_err-number : goal.returns-in_err-number
returns-in_err-number c =
    rw c.from_residual.ensures (limit-reached 18446744073709551616 c.loop-digit.number c.args.digits.now c.loop-digit.digit-index (decimal c.args.digits.now) c.loop-digit-test.true c.loop-digit.invariant c.in_err-number.ensures)
