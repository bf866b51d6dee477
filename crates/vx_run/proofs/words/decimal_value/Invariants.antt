use Rattle.std.proofs.Common.{◌≡◌, drop}
use Rattle.vx_run.specs.Words.{decimal, decimal_after}
use Rattle.vx_run.proofs.words.decimal_value.Given as goal

abbrev pub invariant-loop-digit : goal.invariant-loop-digit
invariant-loop-digit l = decimal_after l.number (drop l.digit-index l.digits) ≡ decimal l.digits
