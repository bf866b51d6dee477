use Rattle.std.proofs.Common.{arith, rules}
use Rattle.vx_views.proofs.FirstHigh.{none_high, lowest_high}
use Rattle.vx_views.proofs.view_checks.ascii_len.Goals as goal

pub returns-then-high-eq0-clause-before : goal.returns-then-high-eq0-clause-before
returns-then-high-eq0-clause-before c = (none_high c.args.bytes (omega arith) (search (rules, c.if-high-eq0.true))).before

pub returns-clause-before : goal.returns-clause-before
returns-clause-before c = (lowest_high c.args.bytes (omega arith) (search (rules, c.if-high-eq0.false))).before

pub returns-clause-stop : goal.returns-clause-stop
returns-clause-stop c = (lowest_high c.args.bytes (omega arith) (search (rules, c.if-high-eq0.false))).stop

pub returns-clause-within : goal.returns-clause-within
returns-clause-within c = (lowest_high c.args.bytes (omega arith) (search (rules, c.if-high-eq0.false))).within
