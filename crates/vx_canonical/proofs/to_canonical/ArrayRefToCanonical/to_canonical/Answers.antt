use Rattle.std.proofs.Common.{◌≡◌, Some, sym, ◌∙◌, inr}
use Rattle.vx_base.specs.Refusals.{overflow}
use Rattle.vx_canonical.specs.Counted.{rows_overflow}
use Rattle.vx_canonical.proofs.Overflows.{rows_refused}
use Rattle.vx_canonical.proofs.PlainTests.{plain_itself, plain_within}
use Rattle.vx_canonical.proofs.to_canonical.ArrayRefToCanonical.to_canonical.Goals as goal

pub returns-then-is_plain-clause-canonical : goal.returns-then-is_plain-clause-canonical
returns-then-is_plain-clause-canonical c =
    plain_itself c.args.self.now c.in_ok-try_clone.field-0 (sym c.is_plain.ensures ∙ c.if-is_plain.true) c.in_ok-try_clone.ensures

pub returns-then-is_plain-clause-within : goal.returns-then-is_plain-clause-within
returns-then-is_plain-clause-within c =
    plain_within c.args.self.now c.in_ok-try_clone.field-0 (sym c.is_plain.ensures ∙ c.if-is_plain.true) c.in_ok-try_clone.ensures

pub returns-then-not-has_countable_rows : goal.returns-then-not-has_countable_rows
returns-then-not-has_countable_rows c =
    let many : rows_overflow c.args.self.now ≡ Some overflow = rw c.if-not-has_countable_rows.true at c.has_countable_rows.ensures in
    record { rows = tt; canonical = tt; within = tt; shared = λ plain. tt; refuses = inr (rows_refused c.args.self.now many) }
