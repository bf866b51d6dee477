use Rattle.std.proofs.Common.{rules, arith}
use Rattle.vx_uses.proofs.FaultyCodes.{first_faulty_code, some_row_has}
use Rattle.vx_uses.proofs.faulty_rows.row_of_refused_code.Goals as goal

pub returns-then-eq-clause-refused : goal.returns-then-eq-clause-refused
returns-then-eq-clause-refused c = λ count refused.
    first_faulty_code c.first_fault_is_least.ensures c.args.codes.now count c.args.code refused c.loop-row.row (search rules) (search rules) c.loop-row.invariant

pub returns-clause-refused : goal.returns-clause-refused
returns-clause-refused c = λ count refused.
    absurd (some_row_has c.first_fault_is_least.ensures c.args.codes.now count c.args.code refused (λ i inside. c.loop-row.invariant i (omega arith)))

pub returns-then-eq-clause-first : goal.returns-then-eq-clause-first
returns-then-eq-clause-first c = (search rules, search rules, c.loop-row.invariant)

pub returns-clause-first : goal.returns-clause-first
returns-clause-first c = λ i inside. c.loop-row.invariant i (omega arith)
