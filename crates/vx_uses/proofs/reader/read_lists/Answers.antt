use Rattle.vx_uses.proofs.FoundFaults.{told_negative, told_end, names_no_row}
use Rattle.vx_uses.proofs.reader.read_lists.Goals as goal

pub returns-in-Negative : goal.returns-in-Negative
returns-in-Negative c =
    told_negative c.args.elements c.args.offsets c.args.sizes c.in-Err.refusal c.in-Negative.row c.first_fault_is_least.ensures c.in-Err.ensures.refuses c.in-Negative.is

pub returns-in-OutOfBounds : goal.returns-in-OutOfBounds
returns-in-OutOfBounds c =
    told_end c.args.elements c.args.offsets c.args.sizes c.in-Err.refusal c.in-OutOfBounds.index _ c.first_fault_is_least.ensures c.in-Err.ensures.refuses c.in-OutOfBounds.is

pub returns-in_default : goal.returns-in_default
returns-in_default c = (c.in-Err.ensures.refuses, names_no_row c.in-Err.refusal c.in_default.not-Negative c.in_default.not-OutOfBounds)
