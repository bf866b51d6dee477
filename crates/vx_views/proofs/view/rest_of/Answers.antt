use Rattle.std.proofs.Common.{ℕ, ◌∙◌, arith}
use Rattle.vx_views.proofs.Shifts.{rest_of_long, rest_by_eight, rest_by_four, rest_of_short}
use Rattle.vx_views.proofs.view.rest_of.Goals as goal

pub returns-then-len-ge12 : goal.returns-then-len-ge12
returns-then-len-ge12 c = c.bytes_at.ensures ∙ rest_of_long c.args.value.now (omega arith)

pub returns-then-len-ge8 : goal.returns-then-len-ge8
returns-then-len-ge8 c =
    c.to_le_bytes.ensures
    ∙ rest_by_eight c.args.value.now _ _ c.bytes_at-then-len-ge8.ensures c.from_le_bytes-last.ensures (omega arith) (omega arith) (λ (i : ℕ). (c.type_inv.value i).fits)

pub returns-then-len-ge4 : goal.returns-then-len-ge4
returns-then-len-ge4 c =
    c.to_le_bytes-then-len-ge4.ensures
    ∙ rest_by_four c.args.value.now _ _ c.bytes_at-then-len-ge4.ensures (c.from.ensures ∙ c.from_le_bytes-last-then-len-ge4.ensures) (omega arith) (omega arith) (λ (i : ℕ). (c.type_inv.value i).fits)

pub returns : goal.returns
returns c = rest_of_short c.args.value.now (omega arith)
