use Rattle.std.proofs.Common.{ℕ, ◌∙◌, ap, arith}
use Rattle.std.specs.Int.{w32, to_le_bytes}
use Rattle.vx_views.proofs.Shifts.{padded_none, padded_one, padded_by_two}
use Rattle.vx_views.proofs.view.at_most_three.Goals as goal

pub returns-then-len-ge2 : goal.returns-then-len-ge2
returns-then-len-ge2 c =
    c.to_le_bytes.ensures
    ∙ padded_by_two c.args.value.now _ _ _ _ (c.from-then-len-ge2.ensures ∙ c.from_le_bytes-first.ensures) (c.from.ensures ∙ c.from_le_bytes-last.ensures)
    c.bytes_at.ensures c.bytes_at-then-len-ge2.ensures (omega arith) (omega arith) (λ (i : ℕ). (c.type_inv.value i).fits)

pub returns-then-len-eq1 : goal.returns-then-len-eq1
returns-then-len-eq1 c =
    c.to_le_bytes-then-len-eq1.ensures
    ∙ ap (to_le_bytes w32) c.from-then-len-eq1.ensures
    ∙ padded_one c.args.value.now c.if-len-eq1.true (λ (i : ℕ). (c.type_inv.value i).fits)

pub returns : goal.returns
returns c = padded_none c.args.value.now (omega arith)
