use Rattle.std.proofs.Common.{◌∙◌, ◌+◌, ◌≡◌, true, false, ap, sym, length, replicate, arith, rules}
use Rattle.std.proofs.lemmas.List.{get_or-replicate, length-replicate}
use Rattle.vx_base.specs.Bits.{bool_at}
use Rattle.vx_leaves.proofs.WordRows.{bit_of_all, bit_of_none}
use Rattle.vx_leaves.proofs.valid_rows.ValidRows.word_from.Goals as goal

pub returns-then-valid-clause-bits : goal.returns-then-valid-clause-bits
returns-then-valid-clause-bits c = λ i inside within.
    let same : c.args.self.now ≡ replicate c.in-Alike.field-1 true = search rules in
    bit_of_all i inside ∙ sym (ap (λ bs. bool_at bs (c.args.start + i)) same ∙ get_or-replicate c.in-Alike.field-1 (c.args.start + i) true false (omega (arith, ap length same, length-replicate c.in-Alike.field-1 true)))

pub returns-else-valid-clause-bits : goal.returns-else-valid-clause-bits
returns-else-valid-clause-bits c = λ i inside within.
    let same : c.args.self.now ≡ replicate c.in-Alike.field-1 false = search rules in
    bit_of_none i ∙ sym (ap (λ bs. bool_at bs (c.args.start + i)) same ∙ get_or-replicate c.in-Alike.field-1 (c.args.start + i) false false (omega (arith, ap length same, length-replicate c.in-Alike.field-1 false)))
