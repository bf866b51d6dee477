use Rattle.std.proofs.Common.{rules, ◌≡◌, ◌∙◌, ap, sym, Some}
use Rattle.std.proofs.lemmas.Bool.{ltb-true, ltb-false}
use Rattle.vx_base.proofs.Refused.{Gives-weaker}
use Rattle.vx_base.specs.declared.scalar_value.ScalarValue.TheVariants as value
use Rattle.vx_base.specs.ValueRows.{option_row}
use Rattle.vx_canonical.proofs.PlainParts.{field_there, field_absent}
use Rattle.vx_canonical.proofs.canonical_nested.field_at.Goals as goal

pub returns-in-Some : goal.returns-in-Some
returns-in-Some c =
    let is : c.args.value.now ≡ Some (value.Record c.in-Some-Record.fields) = search rules in
    let here = c.in-Some.ensures.lookup in
    Gives-weaker c.share.result _ _
    (λ a e. ap option_row e ∙ field_there c.args.place c.args.value.now c.in-Some-Record.fields c.as_slice.result.now c.in-Some.field.now is c.as_slice.ensures (ltb-true c.args.place _ (sym here.0)) here.1) c.share.ensures

pub returns-in-None : goal.returns-in-None
returns-in-None c =
    let is : c.args.value.now ≡ Some (value.Record c.in-Some-Record.fields) = search rules in
    field_absent c.args.place c.args.value.now c.in-Some-Record.fields c.as_slice.result.now is c.as_slice.ensures (ltb-false c.args.place _ (sym c.in-None.ensures.lookup.0))
