use Rattle.std.proofs.Common.{◌<◌, length, sym, subst, refl}
use Rattle.vx_base.specs.Kinds.{records}
use Rattle.vx_pack.proofs.RecordRows.{record_of_values}
use Rattle.vx_pack.proofs.ValueLists.{value_row_at}
use Rattle.vx_pack.specs.declared.fields.Records.TheVariants.{Values}
use Rattle.vx_pack.specs.Records.{IsRecordOf}
use Rattle.vx_pack.specs.Parts.{IsPart, part_row}
use Rattle.vx_pack.proofs.parts.Part.record.Goals as goal

pub returns-in_ok-fields_of-in-Values : goal.returns-in_ok-fields_of-in-Values
returns-in_ok-fields_of-in-Values c = λ names ks n whole.
    let k = records names ks n in
    let inside : c.args.i < length c.in-Values.values.now = rw c.in-Values.is at c.requires.in_bounds in
    let part = subst (IsPart k) c.in-Values.is whole in
    let found = record_of_values names ks n c.index-values-i.result _ c.in_ok-fields_of-in-Values.field-0.now (part.fits c.args.i inside)
    (value_row_at k c.in-Values.values.now c.args.i c.index-values-i.result inside c.index-values-i.is) c.in_ok-fields_of-in-Values.ensures in
    subst (λ p. IsRecordOf names ks (part_row k p c.args.i) (Values c.in_ok-fields_of-in-Values.field-0)) (sym c.in-Values.is)
    (record { formed = record { reach = tt; kinds = found.0 }; one = refl; row = found.1 })
