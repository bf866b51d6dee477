use Rattle.std.proofs.Common.{◌≡◌, ◌∙◌, ◌↔◌, sym, ap, subst, length, Some, IsTrue, arith}
use Rattle.vx_base.proofs.ValueFits.{fields_lengths, fields_step, fields_stop, fixed_fits, record_fits}
use Rattle.vx_base.specs.DTypes.{dtype_meaning, field_names, is_nullable}
use Rattle.vx_base.specs.ValueRows.{RecordFits, ValuesFit}
use Rattle.vx_base.proofs.scalar_value.+fits.Goals as goal

pub fields_fit-returns-then-dtypes-values : goal.fields_fit-returns-then-dtypes-values
fields_fit-returns-then-dtypes-values t c = (
  (λ p. cc),
  (λ h.
      let counts = fields_lengths (field_names c.args.fields.now) c.fields-dtypes.result.now c.args.values.now
      (subst (λ ks. RecordFits (field_names c.args.fields.now) ks c.args.values.now) (sym c.fields-dtypes.ensures.kinds) h) in
      absurd (c.if-dtypes-values.true counts.1)),
)

pub fields_fit-returns-then-not-fits : goal.fields_fit-returns-then-not-fits
fields_fit-returns-then-not-fits t c =
    let names = field_names c.args.fields.now in
    let values = c.args.values.now in
    let in_names = c.fields-dtypes.ensures.count in (
      (λ p. cc),
      (λ h. sym c.if-not-fits.true ∙ c.fits.ensures.1 (fields_stop names c.fields-dtypes.result.now values c.loop-i.i c.index-dtypes-i.result c.index-values-i.result
          (RecordFits names _ values) (omega (arith, in_names)) (omega arith) (omega arith) c.index-dtypes-i.is c.index-values-i.is c.loop-i.invariant
          (subst (λ ks. RecordFits names ks values) (sym c.fields-dtypes.ensures.kinds) h))),
    )

pub fields_fit-loop-i-preserved : goal.fields_fit-loop-i-preserved
fields_fit-loop-i-preserved t c =
    let in_names = c.fields-dtypes.ensures.count in
    fields_step (field_names c.args.fields.now) c.fields-dtypes.result.now c.args.values.now c.loop-i.i c.index-dtypes-i.result c.index-values-i.result
    (RecordFits (field_names c.args.fields.now) _ c.args.values.now)
    (omega (arith, in_names)) (omega arith) (omega arith) c.index-dtypes-i.is c.index-values-i.is (c.fits.ensures.0 c.if-not-fits.false) c.loop-i.invariant

pub fits-returns-in-List-value-2 : goal.fits-returns-in-List-value-2
fits-returns-in-List-value-2 t c =
    fixed_fits c.all_fit_size.result (dtype_meaning c.in-FixedSizeList.items.value) (dtype_meaning c.args.dtype.now) c.in-FixedSizeList.size (is_nullable c.in-FixedSizeList.field-2)
    c.in-List-value-2.rows c.as_slice-in-List-value-2.result.now c.args.value.now
    (ap dtype_meaning c.in-FixedSizeList.is) (c.in-Some.is ∙ ap Some c.in-List-value-2.is) c.as_slice-in-List-value-2.ensures
    (subst (λ d. IsTrue c.all_fit_size.result ↔ ((length c.as_slice-in-List-value-2.result.now ≡ c.in-FixedSizeList.size) × ValuesFit (dtype_meaning d) c.as_slice-in-List-value-2.result.now))
    c.deref-in-List-value-2.ensures c.all_fit_size.ensures)

pub fits-returns-in-Record : goal.fits-returns-in-Record
fits-returns-in-Record t c =
    record_fits c.fields_fit.result c.args.dtype.now c.in-Struct.fields c.in-Struct.field-1 c.in-Record.values c.as_slice-in-Record.result.now c.args.value.now
    c.in-Struct.is (c.in-Some.is ∙ ap Some c.in-Record.is) c.as_slice-in-Record.ensures c.fields_fit.ensures
