use Rattle.std.proofs.Common.{◌≡◌, ◌∷◌, [], ◌∙◌, map, true, sym, ap, subst, IfOk}
use Rattle.std.proofs.lemmas.Result.{IfOk-weaker}
use Rattle.vx_base.specs.Defaults.{is_even}
use Rattle.vx_base.specs.DTypes.{dtype_meaning}
use Rattle.vx_base.specs.Refusals.{Refuses}
use Rattle.vx_base.specs.ValueRows.{option_row}
use Rattle.vx_base.proofs.Defaults.{dtype_even}
use Rattle.vx_canonical.specs.PlainValues.{ArePlainValues}
use Rattle.vx_tree.specs.CanonicalFaults.{rows_fault}
use Rattle.vx_canonical.proofs.CanonicalFaults.{one_row_fault}
use Rattle.vx_canonical.proofs.PlainValues.{one_canonical}
use Rattle.vx_canonical.proofs.layouts.constant.one_row.Goals as goal

pub returns-clause-ok : goal.returns-clause-ok
returns-clause-ok c =
    let s = c.args.scalar.now in
    let r = c.plain_values.result in
    let even : is_even s.kind ≡ true = ap is_even (sym c.dtype-dtype.ensures.value) ∙ dtype_even c.dtype-dtype.result.now in
    let one : IfOk r (ArePlainValues (dtype_meaning c.dtype-dtype.result.now) (c.value.result.now ∷ [])) = rw c.from_ref.ensures.value at c.plain_values.ensures.made in
    let made : IfOk r (ArePlainValues s.kind (c.value.result.now ∷ [])) = subst (λ k. IfOk r (ArePlainValues k (c.value.result.now ∷ []))) c.dtype-dtype.ensures.value one in
    IfOk-weaker r _ _ (λ a h. one_canonical a s.kind s.row c.value.result.now c.value.ensures c.dtype-dtype.ensures.fits even h) made

pub returns-clause-refuses : goal.returns-clause-refuses
returns-clause-refuses c =
    let s = c.args.scalar.now in
    let r = c.plain_values.result in
    let v = c.value.result.now in
    let even : is_even s.kind ≡ true = ap is_even (sym c.dtype-dtype.ensures.value) ∙ dtype_even c.dtype-dtype.result.now in
    let one : Refuses r (rows_fault (dtype_meaning c.dtype-dtype.result.now) (map option_row (v ∷ []))) = rw c.from_ref.ensures.value at c.plain_values.ensures.refuses in
    let whole : Refuses r (rows_fault s.kind (map option_row (v ∷ []))) = subst (λ k. Refuses r (rows_fault k (map option_row (v ∷ [])))) c.dtype-dtype.ensures.value one in
    subst (Refuses r) (one_row_fault s.kind v s.row c.value.ensures c.dtype-dtype.ensures.fits even) whole
