use Rattle.std.proofs.Common.{◌≡◌, ◌∷◌, [], ◌∙◌, map, true, None, sym, ap, subst}
use Rattle.std.proofs.lemmas.Result.{err_from_is_err_and}
use Rattle.vx_base.specs.Defaults.{is_even}
use Rattle.vx_base.specs.DTypes.{dtype_meaning}
use Rattle.vx_base.specs.Refusals.{IsMemoryOr}
use Rattle.vx_base.specs.ValueRows.{option_row}
use Rattle.vx_base.proofs.Defaults.{dtype_even}
use Rattle.vx_tree.specs.Meaning.{kind_of}
use Rattle.vx_tree.specs.Parts.{valid_of}
use Rattle.vx_tree.specs.Extents.{rows_extent}
use Rattle.vx_tree.specs.CanonicalFaults.{kept_fault}
use Rattle.vx_canonical.specs.Canonical.{IsBlankPart}
use Rattle.vx_canonical.proofs.CanonicalFaults.{one_row_kept}
use Rattle.vx_canonical.proofs.Kept.{no_rows_countable}
use Rattle.vx_canonical.proofs.KeptParts.{none_canonical}
use Rattle.vx_canonical.proofs.layouts.constant.no_row.Goals as goal

pub returns-in_err-kept-clause-refuses : goal.returns-in_err-kept-clause-refuses
returns-in_err-kept-clause-refuses c =
    let s = c.args.scalar.now in
    let v = c.value.result.now in
    let e = c.in_err-kept.field-0.0 in
    let even : is_even s.kind ≡ true = ap is_even (sym c.dtype-dtype.ensures.value) ∙ dtype_even c.dtype-dtype.result.now in
    let one : IsMemoryOr (kept_fault (dtype_meaning c.dtype-dtype.result.now) (map option_row (v ∷ []))) e = rw c.from_ref.ensures.value at c.in_err-kept.ensures.refuses in
    let whole : IsMemoryOr (kept_fault s.kind (map option_row (v ∷ []))) e = subst (λ k. IsMemoryOr (kept_fault k (map option_row (v ∷ []))) e) c.dtype-dtype.ensures.value one in
    let p = err_from_is_err_and c.from_residual.result c.from_residual.ensures.1 in
    rw (p.1, p.2) (subst (λ f. IsMemoryOr f e) (one_row_kept s.kind v s.row c.value.ensures even) whole)

pub blank_like-requires-clause-countable : goal.blank_like-requires-clause-countable
blank_like-requires-clause-countable c = no_rows_countable (kind_of c.in_ok-kept.kept)

pub returns-clause-ok : goal.returns-clause-ok
returns-clause-ok c =
    let s = c.args.scalar.now in
    let v = c.value.result.now in
    let kept = c.in_ok-kept.kept in
    let even : is_even s.kind ≡ true = ap is_even (sym c.dtype-dtype.ensures.value) ∙ dtype_even c.dtype-dtype.result.now in
    let k = dtype_meaning c.dtype-dtype.result.now in
    let one : IsBlankPart k (rows_extent k (map option_row (v ∷ []))) 0 kept = rw c.from_ref.ensures.value at c.in_ok-kept.ensures.made in
    let made : IsBlankPart s.kind (rows_extent s.kind (map option_row (v ∷ []))) 0 kept = subst (λ j. IsBlankPart j (rows_extent j (map option_row (v ∷ []))) 0 kept) c.dtype-dtype.ensures.value one in
    none_canonical s.kind s.row v kept c.in_ok-blank_like.field-0 (valid_of c.scalar_validity.result) c.value.ensures even c.scalar_validity.ensures.state c.scalar_validity.ensures.nullable made c.in_ok-blank_like.ensures

pub returns-clause-refuses : goal.returns-clause-refuses
returns-clause-refuses c =
    let s = c.args.scalar.now in
    let v = c.value.result.now in
    let even : is_even s.kind ≡ true = ap is_even (sym c.dtype-dtype.ensures.value) ∙ dtype_even c.dtype-dtype.result.now in
    let one : kept_fault (dtype_meaning c.dtype-dtype.result.now) (map option_row (v ∷ [])) ≡ None = rw c.from_ref.ensures.value at c.in_ok-kept.ensures.refuses in
    let whole : kept_fault s.kind (map option_row (v ∷ [])) ≡ None = subst (λ k. kept_fault k (map option_row (v ∷ [])) ≡ None) c.dtype-dtype.ensures.value one in
    sym (one_row_kept s.kind v s.row c.value.ensures even) ∙ whole
