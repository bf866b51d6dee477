use Rattle.std.proofs.Common.{ℕ, ◌≡◌, ◌∷◌, [], ◌∙◌, length, map, true, sym, ap, subst, None, inr, arith}
use Rattle.std.proofs.lemmas.List.{length-replicate}
use Rattle.std.proofs.lemmas.Result.{err_from_is_err_and}
use Rattle.vx_base.specs.Defaults.{is_even}
use Rattle.vx_base.specs.DTypes.{dtype_meaning}
use Rattle.vx_base.specs.Refusals.{IsMemoryOr, Refuses}
use Rattle.vx_base.specs.Rows.{null}
use Rattle.vx_base.specs.ValueRows.{option_row}
use Rattle.vx_base.proofs.Defaults.{dtype_even}
use Rattle.vx_tree.specs.Parts.{tree_of}
use Rattle.vx_tree.specs.CanonicalFaults.{canonical_fault, kept_fault, plain_overflow}
use Rattle.vx_canonical.proofs.CanonicalFaults.{null_fault, constant_kept, constant_one, constant_uncounted, one_row_kept}
use Rattle.vx_canonical.proofs.PlainKinds.{take_overflow-plain}
use Rattle.vx_canonical.proofs.CanonicalWithin.{constant_row_within, constant_within}
use Rattle.vx_canonical.proofs.layouts.constant.canonical_constant.Goals as goal

pub returns-then-is_null-clause-refuses : goal.returns-then-is_null-clause-refuses
returns-then-is_null-clause-refuses c =
    let s = c.in-Constant.scalar in
    let n = c.in-Constant.len in
    let same = sym c.layout.ensures.parts ∙ ap tree_of c.in-Constant.is in
    let none : s.row ≡ null = c.is_null.ensures.0 c.if-is_null.true in
    let many : Refuses c.null_rows.result (plain_overflow s.kind n) = subst (λ k. Refuses c.null_rows.result (plain_overflow k n)) c.dtype-dtype.ensures.value c.null_rows.ensures.refuses in
    subst (Refuses c.null_rows.result) (null_fault c.args.array.now s.kind s.row n same none) many

pub returns-then-not-is_countable-clause-refuses : goal.returns-then-not-is_countable-clause-refuses
returns-then-not-is_countable-clause-refuses c =
    let s = c.in-Constant.scalar in
    let n = c.in-Constant.len in
    let same = sym c.layout.ensures.parts ∙ ap tree_of c.in-Constant.is in
    inr (constant_uncounted c.args.array.now s.kind s.row n same (sym (ap (λ k. plain_overflow k n) c.dtype-dtype.ensures.value) ∙ (rw c.if-not-is_countable.true at c.is_countable.ensures)))

pub returns-in_err-check_kept-clause-refuses : goal.returns-in_err-check_kept-clause-refuses
returns-in_err-check_kept-clause-refuses c =
    let s = c.in-Constant.scalar in
    let n = c.in-Constant.len in
    let v = c.value.result.now in
    let same = sym c.layout.ensures.parts ∙ ap tree_of c.in-Constant.is in
    let few : plain_overflow s.kind n ≡ None = sym (ap (λ k. plain_overflow k n) c.dtype-dtype.ensures.value) ∙ (rw c.if-not-is_countable.false at c.is_countable.ensures) in
    let even : is_even s.kind ≡ true = ap is_even (sym c.dtype-dtype.ensures.value) ∙ dtype_even c.dtype-dtype.result.now in
    let e = c.in_err-check_kept.field-0.0 in
    let p = err_from_is_err_and c.from_residual.result c.from_residual.ensures.1 in
    let one : IsMemoryOr (kept_fault (dtype_meaning c.dtype-dtype.result.now) (map option_row (v ∷ []))) e = rw c.from_ref.ensures.value at c.in_err-check_kept.ensures in
    let told : IsMemoryOr (kept_fault s.kind (map option_row (v ∷ []))) e = subst (λ k. IsMemoryOr (kept_fault k (map option_row (v ∷ []))) e) c.dtype-dtype.ensures.value one in
    rw (p.1, p.2) (subst (λ f. IsMemoryOr f e) (one_row_kept s.kind v s.row c.value.ensures even ∙ sym (ap canonical_fault same ∙ constant_kept s.kind s.row n few)) told)

pub returns-in_err-row-clause-refuses : goal.returns-in_err-row-clause-refuses
returns-in_err-row-clause-refuses c =
    let s = c.in-Constant.scalar in
    let n = c.in-Constant.len in
    let same = sym c.layout.ensures.parts ∙ ap tree_of c.in-Constant.is in
    let few : plain_overflow s.kind n ≡ None = sym (ap (λ k. plain_overflow k n) c.dtype-dtype.ensures.value) ∙ (rw c.if-not-is_countable.false at c.is_countable.ensures) in
    let e = c.in_err-row.field-0.0 in
    let p = err_from_is_err_and c.from_residual-in_err-row.result c.from_residual-in_err-row.ensures.1 in
    rw (p.1, p.2) (subst (λ f. IsMemoryOr f e) (constant_one c.args.array.now s.kind s.row n same (omega arith) few) c.in_err-row.ensures.refuses)

pub select_within-requires-clause-countable : goal.select_within-requires-clause-countable
select_within-requires-clause-countable c =
    let s = c.in-Constant.scalar in
    let n = c.in-Constant.len in
    let few : plain_overflow s.kind n ≡ None = sym (ap (λ k. plain_overflow k n) c.dtype-dtype.ensures.value) ∙ (rw c.if-not-is_countable.false at c.is_countable.ensures) in
    let one = c.in_ok-row.ensures.ok in
    let long : length c.repeated.result ≡ n = ap length c.repeated.ensures ∙ length-replicate {A = ℕ} n 0 in
    take_overflow-plain c.in_ok-row.row c.known.ensures one.plain (length c.repeated.result) ∙ (λ i. plain_overflow (one.same.kind i) (long i)) ∙ few

pub returns-clause-refuses : goal.returns-clause-refuses
returns-clause-refuses c =
    let s = c.in-Constant.scalar in
    let n = c.in-Constant.len in
    let same = sym c.layout.ensures.parts ∙ ap tree_of c.in-Constant.is in
    let few : plain_overflow s.kind n ≡ None = sym (ap (λ k. plain_overflow k n) c.dtype-dtype.ensures.value) ∙ (rw c.if-not-is_countable.false at c.is_countable.ensures) in
    sym (constant_one c.args.array.now s.kind s.row n same (omega arith) few) ∙ c.in_ok-row.ensures.refuses

pub returns-clause-within : goal.returns-clause-within
returns-clause-within c = constant_row_within c.args.array.now c.in_ok-select_within.field-0 c.requires

pub returns-then-is_null-clause-within : goal.returns-then-is_null-clause-within
returns-then-is_null-clause-within c = constant_within c.args.array.now c.null_rows.result c.requires
