use Rattle.std.proofs.Common.{◌≡◌, ◌∙◌, ◌+◌, length, map, sym, ap, subst, None, Some, inr, arith}
use Rattle.std.specs.List.{All}
use Rattle.vx_base.specs.Codes.{kind_depth, kinds_depth}
use Rattle.vx_base.specs.DTypes.{dtype_meaning, dtype_meaning-Struct, field_kinds, field_names, is_nullable, kinds_of}
use Rattle.vx_base.specs.Kinds.{records}
use Rattle.vx_base.specs.Refusals.{Refuses, overflow}
use Rattle.vx_base.specs.ValueRows.{option_row}
use Rattle.vx_base.proofs.ValueFits.{field_depth}
use Rattle.vx_canonical.specs.PlainValues.{FitsIfThere}
use Rattle.vx_tree.specs.CanonicalFaults.{kept_fault, kept_fields_fault, plain_overflow, rows_fault}
use Rattle.vx_canonical.proofs.Kept.{values_counted, values_uncounted}
use Rattle.vx_canonical.proofs.KeptParts.{kept_items_fit, kept_fields_fault-next}
use Rattle.vx_canonical.proofs.PlainParts.{list_rows_fit, record_fields_fit, field_values_fit}
use Rattle.vx_canonical.proofs.kept_faults.+check_kept.Goals as goal

pub check_fields-check_kept-requires : goal.check_fields-check_kept-requires
check_fields-check_kept-requires t c =
    let ds = c.args.dtypes.now in
    let i = c.loop-place.place in
    let d = c.index-dtypes-place.result in (
      omega (arith, field_depth ds i d c.loop-place-test.true c.index-dtypes-place.is, c.decreases),
      rw c.deref.ensures.value (field_values_fit ds i d c.args.values.now c.in_ok-rows.rows.items c.requires c.loop-place-test.true c.index-dtypes-place.is c.in_ok-rows.ensures),
    )

pub check_fields-loop-place-preserved : goal.check_fields-loop-place-preserved
check_fields-loop-place-preserved t c =
    let ds = c.args.dtypes.now in
    let i = c.loop-place.place in
    let d = c.index-dtypes-place.result in
    let vs = c.args.values.now in
    let ws = c.in_ok-rows.rows.items in
    let none : kept_fault (dtype_meaning d) (map option_row ws) ≡ None = rw c.deref.ensures.value at c.in_ok-check_kept.ensures in
    kept_fields_fault-next ds i d (map option_row vs) (map option_row ws) (kept_fields_fault (kinds_of ds) 0 (map option_row vs)) c.loop-place.invariant c.loop-place-test.true c.index-dtypes-place.is c.in_ok-rows.ensures none

pub check_fixed_lists-check_kept-requires : goal.check_fixed_lists-check_kept-requires
check_fixed_lists-check_kept-requires t c =
    (omega (arith, c.decreases), rw c.deref.ensures.value (kept_items_fit (dtype_meaning c.args.items.now) c.args.size (is_nullable c.args.nullability) c.args.values.now c.in_ok-rows.rows.items c.in_ok-rows.ensures c.requires))

pub check_lists-check_kept-requires : goal.check_lists-check_kept-requires
check_lists-check_kept-requires t c =
    (omega (arith, c.decreases), rw c.deref.ensures.value (list_rows_fit (dtype_meaning c.args.items.now) (is_nullable c.args.nullability) c.args.values.now c.in_ok-rows.rows.items c.in_ok-rows.ensures c.requires))

pub check_records-check_fields-requires : goal.check_records-check_fields-requires
check_records-check_fields-requires t c =
    let fs = c.args.fields.now in
    let ds = c.fields.result.now in
    let deep : kinds_depth (kinds_of ds) ≡ kinds_depth (field_kinds fs) = ap kinds_depth c.fields.ensures.kinds in (
      omega (arith, deep, c.decreases),
      record_fields_fit (field_names fs) ds (is_nullable c.args.nullability) c.args.values.now
          (subst (λ ks. All (FitsIfThere (records (field_names fs) ks (is_nullable c.args.nullability))) c.args.values.now) (sym c.fields.ensures.kinds) c.requires),
    )

pub check_kept-check_records-requires : goal.check_kept-check_records-requires
check_kept-check_records-requires t c =
    let fs = c.in-Struct.fields in
    let n = c.in-Struct.nullability in
    let kind : dtype_meaning c.args.dtype.now ≡ records (field_names fs) (field_kinds fs) (is_nullable n) = ap dtype_meaning c.in-Struct.is ∙ dtype_meaning-Struct fs n in
    let deep : kind_depth (dtype_meaning c.args.dtype.now) ≡ kinds_depth (field_kinds fs) + 1 = ap kind_depth kind in
    (omega (arith, deep, c.decreases), subst (λ k. All (FitsIfThere k) c.args.values.now) kind c.requires)

pub check_kept-returns-in-Struct : goal.check_kept-returns-in-Struct
check_kept-returns-in-Struct t c =
    let fs = c.in-Struct.fields in
    let n = c.in-Struct.nullability in
    let kind : dtype_meaning c.args.dtype.now ≡ records (field_names fs) (field_kinds fs) (is_nullable n) = ap dtype_meaning c.in-Struct.is ∙ dtype_meaning-Struct fs n in
    subst (λ k. Refuses c.check_records.result (kept_fault k (map option_row c.args.values.now))) (sym kind) c.check_records.ensures

pub check_lists-returns-then-not-is_countable : goal.check_lists-returns-then-not-is_countable
check_lists-returns-then-not-is_countable t c =
    let k = dtype_meaning c.args.items.now in
    let rows = c.in_ok-rows.rows.items in
    let fit = list_rows_fit k (is_nullable c.args.nullability) c.args.values.now rows c.in_ok-rows.ensures c.requires in
    let long : c.len.result ≡ length rows = omega (arith, c.len.ensures, c.in_ok-rows.rows.ok) in
    let many : plain_overflow k (length rows) ≡ Some overflow = ap (plain_overflow k) (sym long) ∙ (rw c.if-not-is_countable.true at c.is_countable.ensures) in
    inr (ap (rows_fault k) (sym c.in_ok-rows.ensures) ∙ values_uncounted k rows fit many)

pub check_lists-returns : goal.check_lists-returns
check_lists-returns t c =
    let k = dtype_meaning c.args.items.now in
    let rows = c.in_ok-rows.rows.items in
    let fit = list_rows_fit k (is_nullable c.args.nullability) c.args.values.now rows c.in_ok-rows.ensures c.requires in
    let long : c.len.result ≡ length rows = omega (arith, c.len.ensures, c.in_ok-rows.rows.ok) in
    let few : plain_overflow k (length rows) ≡ None = ap (plain_overflow k) (sym long) ∙ (rw c.if-not-is_countable.false at c.is_countable.ensures) in
    let told : Refuses c.check_kept.result (kept_fault k (map option_row rows)) = rw c.deref.ensures.value at c.check_kept.ensures in
    subst (Refuses c.check_kept.result) (sym (ap (rows_fault k) (sym c.in_ok-rows.ensures) ∙ values_counted k rows fit few)) told
