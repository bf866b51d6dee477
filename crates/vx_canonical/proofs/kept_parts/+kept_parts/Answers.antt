use Rattle.std.proofs.Common.{rules, ◌≡◌, ◌∙◌, ◌+◌, map, sym, ap, subst, true, IfOk, None, arith}
use Rattle.std.specs.List.{All}
use Rattle.vx_base.specs.Codes.{kind_depth, kinds_depth}
use Rattle.vx_base.specs.DTypes.{dtype_meaning, dtype_meaning-Struct, field_kinds, field_names, is_nullable, kinds_of}
use Rattle.vx_base.specs.Kinds.{fixed_lists, records}
use Rattle.vx_base.specs.Refusals.{Refuses}
use Rattle.vx_base.specs.ValueRows.{option_row}
use Rattle.vx_base.proofs.ValueFits.{field_depth}
use Rattle.vx_tree.specs.Parts.{valid_of}
use Rattle.vx_tree.specs.Extents.{rows_extent}
use Rattle.vx_canonical.specs.PlainValues.{FitsIfThere}
use Rattle.vx_tree.specs.CanonicalFaults.{kept_fault, kept_fields_fault}
use Rattle.vx_canonical.specs.Canonical.{IsBlankPart}
use Rattle.vx_canonical.proofs.KeptParts.{needs_kept, needs_kept-fault, kept_items_fit, lists_kept_formed, lists_kept, AreKeptFields-next, kept_fields_fault-next, records_kept_formed, records_kept}
use Rattle.vx_canonical.proofs.PlainParts.{record_fields_fit, field_values_fit}
use Rattle.vx_canonical.proofs.kept_parts.+kept_parts.Goals as goal

pub kept_by_fields-kept_parts-requires : goal.kept_by_fields-kept_parts-requires
kept_by_fields-kept_parts-requires t c =
    let ds = c.args.dtypes.now in
    let i = c.loop-place.place in
    let d = c.index-dtypes-place.result in (
      omega (arith, field_depth ds i d c.loop-place-test.true c.index-dtypes-place.is, c.decreases),
      rw c.deref.ensures.value (field_values_fit ds i d c.args.values.now c.in_ok-rows.rows.items c.requires c.loop-place-test.true c.index-dtypes-place.is c.in_ok-rows.ensures),
    )

pub kept_by_fields-loop-place-preserved : goal.kept_by_fields-loop-place-preserved
kept_by_fields-loop-place-preserved t c =
    let ds = c.args.dtypes.now in
    let i = c.loop-place.place in
    let d = c.index-dtypes-place.result in
    let k = dtype_meaning d in
    let vs = c.args.values.now in
    let ws = c.in_ok-rows.rows.items in
    let column = c.in_ok-kept_parts.field-0 in
    let made : IsBlankPart k (rows_extent k (map option_row ws)) 0 column = rw c.deref.ensures.value at c.in_ok-kept_parts.ensures.made in
    let none : kept_fault k (map option_row ws) ≡ None = rw c.deref.ensures.value at c.in_ok-kept_parts.ensures.refuses in (
      AreKeptFields-next ds i d (map option_row vs) (map option_row ws) c.loop-place.columns.items c.push.new.self.items column c.loop-place.invariant.0 c.loop-place-test.true c.index-dtypes-place.is c.in_ok-rows.ensures made c.in_ok-push.ensures.items,
      kept_fields_fault-next ds i d (map option_row vs) (map option_row ws) (kept_fields_fault (kinds_of ds) 0 (map option_row vs)) c.loop-place.invariant.1 c.loop-place-test.true c.index-dtypes-place.is c.in_ok-rows.ensures none,
    )

pub kept_by_fixed_lists-kept_parts-requires : goal.kept_by_fixed_lists-kept_parts-requires
kept_by_fixed_lists-kept_parts-requires t c =
    (omega (arith, c.decreases), rw c.deref.ensures.value (kept_items_fit (dtype_meaning c.args.items.now) c.args.size (is_nullable c.args.nullability) c.args.values.now c.in_ok-rows.rows.items c.in_ok-rows.ensures c.requires))

pub kept_by_fixed_lists-fixed_size_list-requires : goal.kept_by_fixed_lists-fixed_size_list-requires
kept_by_fixed_lists-fixed_size_list-requires t c =
    let k = dtype_meaning c.args.items.now in
    let qs = map option_row c.in_ok-rows.rows.items in
    let made : IsBlankPart k (rows_extent k qs) 0 c.in_ok-elements.elements = rw c.deref.ensures.value at c.in_ok-elements.ensures.made in
    lists_kept_formed c.in_ok-elements.elements k c.args.size (is_nullable c.args.nullability) (valid_of c.missing_validity-validity.result) qs c.missing_validity-validity.ensures made

pub kept_by_fixed_lists-returns-clause-made : goal.kept_by_fixed_lists-returns-clause-made
kept_by_fixed_lists-returns-clause-made t c =
    let k = dtype_meaning c.args.items.now in
    let qs = map option_row c.in_ok-rows.rows.items in
    let made : IsBlankPart k (rows_extent k qs) 0 c.in_ok-elements.elements = rw c.deref.ensures.value at c.in_ok-elements.ensures.made in
    lists_kept c.in_ok-fixed_size_list.field-0 c.in_ok-elements.elements k c.args.size (is_nullable c.args.nullability) (valid_of c.missing_validity-validity.result) (map option_row c.args.values.now) qs
    c.missing_validity-validity.ensures c.in_ok-rows.ensures made c.in_ok-fixed_size_list.ensures

pub kept_by_records-kept_by_fields-requires : goal.kept_by_records-kept_by_fields-requires
kept_by_records-kept_by_fields-requires t c =
    let fs = c.args.fields.now in
    let ds = c.fields.result.now in
    let deep : kinds_depth (kinds_of ds) ≡ kinds_depth (field_kinds fs) = ap kinds_depth c.fields.ensures.kinds in (
      omega (arith, deep, c.decreases),
      record_fields_fit (field_names fs) ds (is_nullable c.args.nullability) c.args.values.now
          (subst (λ ks. All (FitsIfThere (records (field_names fs) ks (is_nullable c.args.nullability))) c.args.values.now) (sym c.fields.ensures.kinds) c.requires),
    )

pub kept_by_records-structure-requires-clause-columns : goal.kept_by_records-structure-requires-clause-columns
kept_by_records-structure-requires-clause-columns t c =
    let fs = c.args.fields.now in
    let ds = c.fields.result.now in
    rw (c.in_ok-names.ensures, c.names.ensures) ((records_kept_formed (field_names fs) ds (is_nullable c.args.nullability) (valid_of c.missing_validity-validity.result) (map option_row c.args.values.now) c.in_ok-columns.columns.items
    c.missing_validity-validity.ensures (sym c.fields.ensures.count) c.in_ok-columns.ensures.made).1)

pub kept_by_records-returns-clause-made : goal.kept_by_records-returns-clause-made
kept_by_records-returns-clause-made t c =
    let fs = c.args.fields.now in
    let ds = c.fields.result.now in
    let m = is_nullable c.args.nullability in
    let rs = map option_row c.args.values.now in
    let kept = records_kept c.in_ok-structure.field-0 (field_names fs) ds m (valid_of c.missing_validity-validity.result) rs c.in_ok-columns.columns.items
    c.missing_validity-validity.ensures c.in_ok-columns.ensures.made (rw (c.in_ok-names.ensures, c.names.ensures) at c.in_ok-structure.ensures) in
    subst (λ ks. IsBlankPart (records (field_names fs) ks m) (rows_extent (records (field_names fs) ks m) rs) 0 c.in_ok-structure.field-0) c.fields.ensures.kinds kept

pub kept_parts-kept_by_records-requires : goal.kept_parts-kept_by_records-requires
kept_parts-kept_by_records-requires t c =
    let fs = c.in-Struct.fields in
    let n = c.in-Struct.nullability in
    let kind : dtype_meaning c.args.dtype.now ≡ records (field_names fs) (field_kinds fs) (is_nullable n) = ap dtype_meaning c.in-Struct.is ∙ dtype_meaning-Struct fs n in
    let deep : kind_depth (dtype_meaning c.args.dtype.now) ≡ kinds_depth (field_kinds fs) + 1 = ap kind_depth kind in
    (omega (arith, deep, c.decreases), subst (λ k. All (FitsIfThere k) c.args.values.now) kind c.requires)

pub kept_parts-returns-in-FixedSizeList-clause-refuses : goal.kept_parts-returns-in-FixedSizeList-clause-refuses
kept_parts-returns-in-FixedSizeList-clause-refuses t c =
    let parts = c.in-FixedSizeList in
    let kind : dtype_meaning c.args.dtype.now ≡ fixed_lists (dtype_meaning c.deref.result.now) parts.size (is_nullable parts.nullability) =
    ap dtype_meaning parts.is ∙ ap (λ d. fixed_lists (dtype_meaning d) parts.size (is_nullable parts.nullability)) (sym c.deref.ensures) in
    subst (λ k. Refuses c.kept_by_fixed_lists.result (kept_fault k (map option_row c.args.values.now))) (sym kind) c.kept_by_fixed_lists.ensures.refuses

pub kept_parts-returns-in-FixedSizeList-clause-made : goal.kept_parts-returns-in-FixedSizeList-clause-made
kept_parts-returns-in-FixedSizeList-clause-made t c =
    let parts = c.in-FixedSizeList in
    let kind : dtype_meaning c.args.dtype.now ≡ fixed_lists (dtype_meaning c.deref.result.now) parts.size (is_nullable parts.nullability) =
    ap dtype_meaning parts.is ∙ ap (λ d. fixed_lists (dtype_meaning d) parts.size (is_nullable parts.nullability)) (sym c.deref.ensures) in
    subst (λ k. IfOk c.kept_by_fixed_lists.result (IsBlankPart k (rows_extent k (map option_row c.args.values.now)) 0)) (sym kind) c.kept_by_fixed_lists.ensures.made

pub kept_parts-returns-in-Struct-clause-made : goal.kept_parts-returns-in-Struct-clause-made
kept_parts-returns-in-Struct-clause-made t c =
    let fs = c.in-Struct.fields in
    let n = c.in-Struct.nullability in
    let kind : dtype_meaning c.args.dtype.now ≡ records (field_names fs) (field_kinds fs) (is_nullable n) = ap dtype_meaning c.in-Struct.is ∙ dtype_meaning-Struct fs n in
    subst (λ k. IfOk c.kept_by_records.result (IsBlankPart k (rows_extent k (map option_row c.args.values.now)) 0)) (sym kind) c.kept_by_records.ensures.made

pub kept_parts-returns-in-Struct-clause-refuses : goal.kept_parts-returns-in-Struct-clause-refuses
kept_parts-returns-in-Struct-clause-refuses t c =
    let fs = c.in-Struct.fields in
    let n = c.in-Struct.nullability in
    let kind : dtype_meaning c.args.dtype.now ≡ records (field_names fs) (field_kinds fs) (is_nullable n) = ap dtype_meaning c.in-Struct.is ∙ dtype_meaning-Struct fs n in
    subst (λ k. Refuses c.kept_by_records.result (kept_fault k (map option_row c.args.values.now))) (sym kind) c.kept_by_records.ensures.refuses

pub kept_parts-returns-in-List-clause-refuses : goal.kept_parts-returns-in-List-clause-refuses
kept_parts-returns-in-List-clause-refuses t c =
    let k = dtype_meaning c.args.dtype.now in
    let needs : needs_kept k ≡ true = search rules in
    subst (Refuses c.kept_by_rows.result) (needs_kept-fault k (map option_row c.args.values.now) needs) c.kept_by_rows.ensures.refuses

pub kept_parts-returns-in-Bool-clause-refuses : goal.kept_parts-returns-in-Bool-clause-refuses
kept_parts-returns-in-Bool-clause-refuses t c =
    let k = dtype_meaning c.args.dtype.now in
    let needs : needs_kept k ≡ true = search rules in
    subst (Refuses c.kept_by_rows-in-Bool.result) (needs_kept-fault k (map option_row c.args.values.now) needs) c.kept_by_rows-in-Bool.ensures.refuses
