use Rattle.std.proofs.Common.{◌≡◌, ◌↔◌, ◌≤◌, IsTrue, sym, ◌∙◌, ap, subst, refl, arith, below_more, length, min}
use Rattle.std.proofs.lemmas.Bool.{eqb-true}
use Rattle.std.proofs.lemmas.Option.{IfSome_then}
use Rattle.vx_base.specs.Codes.{kind_depth, kinds_depth}
use Rattle.vx_base.specs.DTypes.{dtype_meaning, field_kinds, field_names, is_nullable}
use Rattle.vx_base.specs.Kinds.{Fits, is_nullable_kind, records}
use Rattle.vx_base.specs.Rows.{Row, number_in}
use Rattle.vx_base.proofs.ValueFits.{field_depth}
use Rattle.vx_tree.specs.RowParts.{field_at}
use Rattle.vx_tree.specs.Values.{bytes_in}
use Rattle.vx_pack.specs.RowForms.{truth_in}
use Rattle.vx_pack.specs.Parts.{IsPart, part_row}
use Rattle.vx_pack.proofs.RowForms.{binaries_differ, numbers_differ, texts_differ, truths_differ}
use Rattle.vx_pack.proofs.SameElements.{same_by_rows}
use Rattle.vx_pack.proofs.SameJoined.{as_many_items, item_depth, same_joined, sizes_differ}
use Rattle.vx_pack.proofs.SameParts.{dtype_at, fields_counted, lists_of_lengths, null_beside_record, same_all_records, same_field, same_fields_by_place, same_leaves, same_lists}
use Rattle.vx_pack.proofs.same_rows.+same.Goals as goal

pub same_by_kind-returns-in-Bool : goal.same_by_kind-returns-in-Bool
same_by_kind-returns-in-Bool t c =
    let k = dtype_meaning c.args.dtype.now in
    same_leaves truth_in k c.args.a c.args.b c.same_truths.result
    (subst (λ h. (r s : Row) → Fits h r → Fits h s → truth_in r ≡ truth_in s → r ≡ s) (sym (ap dtype_meaning c.in-Bool.is)) (truths_differ (is_nullable c.in-Bool.field-0)))
    c.requires.first c.requires.second c.requires.same_len (c.same_truths.ensures k)

pub same_by_kind-returns-in-Primitive : goal.same_by_kind-returns-in-Primitive
same_by_kind-returns-in-Primitive t c =
    let k = dtype_meaning c.args.dtype.now in
    same_leaves number_in k c.args.a c.args.b c.same_numbers.result
    (subst (λ h. (r s : Row) → Fits h r → Fits h s → number_in r ≡ number_in s → r ≡ s) (sym (ap dtype_meaning c.in-Primitive.is)) (numbers_differ c.in-Primitive.ptype (is_nullable c.in-Primitive.field-1)))
    c.requires.first c.requires.second c.requires.same_len (c.same_numbers.ensures k)

pub same_by_kind-returns-in-Utf8 : goal.same_by_kind-returns-in-Utf8
same_by_kind-returns-in-Utf8 t c =
    let k = dtype_meaning c.args.dtype.now in
    same_leaves bytes_in k c.args.a c.args.b c.same_texts.result
    (subst (λ h. (r s : Row) → Fits h r → Fits h s → bytes_in r ≡ bytes_in s → r ≡ s) (sym (ap dtype_meaning c.in-Utf8.is)) (texts_differ (is_nullable c.in-Utf8.field-0)))
    c.requires.first c.requires.second c.requires.same_len (c.same_texts.ensures k)

pub same_by_kind-returns-in-Binary : goal.same_by_kind-returns-in-Binary
same_by_kind-returns-in-Binary t c =
    let k = dtype_meaning c.args.dtype.now in
    same_leaves bytes_in k c.args.a c.args.b c.same_texts-in-Binary.result
    (subst (λ h. (r s : Row) → Fits h r → Fits h s → bytes_in r ≡ bytes_in s → r ≡ s) (sym (ap dtype_meaning c.in-Binary.is)) (binaries_differ (is_nullable c.in-Binary.field-0)))
    c.requires.first c.requires.second c.requires.same_len (c.same_texts-in-Binary.ensures k)

pub same_fields-field-requires-clause-in_bounds : goal.same_fields-field-requires-clause-in_bounds
same_fields-field-requires-clause-in_bounds t c =
    let counted = fields_counted (field_names c.args.fields.now) (field_kinds c.args.fields.now) c.args.a c.requires.first.kinds in
    omega (arith, counted, c.fields-dtypes.ensures.count, c.loop-place-test.true)

pub same_fields-field-requires-in-loop-place-clause-in_bounds : goal.same_fields-field-requires-in-loop-place-clause-in_bounds
same_fields-field-requires-in-loop-place-clause-in_bounds t c =
    let counted = fields_counted (field_names c.args.fields.now) (field_kinds c.args.fields.now) c.args.b c.requires.second.kinds in
    omega (arith, counted, c.fields-dtypes.ensures.count, c.loop-place-test.true)

pub same_fields-same_rows-requires : goal.same_fields-same_rows-requires
same_fields-same_rows-requires t c =
    let names = field_names c.args.fields.now in
    let ks = field_kinds c.args.fields.now in
    let ds = c.fields-dtypes.result.now in
    let kind = dtype_at ds ks c.loop-place.place c.index-dtypes-place.result c.fields-dtypes.ensures.kinds c.loop-place-test.true c.index-dtypes-place.is in
    let first = c.field.ensures names ks c.requires.first in
    let second = c.field-in-loop-place.ensures names ks c.requires.second in
    let depth = ap kinds_depth c.fields-dtypes.ensures.kinds in (
      omega (arith, field_depth ds c.loop-place.place c.index-dtypes-place.result c.loop-place-test.true c.index-dtypes-place.is, depth, c.decreases),
      (subst (λ k. IsPart k c.field.result) kind first.part, (subst (λ k. IsPart k c.field-in-loop-place.result) kind second.part, second.len ∙ c.requires.same_len ∙ sym first.len)),
    )

pub same_fields-returns-then-not-same_rows : goal.same_fields-returns-then-not-same_rows
same_fields-returns-then-not-same_rows t c =
    let names = field_names c.args.fields.now in
    let ks = field_kinds c.args.fields.now in
    let kind = dtype_at c.fields-dtypes.result.now ks c.loop-place.place c.index-dtypes-place.result c.fields-dtypes.ensures.kinds c.loop-place-test.true c.index-dtypes-place.is in
    let field = same_field names ks c.args.a c.args.b c.loop-place.place c.field.result c.field-in-loop-place.result (dtype_meaning c.index-dtypes-place.result) kind
    (c.field.ensures names ks c.requires.first) (c.field-in-loop-place.ensures names ks c.requires.second) c.requires.same_len in
    ((λ f. cc), (λ same. sym c.if-not-same_rows.true ∙ c.same_rows.ensures.1 (field.1 (λ i l. ap (field_at c.loop-place.place) (same i l)))))

pub same_fields-loop-place-preserved : goal.same_fields-loop-place-preserved
same_fields-loop-place-preserved t c =
    let names = field_names c.args.fields.now in
    let ks = field_kinds c.args.fields.now in
    let kind = dtype_at c.fields-dtypes.result.now ks c.loop-place.place c.index-dtypes-place.result c.fields-dtypes.ensures.kinds c.loop-place-test.true c.index-dtypes-place.is in
    let field = same_field names ks c.args.a c.args.b c.loop-place.place c.field.result c.field-in-loop-place.result (dtype_meaning c.index-dtypes-place.result) kind
    (c.field.ensures names ks c.requires.first) (c.field-in-loop-place.ensures names ks c.requires.second) c.requires.same_len in
    below_more _ _ c.loop-place.invariant (field.0 (c.same_rows.ensures.0 c.if-not-same_rows.false))

pub same_fields-returns : goal.same_fields-returns
same_fields-returns t c =
    let all : length (field_names c.args.fields.now) ≤ c.loop-place.place = omega (arith, c.fields-dtypes.ensures.count, c.loop-place-test.false) in
    ((λ yes. same_fields_by_place (field_names c.args.fields.now) (field_kinds c.args.fields.now) c.args.a c.args.b c.loop-place.place c.requires.first.kinds c.requires.second.kinds all c.loop-place.invariant), (λ same. refl))

pub same_list-returns-then-len : goal.same_list-returns-then-len
same_list-returns-then-len t c =
    let k = dtype_meaning c.args.dtype.now in
    let item = dtype_meaning c.items_of-items.result.now in
    same_lists item (part_row k c.args.a c.args.i) (part_row k c.args.b c.args.i) c.in-Some.first c.in-Some-list.second c.same_rows.result
    (c.in-Some.ensures item k c.items_of-items.ensures c.requires.first) (c.in-Some-list.ensures item k c.items_of-items.ensures c.requires.second)
    (sym c.len-2.ensures ∙ sym c.if-len.true ∙ c.len.ensures) c.same_rows.ensures

pub same_list-returns-else-len : goal.same_list-returns-else-len
same_list-returns-else-len t c =
    let k = dtype_meaning c.args.dtype.now in
    let item = dtype_meaning c.items_of-items.result.now in (
      (λ e. absurd (c.if-len.false (eqb-true c.len.result c.len-2.result e))),
      (λ same. absurd (c.if-len.false (c.len.ensures ∙ lists_of_lengths item (part_row k c.args.a c.args.i) (part_row k c.args.b c.args.i) c.in-Some.first c.in-Some-list.second
          (c.in-Some.ensures item k c.items_of-items.ensures c.requires.first) (c.in-Some-list.ensures item k c.items_of-items.ensures c.requires.second) same ∙ sym c.len-2.ensures))),
    )

pub same_rows-same_by_kind-requires : goal.same_rows-same_by_kind-requires
same_rows-same_by_kind-requires t c =
    let k = dtype_meaning c.args.dtype.now in (
      omega (arith, c.decreases),
      (
        c.first.ensures.part k c.requires.first,
        (
          c.first-then-has_one_row-2.ensures.part k c.requires.second,
          c.first-then-has_one_row-2.ensures.len ∙ ap (λ n. min n 1) c.requires.same_len ∙ sym c.first.ensures.len,
        ),
      ),
    )

pub same_records-same_fields-requires : goal.same_records-same_fields-requires
same_records-same_fields-requires t c =
    let names = field_names c.as_struct_fields.result.now in
    let ks = field_kinds c.as_struct_fields.result.now in
    let kind = c.as_struct_fields.ensures in
    let n = is_nullable_kind (dtype_meaning c.args.dtype.now) in
    let first = c.in-Some.ensures names ks n (subst (λ h. IsPart h c.args.a) kind c.requires.first) in
    let second = c.in-Some-records.ensures names ks n (subst (λ h. IsPart h c.args.b) kind c.requires.second) in
    let depth = ap kind_depth kind in
    (omega (arith, depth, c.decreases), (first.formed, (second.formed, second.count ∙ c.requires.same_len ∙ sym first.count)))

pub same_records-returns : goal.same_records-returns
same_records-returns t c =
    let names = field_names c.as_struct_fields.result.now in
    let ks = field_kinds c.as_struct_fields.result.now in
    let kind = c.as_struct_fields.ensures in
    let n = is_nullable_kind (dtype_meaning c.args.dtype.now) in
    let first = c.in-Some.ensures names ks n (subst (λ h. IsPart h c.args.a) kind c.requires.first) in
    let second = c.in-Some-records.ensures names ks n (subst (λ h. IsPart h c.args.b) kind c.requires.second) in
    same_all_records names ks n (dtype_meaning c.args.dtype.now) c.args.a c.args.b c.in-Some.first c.in-Some-records.second c.same_fields.result kind first second c.requires.same_len c.same_fields.ensures

pub same_record-returns-in_default : goal.same_record-returns-in_default
same_record-returns-in_default t c =
    let names = field_names c.as_struct_fields-fields.result.now in
    let ks = field_kinds c.as_struct_fields-fields.result.now in
    let kind = c.as_struct_fields-fields.ensures in
    let n = is_nullable_kind (dtype_meaning c.args.dtype.now) in
    let first = subst (λ h. IsPart h c.args.a) kind c.requires.first in
    let second = subst (λ h. IsPart h c.args.b) kind c.requires.second in
    subst (λ h. IsTrue c.is_none.result ↔ (part_row h c.args.a c.args.i ≡ part_row h c.args.b c.args.i)) (sym kind)
    (null_beside_record names ks n (part_row (records names ks n) c.args.a c.args.i) (part_row (records names ks n) c.args.b c.args.i) c.record-in_default.result c.is_none.result
    (first.fits c.args.i c.requires.in_first) (second.fits c.args.i c.requires.in_second) (c.in_default.ensures names ks n first) (c.record-in_default.ensures names ks n second) c.is_none.ensures)

pub same_stored_lists-same_lists_anywhere-requires : goal.same_stored_lists-same_lists_anywhere-requires
same_stored_lists-same_lists_anywhere-requires t c =
    let k = dtype_meaning c.args.dtype.now in
    let item = dtype_meaning c.items_of-items.result.now in
    let first = c.in_ok-first.ensures.lists item k c.items_of-items.ensures c.requires.first in
    let second = c.in_ok-second.ensures.lists item k c.items_of-items.ensures c.requires.second in
    record {
      first_kind = first.kind;
      second_kind = second.kind;
      first = c.in_ok-first.ensures.bytes;
      second = c.in_ok-second.ensures.bytes;
      same_len = (c.in_ok-second.ensures.rows k).count ∙ c.requires.same_len ∙ sym (c.in_ok-first.ensures.rows k).count;
    }

pub same_stored_lists-returns-in_default : goal.same_stored_lists-returns-in_default
same_stored_lists-returns-in_default t c =
    let k = dtype_meaning c.args.dtype.now in
    IfSome_then c.same_lists_anywhere.result c.same_lists_anywhere.ensures (λ same told.
    same_by_rows k c.args.a c.args.b c.in_ok-first.first c.in_ok-second.second same (c.in_ok-first.ensures.rows k)
    (c.in_ok-second.ensures.rows k) c.requires.same_len told)

pub same_stored_lists-returns-then-not-same_sizes : goal.same_stored_lists-returns-then-not-same_sizes
same_stored_lists-returns-then-not-same_sizes t c =
    let k = dtype_meaning c.args.dtype.now in
    let item = dtype_meaning c.items_of-items.result.now in
    let first = c.in_ok-first.ensures.lists item k c.items_of-items.ensures c.requires.first in
    let second = c.in_ok-second.ensures.lists item k c.items_of-items.ensures c.requires.second in (
      (λ f. absurd (cc)),
      (λ same. sym c.if-not-same_sizes.true ∙ c.same_sizes.ensures.1 (sizes_differ item k c.args.a c.args.b c.in_ok-first.first
          c.in_ok-second.second first second c.requires.same_len same)),
    )

pub same_stored_lists-same_rows-requires : goal.same_stored_lists-same_rows-requires
same_stored_lists-same_rows-requires t c =
    let k = dtype_meaning c.args.dtype.now in
    let item = dtype_meaning c.items_of-items.result.now in
    let x = c.in-Some.first_items in
    let y = c.in-Some.second_items in
    let first = c.in_ok-first.ensures.lists item k c.items_of-items.ensures c.requires.first in
    let second = c.in_ok-second.ensures.lists item k c.items_of-items.ensures c.requires.second in
    let sizes = c.same_sizes.ensures.0 c.if-not-same_sizes.false in
    let less = item_depth item k c.items_of-items.ensures in (
      omega (arith, less, c.decreases),
      (
        subst (λ h. IsPart h x) first.kind c.in-Some.ensures.first.part,
        (
          subst (λ h. IsPart h y) second.kind c.in-Some.ensures.second.part,
          as_many_items item k c.args.a c.args.b x y c.in_ok-first.first c.in_ok-second.second first second
              c.in-Some.ensures.first c.in-Some.ensures.second sizes,
        ),
      ),
    )

pub same_stored_lists-returns : goal.same_stored_lists-returns
same_stored_lists-returns t c =
    let k = dtype_meaning c.args.dtype.now in
    let item = dtype_meaning c.items_of-items.result.now in
    let first = c.in_ok-first.ensures.lists item k c.items_of-items.ensures c.requires.first in
    let second = c.in_ok-second.ensures.lists item k c.items_of-items.ensures c.requires.second in
    same_joined item k c.args.a c.args.b c.in-Some.first_items c.in-Some.second_items c.in_ok-first.first
    c.in_ok-second.second c.same_rows.result first second c.in-Some.ensures.first c.in-Some.ensures.second
    (c.same_sizes.ensures.0 c.if-not-same_sizes.false) c.requires.same_len c.same_rows.ensures
