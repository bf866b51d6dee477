use Rattle.std.proofs.Common.{rules, ◌<◌, ◌≡◌, ◌∙◌, ◌+◌, List, [], ℕ, map, length, sym, ap, subst, refl, IfOk, None, inl, inr, replicate, arith}
use Rattle.std.specs.Prelude.{is_some}
use Rattle.std.specs.List.{All, filter}
use Rattle.std.proofs.lemmas.List.Sums.{count_by-le-length, length-filter}
use Rattle.vx_base.specs.Codes.{kind_depth, kinds_depth}
use Rattle.vx_base.specs.DTypes.{dtype_meaning, dtype_meaning-Struct, field_kinds, field_names, is_nullable, kinds_of}
use Rattle.vx_base.specs.Kinds.{fixed_lists, records, is_nullable_kind}
use Rattle.vx_base.specs.Refusals.{IsMemoryOr, Refuses}
use Rattle.vx_base.specs.ValueRows.{option_row}
use Rattle.vx_base.proofs.ValueFits.{field_depth}
use Rattle.std.proofs.lemmas.Result.{err_from_is_err_and}
use Rattle.vx_tree.specs.Parts.{valid_of}
use Rattle.vx_tree.specs.Meaning.{is_texts}
use Rattle.vx_tree.specs.Formed.{value_kind}
use Rattle.vx_canonical.specs.Joined.{IsCountsOf}
use Rattle.vx_canonical.specs.PlainValues.{AreGathered, ArePlainValues, FitsIfThere}
use Rattle.vx_tree.specs.CanonicalFaults.{fields_fault, rows_fault}
use Rattle.vx_tree.specs.Faults.{take_overflow}
use Rattle.vx_tree.specs.Operations.{IsSelected}
use Rattle.vx_tree.proofs.Dictionaries.{memory_only}
use Rattle.vx_canonical.proofs.Gathered.{all_none, none_fault, gathered_fit, gathered_fault, gathered_made, gathered_countable}
use Rattle.vx_canonical.proofs.Kept.{rows_fault-none, values_uncounted}
use Rattle.vx_canonical.proofs.PlainParts.{list_rows_fit, lists_formed, lists_made, fixed_rows_fit, fixed_lists_formed, fixed_lists_made, record_fields_fit, field_values_fit, field_rows, ArePlainFields-next, records_formed, records_made, texts_fault, fields_fault-next}
use Rattle.vx_canonical.proofs.canonical_nested.+plain_values.Goals as goal

pub plain_fields-plain_values-requires : goal.plain_fields-plain_values-requires
plain_fields-plain_values-requires t c =
    let ds = c.args.dtypes.now in
    let i = c.loop-place.place in
    let d = c.index-dtypes-place.result in (
      omega (arith, field_depth ds i d c.loop-place-test.true c.index-dtypes-place.is, c.decreases),
      rw c.deref.ensures.value (field_values_fit ds i d c.args.values.now c.in_ok-rows.rows.items c.requires c.loop-place-test.true c.index-dtypes-place.is c.in_ok-rows.ensures),
    )

pub plain_fields-loop-place-preserved : goal.plain_fields-loop-place-preserved
plain_fields-loop-place-preserved t c =
    let ds = c.args.dtypes.now in
    let i = c.loop-place.place in
    let d = c.index-dtypes-place.result in
    let vs = c.args.values.now in
    let ws = c.in_ok-rows.rows.items in
    let column = c.in_ok-plain_values.field-0 in
    let made : ArePlainValues (dtype_meaning d) ws column = rw c.deref.ensures.value at c.in_ok-plain_values.ensures.made in
    let none : rows_fault (dtype_meaning d) (map option_row ws) ≡ None = rw c.deref.ensures.value at c.in_ok-plain_values.ensures.refuses in (
      ArePlainFields-next ds i d (map option_row vs) c.loop-place.columns.items c.push.new.self.items column c.loop-place.invariant.0 c.loop-place-test.true c.index-dtypes-place.is
          (field_rows d i vs ws column c.in_ok-rows.ensures made) c.in_ok-push.ensures.items,
      fields_fault-next ds i d (map option_row vs) (map option_row ws) (fields_fault (kinds_of ds) 0 (map option_row vs)) c.loop-place.invariant.1 c.loop-place-test.true c.index-dtypes-place.is c.in_ok-rows.ensures none,
    )

pub fixed_lists_by_item-plain_values-requires : goal.fixed_lists_by_item-plain_values-requires
fixed_lists_by_item-plain_values-requires t c =
    (omega (arith, c.decreases), rw c.deref.ensures.value (fixed_rows_fit (dtype_meaning c.args.items.now) c.args.size (is_nullable c.args.nullability) c.args.values.now c.in_ok-rows.rows.items c.in_ok-rows.ensures c.requires))

pub fixed_lists_by_item-fixed_size_list-requires : goal.fixed_lists_by_item-fixed_size_list-requires
fixed_lists_by_item-fixed_size_list-requires t c =
    let k = dtype_meaning c.args.items.now in
    let ws = c.in_ok-rows.rows.items in
    let made : ArePlainValues k ws c.in_ok-elements.elements = rw c.deref.ensures.value at c.in_ok-elements.ensures.made in
    fixed_lists_formed c.in_ok-elements.elements k c.args.size (length c.args.values.now) (is_nullable c.args.nullability) (valid_of c.in_ok-validity.validity) c.args.values.now ws c.in_ok-validity.ensures refl c.in_ok-rows.ensures c.requires made

pub fixed_lists_by_item-returns-clause-made : goal.fixed_lists_by_item-returns-clause-made
fixed_lists_by_item-returns-clause-made t c =
    let k = dtype_meaning c.args.items.now in
    let ws = c.in_ok-rows.rows.items in
    let made : ArePlainValues k ws c.in_ok-elements.elements = rw c.deref.ensures.value at c.in_ok-elements.ensures.made in
    fixed_lists_made c.in_ok-fixed_size_list.field-0 c.in_ok-elements.elements k c.args.size (length c.args.values.now) (is_nullable c.args.nullability) (valid_of c.in_ok-validity.validity) c.args.values.now ws
    c.in_ok-validity.ensures refl c.in_ok-rows.ensures c.requires made c.in_ok-fixed_size_list.ensures

pub plain_lists-plain_values-requires : goal.plain_lists-plain_values-requires
plain_lists-plain_values-requires t c =
    (omega (arith, c.decreases), rw c.deref.ensures.value (list_rows_fit (dtype_meaning c.args.items.now) (is_nullable c.args.nullability) c.args.values.now c.in_ok-rows.rows.items c.in_ok-rows.ensures.items c.requires))

pub plain_lists-list_view-requires : goal.plain_lists-list_view-requires
plain_lists-list_view-requires t c =
    let k = dtype_meaning c.args.items.now in
    let ws = c.in_ok-rows.rows.items in
    let made : ArePlainValues k ws c.in_ok-elements.elements = rw c.deref.ensures.value at c.in_ok-elements.ensures.made in
    let os = c.spread_lists.new.places.items in
    let ns = c.spread_lists.new.sizes.items in
    lists_formed c.in_ok-elements.elements c.in_ok-offsets.offsets c.in_ok-sizes-2.sizes k (is_nullable c.args.nullability) (valid_of c.in_ok-validity.validity) c.args.values.now ws os ns c.in_ok-validity.ensures c.in_ok-rows.ensures made
    (subst (λ (xs : List ℕ). IsCountsOf xs c.in_ok-offsets.offsets) c.deref-2.ensures.value c.in_ok-offsets.ensures)
    (subst (λ (xs : List ℕ). IsCountsOf xs c.in_ok-sizes-2.sizes) c.deref-3.ensures.value c.in_ok-sizes-2.ensures)

pub plain_lists-returns-clause-made : goal.plain_lists-returns-clause-made
plain_lists-returns-clause-made t c =
    let k = dtype_meaning c.args.items.now in
    let ws = c.in_ok-rows.rows.items in
    let made : ArePlainValues k ws c.in_ok-elements.elements = rw c.deref.ensures.value at c.in_ok-elements.ensures.made in
    let os = c.spread_lists.new.places.items in
    let ns = c.spread_lists.new.sizes.items in
    lists_made c.in_ok-list_view.field-0 c.in_ok-elements.elements c.in_ok-offsets.offsets c.in_ok-sizes-2.sizes k (is_nullable c.args.nullability) (valid_of c.in_ok-validity.validity) c.args.values.now ws os ns
    c.in_ok-validity.ensures c.in_ok-rows.ensures made
    (subst (λ (xs : List ℕ). IsCountsOf xs c.in_ok-offsets.offsets) c.deref-2.ensures.value c.in_ok-offsets.ensures)
    (subst (λ (xs : List ℕ). IsCountsOf xs c.in_ok-sizes-2.sizes) c.deref-3.ensures.value c.in_ok-sizes-2.ensures)
    c.in_ok-list_view.ensures

pub plain_records-plain_fields-requires : goal.plain_records-plain_fields-requires
plain_records-plain_fields-requires t c =
    let fs = c.args.fields.now in
    let ds = c.fields.result.now in
    let deep : kinds_depth (kinds_of ds) ≡ kinds_depth (field_kinds fs) = ap kinds_depth c.fields.ensures.kinds in (
      omega (arith, deep, c.decreases),
      record_fields_fit (field_names fs) ds (is_nullable c.args.nullability) c.args.values.now
          (subst (λ ks. All (FitsIfThere (records (field_names fs) ks (is_nullable c.args.nullability))) c.args.values.now) (sym c.fields.ensures.kinds) c.requires),
    )

pub plain_records-structure-requires-clause-columns : goal.plain_records-structure-requires-clause-columns
plain_records-structure-requires-clause-columns t c =
    let fs = c.args.fields.now in
    let ds = c.fields.result.now in
    rw (c.in_ok-names.ensures, c.names.ensures) ((records_formed (field_names fs) ds (is_nullable c.args.nullability) (valid_of c.in_ok-validity.validity) c.args.values.now c.in_ok-columns.columns.items (length c.args.values.now)
    c.in_ok-validity.ensures refl (sym c.fields.ensures.count) c.in_ok-columns.ensures.made).1)

pub plain_records-returns-clause-made : goal.plain_records-returns-clause-made
plain_records-returns-clause-made t c =
    let fs = c.args.fields.now in
    let ds = c.fields.result.now in
    let m = is_nullable c.args.nullability in
    let records_of = records_made c.in_ok-structure.field-0 (field_names fs) ds m (valid_of c.in_ok-validity.validity) c.args.values.now c.in_ok-columns.columns.items (length c.args.values.now)
    c.in_ok-validity.ensures refl c.in_ok-columns.ensures.made (rw (c.in_ok-names.ensures, c.names.ensures) at c.in_ok-structure.ensures) in
    subst (λ ks. ArePlainValues (records (field_names fs) ks m) c.args.values.now c.in_ok-structure.field-0) c.fields.ensures.kinds records_of

pub plain_values-plain_records-requires : goal.plain_values-plain_records-requires
plain_values-plain_records-requires t c =
    let fs = c.in-Struct.fields in
    let n = c.in-Struct.nullability in
    let kind : dtype_meaning c.args.dtype.now ≡ records (field_names fs) (field_kinds fs) (is_nullable n) = ap dtype_meaning c.in-Struct.is ∙ dtype_meaning-Struct fs n in
    let deep : kind_depth (dtype_meaning c.args.dtype.now) ≡ kinds_depth (field_kinds fs) + 1 = ap kind_depth kind in
    (omega (arith, deep, c.decreases), subst (λ k. All (FitsIfThere k) c.args.values.now) kind c.requires)

pub plain_values-returns-then-not-is_countable-clause-refuses : goal.plain_values-returns-then-not-is_countable-clause-refuses
plain_values-returns-then-not-is_countable-clause-refuses t c =
    inr (values_uncounted (dtype_meaning c.args.dtype.now) c.args.values.now c.requires (rw c.if-not-is_countable.true at c.is_countable.ensures))

pub plain_values-returns-else-not-is_countable-clause-refuses : goal.plain_values-returns-else-not-is_countable-clause-refuses
plain_values-returns-else-not-is_countable-clause-refuses t c =
    let parts = c.in-FixedSizeList in
    let kind : dtype_meaning c.args.dtype.now ≡ fixed_lists (dtype_meaning c.deref-in-FixedSizeList.result.now) parts.size (is_nullable parts.nullability) =
    ap dtype_meaning parts.is ∙ ap (λ d. fixed_lists (dtype_meaning d) parts.size (is_nullable parts.nullability)) (sym c.deref-in-FixedSizeList.ensures) in
    subst (λ k. Refuses c.plain_fixed_lists.result (rows_fault k (map option_row c.args.values.now))) (sym kind) c.plain_fixed_lists.ensures.refuses

pub plain_fixed_lists-returns-in_err-none-clause-refuses : goal.plain_fixed_lists-returns-in_err-none-clause-refuses
plain_fixed_lists-returns-in_err-none-clause-refuses t c =
    let k = fixed_lists (dtype_meaning c.args.items.now) c.args.size (is_nullable c.args.nullability) in
    let p = err_from_is_err_and c.from_residual.result c.from_residual.ensures.1 in
    rw (p.1, p.2) (inl (memory_only (rows_fault k []) c.in_err-none.field-0.0 (rows_fault-none k) c.in_err-none.ensures.refuses))

pub plain_fixed_lists-fixed_lists_by_item-requires-2 : goal.plain_fixed_lists-fixed_lists_by_item-requires-2
plain_fixed_lists-fixed_lists_by_item-requires-2 t c =
    let k = fixed_lists (dtype_meaning c.args.items.now) c.args.size (is_nullable c.args.nullability) in
    let vs = c.args.values.now in
    let ws = c.in_ok-gathered.gathered.items in
    let ps = c.gather_values.new.places.items in
    let x : AreGathered vs ws ps = c.in_ok-gathered.ensures in
    (omega (arith, c.decreases), rw c.deref.ensures.value (gathered_fit k vs ws ps x c.requires.fit))

pub plain_fixed_lists-returns-then-present-eq0-clause-made : goal.plain_fixed_lists-returns-then-present-eq0-clause-made
plain_fixed_lists-returns-then-present-eq0-clause-made t c =
    let k = fixed_lists (dtype_meaning c.args.items.now) c.args.size (is_nullable c.args.nullability) in
    let vs = c.args.values.now in
    let r = c.in_ok-missing_rows.field-0 in
    let none : length (filter is_some vs) ≡ 0 = omega (arith, c.count_present-present.ensures, c.if-present-eq0.true) in
    let made : ArePlainValues k (replicate (length vs) None) r = subst (λ j. ArePlainValues j (replicate (length vs) None) r) c.in_ok-none.ensures.made.kind c.in_ok-missing_rows.ensures in
    subst (λ us. ArePlainValues k us r) (sym (all_none vs none)) made

pub plain_fixed_lists-returns-then-present-eq0-clause-refuses : goal.plain_fixed_lists-returns-then-present-eq0-clause-refuses
plain_fixed_lists-returns-then-present-eq0-clause-refuses t c =
    let k = fixed_lists (dtype_meaning c.args.items.now) c.args.size (is_nullable c.args.nullability) in
    let vs = c.args.values.now in
    none_fault k vs c.requires.fit c.requires.countable (omega (arith, c.count_present-present.ensures, c.if-present-eq0.true))

pub plain_fixed_lists-returns-in_err-lists-clause-refuses : goal.plain_fixed_lists-returns-in_err-lists-clause-refuses
plain_fixed_lists-returns-in_err-lists-clause-refuses t c =
    let k = fixed_lists (dtype_meaning c.args.items.now) c.args.size (is_nullable c.args.nullability) in
    let vs = c.args.values.now in
    let ws = c.in_ok-gathered.gathered.items in
    let ps = c.gather_values.new.places.items in
    let x : AreGathered vs ws ps = c.in_ok-gathered.ensures in
    let fewer : length (filter is_some vs) < length vs = omega (arith, count_by-le-length is_some vs, length-filter is_some vs, c.count_present-present.ensures, c.if-present-values.false) in
    let e = c.in_err-lists.field-0.0 in
    let p = err_from_is_err_and c.from_residual-in_err-lists.result c.from_residual-in_err-lists.ensures.1 in
    let refused : IsMemoryOr (rows_fault k (map option_row ws)) e = rw c.deref.ensures.value at c.in_err-lists.ensures.refuses in
    rw (p.1, p.2) (subst (λ f. IsMemoryOr f e) (gathered_fault k vs ws ps x c.requires.fit fewer c.requires.countable) refused)

pub plain_fixed_lists-select_within-requires-clause-countable : goal.plain_fixed_lists-select_within-requires-clause-countable
plain_fixed_lists-select_within-requires-clause-countable t c =
    let k = fixed_lists (dtype_meaning c.args.items.now) c.args.size (is_nullable c.args.nullability) in
    let vs = c.args.values.now in
    let ws = c.in_ok-gathered.gathered.items in
    let ps = c.gather_values.new.places.items in
    let x : AreGathered vs ws ps = c.in_ok-gathered.ensures in
    let made : ArePlainValues k ws c.in_ok-lists.lists = rw c.deref.ensures.value at c.in_ok-lists.ensures.made in
    let at : c.at_positions.result ≡ ps = c.at_positions.ensures ∙ c.deref-2.ensures.value in
    subst (λ (qs : List ℕ). take_overflow c.in_ok-lists.lists (length qs) ≡ None) (sym at) (gathered_countable k vs ws ps c.in_ok-lists.lists x made c.known.ensures c.requires.countable)

pub plain_fixed_lists-returns-clause-made : goal.plain_fixed_lists-returns-clause-made
plain_fixed_lists-returns-clause-made t c =
    let k = fixed_lists (dtype_meaning c.args.items.now) c.args.size (is_nullable c.args.nullability) in
    let vs = c.args.values.now in
    let ws = c.in_ok-gathered.gathered.items in
    let ps = c.gather_values.new.places.items in
    let x : AreGathered vs ws ps = c.in_ok-gathered.ensures in
    let fewer : length (filter is_some vs) < length vs = omega (arith, count_by-le-length is_some vs, length-filter is_some vs, c.count_present-present.ensures, c.if-present-values.false) in
    let made : ArePlainValues k ws c.in_ok-lists.lists = rw c.deref.ensures.value at c.in_ok-lists.ensures.made in
    let at : c.at_positions.result ≡ ps = c.at_positions.ensures ∙ c.deref-2.ensures.value in
    let some : 0 < length (filter is_some vs) = omega (arith, c.count_present-present.ensures, c.if-present-eq0.false) in
    let taken : IsSelected c.in_ok-lists.lists ps c.in_ok-select_within.field-0 = subst (λ (qs : List ℕ). IsSelected c.in_ok-lists.lists qs c.in_ok-select_within.field-0) at c.in_ok-select_within.ensures in
    gathered_made k vs ws ps c.in_ok-lists.lists c.in_ok-select_within.field-0 x some fewer made taken

pub plain_fixed_lists-returns-clause-refuses : goal.plain_fixed_lists-returns-clause-refuses
plain_fixed_lists-returns-clause-refuses t c =
    let k = fixed_lists (dtype_meaning c.args.items.now) c.args.size (is_nullable c.args.nullability) in
    let vs = c.args.values.now in
    let ws = c.in_ok-gathered.gathered.items in
    let ps = c.gather_values.new.places.items in
    let x : AreGathered vs ws ps = c.in_ok-gathered.ensures in
    let fewer : length (filter is_some vs) < length vs = omega (arith, count_by-le-length is_some vs, length-filter is_some vs, c.count_present-present.ensures, c.if-present-values.false) in
    let none : rows_fault k (map option_row ws) ≡ None = rw c.deref.ensures.value at c.in_ok-lists.ensures.refuses in
    sym (gathered_fault k vs ws ps x c.requires.fit fewer c.requires.countable) ∙ none

pub plain_values-returns-in-Struct-clause-made : goal.plain_values-returns-in-Struct-clause-made
plain_values-returns-in-Struct-clause-made t c =
    let fs = c.in-Struct.fields in
    let n = c.in-Struct.nullability in
    let kind : dtype_meaning c.args.dtype.now ≡ records (field_names fs) (field_kinds fs) (is_nullable n) = ap dtype_meaning c.in-Struct.is ∙ dtype_meaning-Struct fs n in
    subst (λ k. IfOk c.plain_records.result (ArePlainValues k c.args.values.now)) (sym kind) c.plain_records.ensures.made

pub plain_values-returns-in-Struct-clause-refuses : goal.plain_values-returns-in-Struct-clause-refuses
plain_values-returns-in-Struct-clause-refuses t c =
    let fs = c.in-Struct.fields in
    let n = c.in-Struct.nullability in
    let kind : dtype_meaning c.args.dtype.now ≡ records (field_names fs) (field_kinds fs) (is_nullable n) = ap dtype_meaning c.in-Struct.is ∙ dtype_meaning-Struct fs n in
    subst (λ k. Refuses c.plain_records.result (rows_fault k (map option_row c.args.values.now))) (sym kind) c.plain_records.ensures.refuses

pub plain_values-returns-in-Utf8-clause-refuses : goal.plain_values-returns-in-Utf8-clause-refuses
plain_values-returns-in-Utf8-clause-refuses t c =
    let k = dtype_meaning c.args.dtype.now in
    let kind : k ≡ value_kind (is_texts k) (is_nullable_kind k) = search rules in
    subst (Refuses c.plain_texts.result) (texts_fault k c.args.values.now kind) c.plain_texts.ensures.refuses
