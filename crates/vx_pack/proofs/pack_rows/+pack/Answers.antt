use Rattle.std.proofs.Common.{◌≡◌, ◌∙◌, ◌<◌, length, ap, subst, sym, refl, inr, arith}
use Rattle.std.specs.List.{flat_map}
use Rattle.std.specs.Result.{IfErr, IfOk}
use Rattle.std.proofs.lemmas.List.{length_push}
use Rattle.std.proofs.lemmas.Result.{MatchResult-weaker, err_from_is_err_and}
use Rattle.vx_base.proofs.StructKinds.{struct_kind}
use Rattle.vx_base.proofs.ValueFits.{field_depth}
use Rattle.vx_base.specs.Codes.{kind_depth, kinds_depth}
use Rattle.vx_base.specs.DTypes.{dtype_meaning, field_kinds, field_names}
use Rattle.vx_base.specs.Fields.{kind_count}
use Rattle.vx_base.specs.Kinds.{is_nullable_kind, records}
use Rattle.vx_tree.specs.Meaning.{trees_from}
use Rattle.vx_tree.specs.Parts.{valid_of}
use Rattle.vx_tree.specs.Tree.{structure}
use Rattle.vx_pack.specs.Packed.{ArePacked, IsPackRefused, IsPacked, items_or_blank}
use Rattle.vx_pack.specs.Pieces.{ArePieces, pieces_rows}
use Rattle.vx_pack.specs.Records.{kind_at}
use Rattle.vx_pack.proofs.FieldPieces.{ArePieces-fields, fields_are_even}
use Rattle.vx_pack.proofs.ListItems.{list_items-lists, lists_of_items}
use Rattle.vx_pack.proofs.JoinedPieces.{ArePieces-joined}
use Rattle.vx_pack.proofs.ListPieces.{ArePieces-elements}
use Rattle.vx_pack.proofs.PackedColumns.{all_packed, one_more_packed, packed_struct}
use Rattle.vx_pack.proofs.PackedSteps.{field_refused, field_told, list_parts, lists_items, lists_packed, lists_refused, lists_too_many}
use Rattle.vx_pack.proofs.PackedSteps.{parts_formed, records_packed, rows_counted, sized_formed, sized_packed, sized_refused}
use Rattle.vx_pack.proofs.PackedSteps.{sized_too_many, valid_fits}
use Rattle.vx_pack.proofs.SameParts.{dtype_at}
use Rattle.vx_pack.proofs.pack_rows.+pack.Goals as goal

-- ---- lists

pub pack_lists-check_same_lists-requires-clause-lists : goal.pack_lists-check_same_lists-requires-clause-lists
pack_lists-check_same_lists-requires-clause-lists t c =
    lists_of_items (dtype_meaning c.args.dtype.now) (dtype_meaning c.args.items.now) c.requires.kind.0 c.requires.kind.1

pub pack_lists-total_of_lists-requires-clause-lists : goal.pack_lists-total_of_lists-requires-clause-lists
pack_lists-total_of_lists-requires-clause-lists t c =
    lists_of_items (dtype_meaning c.args.dtype.now) (dtype_meaning c.args.items.now) c.requires.kind.0 c.requires.kind.1

pub pack_lists-of_lists-requires-clause-lists : goal.pack_lists-of_lists-requires-clause-lists
pack_lists-of_lists-requires-clause-lists t c =
    lists_of_items (dtype_meaning c.args.dtype.now) (dtype_meaning c.args.items.now) c.requires.kind.0 c.requires.kind.1

pub pack_lists-returns-in_err-check_same_lists-clause-err : goal.pack_lists-returns-in_err-check_same_lists-clause-err
pack_lists-returns-in_err-check_same_lists-clause-err t c =
    let k = dtype_meaning c.args.dtype.now in
    let item = dtype_meaning c.args.items.now in
    let rs = pieces_rows k c.args.pieces.now in
    let p = err_from_is_err_and c.from_residual.result c.from_residual.ensures.1 in
    let same = ap length (list_items-lists k item c.requires.kind.0 rs c.requires.kind.1) in
    rw (p.1, p.2) (inr (
      c.in_err-check_same_lists.ensures.0,
      lists_too_many k item c.requires.kind.0 rs c.requires.kind.1 (omega (arith, same, c.in_err-check_same_lists.ensures.1)),
    ))

pub pack_lists-returns-in_err-total-clause-err : goal.pack_lists-returns-in_err-total-clause-err
pack_lists-returns-in_err-total-clause-err t c =
    let k = dtype_meaning c.args.dtype.now in
    let item = dtype_meaning c.args.items.now in
    let rs = pieces_rows k c.args.pieces.now in
    let p = err_from_is_err_and c.from_residual-in_err-total.result c.from_residual-in_err-total.ensures.1 in
    let same = ap length (list_items-lists k item c.requires.kind.0 rs c.requires.kind.1) in
    rw (p.1, p.2) (inr (
      c.in_err-total.ensures.0,
      lists_too_many k item c.requires.kind.0 rs c.requires.kind.1 (omega (arith, same, c.in_err-total.ensures.1)),
    ))

pub pack_lists-pack_elements-requires : goal.pack_lists-pack_elements-requires
pack_lists-pack_elements-requires t c = (omega (arith, c.decreases), (c.requires.kind, (c.requires.pieces.each, sym c.in_ok-total.ensures.0)))

pub pack_lists-of_lists-requires-clause-total : goal.pack_lists-of_lists-requires-clause-total
pack_lists-of_lists-requires-clause-total t c = sym c.in_ok-total.ensures.0

pub pack_lists-of_lists-requires-clause-fits : goal.pack_lists-of_lists-requires-clause-fits
pack_lists-of_lists-requires-clause-fits t c = omega (arith, c.in_ok-total.ensures.1)

pub pack_lists-returns-in_err-elements-clause-err : goal.pack_lists-returns-in_err-elements-clause-err
pack_lists-returns-in_err-elements-clause-err t c =
    let k = dtype_meaning c.args.dtype.now in
    let item = dtype_meaning c.args.items.now in
    let rs = pieces_rows k c.args.pieces.now in
    let n = c.requires.kind.0 in
    let kind = c.requires.kind.1 in
    let e = c.in_err-elements.field-0.0 in
    let p = err_from_is_err_and c.from_residual-in_err-elements.result c.from_residual-in_err-elements.ensures.1 in
    let refused = subst (λ xs. IsPackRefused item xs e) (list_items-lists k item n rs kind) c.in_err-elements.ensures.err in
    rw (p.1, p.2) (lists_refused k item n rs e kind refused)

pub pack_lists-list_view-requires : goal.pack_lists-list_view-requires
pack_lists-list_view-requires t c =
    let k = dtype_meaning c.args.dtype.now in
    let item = dtype_meaning c.args.items.now in
    let rs = pieces_rows k c.args.pieces.now in
    let total = c.in_ok-total.total in
    let e = c.in_ok-elements.elements in
    let parts = list_parts k item c.requires.kind.0 rs total e c.in_ok-offsets.offsets c.in_ok-offsets.sizes c.requires.kind.1
    c.in_ok-total.ensures.0 (omega (arith, c.in_ok-total.ensures.1)) c.in_ok-elements.ensures.ok c.in_ok-offsets.ensures.0
    c.in_ok-offsets.ensures.1 in
    parts_formed k item rs total e c.in_ok-offsets.offsets c.in_ok-offsets.sizes (valid_of c.in_ok-validity.validity) parts
    c.in_ok-validity.ensures

pub pack_lists-returns-clause-ok : goal.pack_lists-returns-clause-ok
pack_lists-returns-clause-ok t c =
    let k = dtype_meaning c.args.dtype.now in
    let item = dtype_meaning c.args.items.now in
    let rs = pieces_rows k c.args.pieces.now in
    let total = c.in_ok-total.total in
    let e = c.in_ok-elements.elements in
    let parts = list_parts k item c.requires.kind.0 rs total e c.in_ok-offsets.offsets c.in_ok-offsets.sizes c.requires.kind.1
    c.in_ok-total.ensures.0 (omega (arith, c.in_ok-total.ensures.1)) c.in_ok-elements.ensures.ok c.in_ok-offsets.ensures.0
    c.in_ok-offsets.ensures.1 in
    MatchResult-weaker c.list_view.result c.list_view.ensures
    (λ a is. lists_packed k item c.requires.kind.0 rs total e c.in_ok-offsets.offsets c.in_ok-offsets.sizes
    (valid_of c.in_ok-validity.validity) a c.requires.kind.1 parts c.in_ok-validity.ensures is)
    (λ f m. tt)

-- ---- the elements of lists

pub pack_elements-pack_rows-requires : goal.pack_elements-pack_rows-requires
pack_elements-pack_rows-requires t c =
    let k = dtype_meaning c.args.dtype.now in
    let item = dtype_meaning c.args.items.now in
    let rs = pieces_rows k c.args.pieces.now in
    let n = c.requires.kind.0 in
    let kind = c.requires.kind.1 in
    let lists = c.in_ok-lists-in-List.ensures item (lists_items k item n kind) in
    let pieces = ArePieces-joined item (flat_map (items_or_blank item 0) rs) c.in_ok-lists-in-List.lists.items c.args.total lists
    (sym c.requires.total ∙ ap length (list_items-lists k item n rs kind)) (omega (arith, c.ranges.total.fits)) in (
      omega (arith, ap kind_depth kind, c.decreases),
      subst (λ qs. ArePieces item qs c.args.total) (sym c.deref.ensures.value) pieces,
    )

pub pack_elements-returns-in_ok-lists-in-List-clause-ok : goal.pack_elements-returns-in_ok-lists-in-List-clause-ok
pack_elements-returns-in_ok-lists-in-List-clause-ok t c =
    let k = dtype_meaning c.args.dtype.now in
    let item = dtype_meaning c.args.items.now in
    let rs = pieces_rows k c.args.pieces.now in
    let n = c.requires.kind.0 in
    let kind = c.requires.kind.1 in
    let lists = c.in_ok-lists-in-List.ensures item (lists_items k item n kind) in
    let same = ap (pieces_rows item) c.deref.ensures.value ∙ lists.rows ∙ sym (list_items-lists k item n rs kind) in
    subst (λ xs. IfOk c.pack_rows.result (IsPacked item xs)) same c.pack_rows.ensures.ok

pub pack_elements-returns-in_ok-lists-in-List-clause-err : goal.pack_elements-returns-in_ok-lists-in-List-clause-err
pack_elements-returns-in_ok-lists-in-List-clause-err t c =
    let k = dtype_meaning c.args.dtype.now in
    let item = dtype_meaning c.args.items.now in
    let rs = pieces_rows k c.args.pieces.now in
    let n = c.requires.kind.0 in
    let kind = c.requires.kind.1 in
    let lists = c.in_ok-lists-in-List.ensures item (lists_items k item n kind) in
    let same = ap (pieces_rows item) c.deref.ensures.value ∙ lists.rows ∙ sym (list_items-lists k item n rs kind) in
    subst (λ xs. IfErr c.pack_rows.result (IsPackRefused item xs)) same c.pack_rows.ensures.err

-- ---- lists of one size

pub pack_fixed_lists-returns-in_default-clause-err : goal.pack_fixed_lists-returns-in_default-clause-err
pack_fixed_lists-returns-in_default-clause-err t c =
    let k = dtype_meaning c.args.dtype.now in
    let item = dtype_meaning c.args.items.now in
    let rs = pieces_rows k c.args.pieces.now in
    let counted = rows_counted k c.args.pieces.now c.args.len c.requires.pieces in
    inr (
      refl,
      sized_too_many k item c.args.size c.requires.kind.0 rs c.args.len c.requires.kind.1 counted
          (omega (arith, c.in_default.ensures)),
    )

pub pack_fixed_lists-pack_rows-requires : goal.pack_fixed_lists-pack_rows-requires
pack_fixed_lists-pack_rows-requires t c =
    let item = dtype_meaning c.args.items.now in
    let ps = c.in_ok-lists.lists.items in
    let elements = c.in_ok-lists.ensures item c.requires.kind.0 c.requires.kind.1 in
    let pieces = subst (ArePieces item ps) (sym c.in-Some.ensures.1) (ArePieces-elements item _ _ ps elements c.in-Some.ensures.0) in (
      omega (arith, ap kind_depth c.requires.kind.1, c.decreases),
      subst (λ qs. ArePieces item qs c.in-Some.total)
          (sym c.deref.ensures.value) pieces,
    )

pub pack_fixed_lists-returns-in_err-elements-clause-err : goal.pack_fixed_lists-returns-in_err-elements-clause-err
pack_fixed_lists-returns-in_err-elements-clause-err t c =
    let k = dtype_meaning c.args.dtype.now in
    let item = dtype_meaning c.args.items.now in
    let rs = pieces_rows k c.args.pieces.now in
    let ps = c.in_ok-lists.lists.items in
    let elements = c.in_ok-lists.ensures item c.requires.kind.0 c.requires.kind.1 in
    let e = c.in_err-elements.field-0.0 in
    let p = err_from_is_err_and c.from_residual-in_err-elements.result c.from_residual-in_err-elements.ensures.1 in
    let refused = subst (λ qs. IsPackRefused item (pieces_rows item qs) e) c.deref.ensures.value c.in_err-elements.ensures.err in
    rw (p.1, p.2) (sized_refused k item c.args.size c.args.len c.requires.kind.0 rs ps e c.requires.kind.1 elements refused)

pub pack_fixed_lists-fixed_size_list-requires : goal.pack_fixed_lists-fixed_size_list-requires
pack_fixed_lists-fixed_size_list-requires t c =
    let k = dtype_meaning c.args.dtype.now in
    let item = dtype_meaning c.args.items.now in
    let rs = pieces_rows k c.args.pieces.now in
    let ps = c.in_ok-lists.lists.items in
    let counted = rows_counted k c.args.pieces.now c.args.len c.requires.pieces in
    let elements = c.in_ok-lists.ensures item c.requires.kind.0 c.requires.kind.1 in
    let e = c.in_ok-elements.elements in
    let packed = subst (λ qs. IsPacked item (pieces_rows item qs) e) c.deref.ensures.value c.in_ok-elements.ensures.ok in
    sized_formed k item c.args.size rs ps c.args.len e (valid_of c.in_ok-validity.validity) counted elements packed
    c.in_ok-validity.ensures

pub pack_fixed_lists-returns-clause-ok : goal.pack_fixed_lists-returns-clause-ok
pack_fixed_lists-returns-clause-ok t c =
    let k = dtype_meaning c.args.dtype.now in
    let item = dtype_meaning c.args.items.now in
    let rs = pieces_rows k c.args.pieces.now in
    let ps = c.in_ok-lists.lists.items in
    let counted = rows_counted k c.args.pieces.now c.args.len c.requires.pieces in
    let elements = c.in_ok-lists.ensures item c.requires.kind.0 c.requires.kind.1 in
    let e = c.in_ok-elements.elements in
    let packed = subst (λ qs. IsPacked item (pieces_rows item qs) e) c.deref.ensures.value c.in_ok-elements.ensures.ok in
    MatchResult-weaker c.fixed_size_list.result c.fixed_size_list.ensures
    (λ a is. sized_packed k item c.args.size c.requires.kind.0 rs ps c.args.len e (valid_of c.in_ok-validity.validity) a
    c.requires.kind.1 counted
    (omega (arith, c.in-Some.ensures)) elements packed c.in_ok-validity.ensures is)
    (λ f m. tt)

-- ---- records

pub pack_records-returns-in_err-columns-clause-err : goal.pack_records-returns-in_err-columns-clause-err
pack_records-returns-in_err-columns-clause-err t c =
    let n = c.requires.kind.0 in
    let kind = c.requires.kind.1 in
    let e = c.in_err-columns.field-0.0 in
    let pieces = subst (λ h. ArePieces h c.args.pieces.now c.args.len) kind c.requires.pieces in
    let p = err_from_is_err_and c.from_residual.result c.from_residual.ensures.1 in
    rw (p.1, p.2) (subst (λ h. IsPackRefused h (pieces_rows h c.args.pieces.now) e) (sym kind) (c.in_err-columns.ensures.err n pieces))

pub pack_records-structure-requires-clause-fits : goal.pack_records-structure-requires-clause-fits
pack_records-structure-requires-clause-fits t c =
    let k = dtype_meaning c.args.dtype.now in
    valid_fits k (pieces_rows k c.args.pieces.now) (valid_of c.in_ok-validity.validity) c.args.len c.in_ok-validity.ensures
    (rows_counted k c.args.pieces.now c.args.len c.requires.pieces)

pub pack_records-structure-requires-clause-columns : goal.pack_records-structure-requires-clause-columns
pack_records-structure-requires-clause-columns t c =
    let n = c.requires.kind.0 in
    let kind = c.requires.kind.1 in
    let ks = field_kinds c.args.fields.now in
    let whole = records (field_names c.args.fields.now) ks n in
    let pieces = subst (λ h. ArePieces h c.args.pieces.now c.args.len) kind c.requires.pieces in
    let named : length c.in_ok-names.names ≡ kind_count ks = ap length (c.in_ok-names.ensures ∙ c.names.ensures) ∙ sym
    (fields_are_even c.args.fields.now) in
    packed_struct c.in_ok-names.names ks (pieces_rows whole c.args.pieces.now) (trees_from c.in_ok-columns.columns.items) c.args.len named
    (rows_counted whole c.args.pieces.now c.args.len pieces) (c.in_ok-columns.ensures.ok n pieces)

pub pack_records-returns-clause-ok : goal.pack_records-returns-clause-ok
pack_records-returns-clause-ok t c =
    let k = dtype_meaning c.args.dtype.now in
    let n = c.requires.kind.0 in
    let kind = c.requires.kind.1 in
    let names = field_names c.args.fields.now in
    let ks = field_kinds c.args.fields.now in
    let us = trees_from c.in_ok-columns.columns.items in
    let v = valid_of c.in_ok-validity.validity in
    let pieces = subst (λ h. ArePieces h c.args.pieces.now c.args.len) kind c.requires.pieces in
    let packed = subst (λ h. ArePacked 0 ks (pieces_rows h c.args.pieces.now) us) (sym kind) (c.in_ok-columns.ensures.ok n pieces) in
    let named = ap (λ ns. structure ns us v c.args.len) (c.in_ok-names.ensures ∙ c.names.ensures) in
    MatchResult-weaker c.structure.result c.structure.ensures
    (λ a is. records_packed k names ks n (pieces_rows k c.args.pieces.now) us v c.args.len a kind
    (rows_counted k c.args.pieces.now c.args.len c.requires.pieces)
    packed c.in_ok-validity.ensures (is ∙ named))
    (λ f m. tt)

pub pack_rows-pack_records-requires : goal.pack_rows-pack_records-requires
pack_rows-pack_records-requires t c =
    let n = is_nullable_kind (dtype_meaning c.args.dtype.now) in
    (omega (arith, c.decreases), ((n, struct_kind c.args.dtype.now c.in-Struct.fields c.in-Struct.field-1 c.in-Struct.is), c.requires))

-- ---- fields

pub pack_columns-returns-in_err-pack_field-clause-err : goal.pack_columns-returns-in_err-pack_field-clause-err
pack_columns-returns-in_err-pack_field-clause-err t c =
    let names = field_names c.args.fields.now in
    let ks = field_kinds c.args.fields.now in
    let place = c.loop-place.place in
    let e = c.in_err-pack_field.field-0.0 in
    let inside : place < kind_count ks = omega (
      arith,
      c.loop-place-test.true,
      c.fields-place-end.ensures.count,
      fields_are_even
          c.args.fields.now,
    ) in
    let p = err_from_is_err_and c.from_residual.result c.from_residual.ensures.1 in
    rw (p.1, p.2) (λ n pieces. field_refused names ks n (pieces_rows (records names ks n) c.args.pieces.now) place e inside
    (c.in_err-pack_field.ensures.err n pieces))

pub pack_columns-loop-place-preserved : goal.pack_columns-loop-place-preserved
pack_columns-loop-place-preserved t c =
    let names = field_names c.args.fields.now in
    let ks = field_kinds c.args.fields.now in
    let ts = c.loop-place.columns.items in
    let a = c.in_ok-pack_field.field-0 in
    let pushed = c.in_ok-push.ensures.items in (
      omega (arith, ap length pushed, length_push ts a, c.loop-place.invariant.0),
      λ n pieces. one_more_packed ks (pieces_rows (records names ks n) c.args.pieces.now) ts c.push.new.self.items c.loop-place.place a
          c.loop-place.invariant.0 pushed (c.loop-place.invariant.1 n pieces) (c.in_ok-pack_field.ensures.ok n pieces),
    )

pub pack_columns-returns-clause-ok : goal.pack_columns-returns-clause-ok
pack_columns-returns-clause-ok t c =
    let names = field_names c.args.fields.now in
    let ks = field_kinds c.args.fields.now in
    let ts = c.loop-place.columns.items in
    let all : length ts ≡ kind_count ks = omega (
      arith,
      c.loop-place.invariant.0,
      c.loop-place-test.false,
      c.loop-place.auto.place-end,
      c.fields-place-end.ensures.count,
      fields_are_even c.args.fields.now,
    ) in
    λ n pieces. all_packed ks (pieces_rows (records names ks n) c.args.pieces.now) ts all (c.loop-place.invariant.1 n pieces)

pub pack_field-pack_rows-requires : goal.pack_field-pack_rows-requires
pack_field-pack_rows-requires t c =
    let ks = field_kinds c.args.fields.now in
    let whole = records (field_names c.args.fields.now) ks c.requires.pieces.0 in
    let place = c.args.place in
    let ds = c.fields.result.now in
    let d = c.index-fields-place.result in
    let inside : place < length ds = omega (arith, c.requires.place, c.fields.ensures.count) in
    let kind = dtype_at ds ks place d c.fields.ensures.kinds inside c.index-fields-place.is in
    let fields = c.in_ok-column.ensures c.requires.pieces.0 c.requires.pieces.1.each in
    let column = ArePieces-fields (kind_at place ks) whole place c.args.pieces.now c.in_ok-column.column.items c.args.len
    c.requires.pieces.1 fields in
    let depth = ap kinds_depth c.fields.ensures.kinds in (
      omega (arith, field_depth ds place d inside c.index-fields-place.is, depth, c.decreases),
      subst (λ k. ArePieces k c.deref.result.now c.args.len) kind (subst (λ qs. ArePieces (kind_at place ks) qs c.args.len)
          (sym c.deref.ensures.value) column),
    )

pub pack_field-returns-clause-ok : goal.pack_field-returns-clause-ok
pack_field-returns-clause-ok t c =
    let ks = field_kinds c.args.fields.now in
    let place = c.args.place in
    let d = c.index-fields-place.result in
    let inside : place < length c.fields.result.now = omega (arith, c.requires.place, c.fields.ensures.count) in
    let kind = dtype_at c.fields.result.now ks place d c.fields.ensures.kinds inside c.index-fields-place.is in
    λ n pieces. field_told (λ k rs. IfOk c.pack_rows.result (IsPacked k rs)) (kind_at place ks) (dtype_meaning d) place
    (pieces_rows (records (field_names c.args.fields.now) ks n) c.args.pieces.now) c.in_ok-column.column.items c.deref.result.now kind
    (c.in_ok-column.ensures n pieces.each) c.deref.ensures.value c.pack_rows.ensures.ok

pub pack_field-returns-clause-err : goal.pack_field-returns-clause-err
pack_field-returns-clause-err t c =
    let ks = field_kinds c.args.fields.now in
    let place = c.args.place in
    let d = c.index-fields-place.result in
    let inside : place < length c.fields.result.now = omega (arith, c.requires.place, c.fields.ensures.count) in
    let kind = dtype_at c.fields.result.now ks place d c.fields.ensures.kinds inside c.index-fields-place.is in
    λ n pieces. field_told (λ k rs. IfErr c.pack_rows.result (IsPackRefused k rs)) (kind_at place ks) (dtype_meaning d) place
    (pieces_rows (records (field_names c.args.fields.now) ks n) c.args.pieces.now) c.in_ok-column.column.items c.deref.result.now kind
    (c.in_ok-column.ensures n pieces.each) c.deref.ensures.value c.pack_rows.ensures.err
