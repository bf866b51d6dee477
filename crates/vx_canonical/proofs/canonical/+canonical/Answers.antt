use Rattle.std.proofs.Common.{ℕ, ◌≡◌, ◌<◌, List, length, true, false, None, ap, sym, subst, refl, rules, ◌∙◌, inr, arith}
use denote.Param.Weighed.{at_most}
use Rattle.vx_tree.specs.declared.array.ArrayRef.TheDeep.{size-ArrayRef}
use Rattle.std.proofs.lemmas.Result.{err_from_is_err_and}
use Rattle.vx_tree.specs.Parts.{tree_of, valid_of}
use Rattle.vx_tree.specs.Meaning.{tree_len, kind_of, kinds_of, trees_from}
use Rattle.vx_tree.specs.Formed.{WellFormed}
use Rattle.vx_tree.specs.Tree.{Tree, dictionary, fixed_list, list_view, structure}
use Rattle.vx_base.specs.Kinds.{is_nullable_kind, or_nullable}
use Rattle.vx_base.proofs.SizedLists.{lists_long}
use Rattle.vx_tree.specs.Named.{AreIndices}
use Rattle.vx_tree.specs.Operations.{AreBelow}
use Rattle.vx_canonical.specs.Canonical.{IsCanonical, IsCanonicalAt, IsCanonicalValid, IsCanonicalWithin, IsPickedWithin}
use Rattle.vx_tree.specs.CanonicalFaults.{plain_overflow, fields_overflow}
use Rattle.std.proofs.lemmas.Bool.{eqb-true}
use Rattle.vx_tree.proofs.Dictionaries.{not_empty}
use Rattle.vx_tree.proofs.Columns.{AllZip-next, AllZip-all, AllHave-at, AllHave-from_len, columns_below}
use Rattle.vx_canonical.proofs.CanonicalArrays.{fixed_lists_canonical, lists_canonical, AreCanonical-from_each, columns_fault-next, columns_fault-all, columns_refused}
use Rattle.vx_canonical.proofs.CanonicalWithin.{fixed_lists_within, lists_within, records_within, dictionary_within, fixed_lists_picked, lists_picked, records_picked, dictionary_picked, same_parts_picked, AreCanonicalWithin-from_each, ArePickedWithin-from_each}
use Rattle.vx_canonical.specs.LeafKinds.{is_leaf_kind}
use Rattle.vx_canonical.proofs.FewValues.{plain_leaf, plain_leaf_picked, plain_picked}
use Rattle.vx_canonical.proofs.CanonicalDictionaries.{dictionary_canonical, dictionary_unflagged, named_at}
use Rattle.vx_canonical.proofs.CanonicalAt.{AreCanonicalAt-from_each, dictionary_at, elements_at, fixed_lists_at, lists_at}
use Rattle.vx_canonical.proofs.CanonicalFaults.{dictionary_uncounted, dictionary_fault-counted}
use Rattle.vx_tree.proofs.Taken.{positions_below}
use Rattle.vx_canonical.proofs.PlainKinds.{columns_countable, plain_overflow-or_nullable}
use Rattle.vx_canonical.proofs.canonical.+canonical.Goals as goal

pub canonical_fixed_lists-returns-clause-ok : goal.canonical_fixed_lists-returns-clause-ok
canonical_fixed_lists-returns-clause-ok t c =
    let parts = c.in-FixedSizeList in
    let same = sym c.layout.ensures.parts ∙ ap tree_of parts.is in
    let formed : WellFormed (fixed_list parts.elements parts.size (valid_of parts.validity) parts.len) = rw parts.is at c.layout.ensures.formed in
    fixed_lists_canonical c.args.array.now c.in_ok-lists.lists parts.elements c.in_ok-elements.elements parts.size parts.len (valid_of parts.validity) (valid_of c.in_ok-validity.validity)
    same c.in_ok-lists.ensures formed.1 c.in_ok-elements.ensures.ok c.in_ok-validity.ensures

pub canonical_list_view-returns-clause-ok : goal.canonical_list_view-returns-clause-ok
canonical_list_view-returns-clause-ok t c =
    let parts = c.in-ListView in
    let same = sym c.layout.ensures.parts ∙ ap tree_of parts.is in
    let formed : WellFormed (list_view parts.elements parts.offsets parts.sizes (valid_of parts.validity) parts.flag) = rw parts.is at c.layout.ensures.formed in
    let valid : IsCanonicalValid (valid_of parts.validity) (tree_len parts.offsets) (valid_of c.in_ok-validity.validity) = rw c.len.ensures at c.in_ok-validity.ensures in
    lists_canonical c.args.array.now c.in_ok-lists.lists parts.elements parts.offsets parts.sizes c.in_ok-elements.elements c.in_ok-offsets.offsets c.in_ok-sizes.sizes (valid_of parts.validity) (valid_of c.in_ok-validity.validity) parts.flag
    same c.in_ok-lists.ensures formed.1 c.in_ok-elements.ensures.ok c.in_ok-offsets.ensures.ok c.in_ok-sizes.ensures.ok valid

pub canonical_dictionary-returns-clause-ok : goal.canonical_dictionary-returns-clause-ok
canonical_dictionary-returns-clause-ok t c =
    let parts = c.in-Dict in
    let same = sym c.layout.ensures.parts ∙ ap tree_of parts.is in
    dictionary_unflagged c.args.array.now c.in_ok-named.named parts.codes parts.values parts.flag same c.in_ok-named.ensures.ok

pub canonical_struct-canonical_columns-requires : goal.canonical_struct-canonical_columns-requires
canonical_struct-canonical_columns-requires t c =
    let parts = c.in-Struct in
    let same = sym c.layout.ensures.parts ∙ ap tree_of parts.is in
    let m = columns_below c.args.array.now parts.names parts.columns.items c.deref.result.now (valid_of parts.validity) parts.len same c.deref.ensures.value in
    let formed : WellFormed (structure parts.names (trees_from parts.columns.items) (valid_of parts.validity) parts.len) = rw parts.is at c.layout.ensures.formed in
    (omega (arith, m, c.decreases), rw c.deref.ensures.value formed.1.lens)

pub canonical_columns-returns-in_err-canonical-clause-refuses :
    goal.canonical_columns-returns-in_err-canonical-clause-refuses
canonical_columns-returns-in_err-canonical-clause-refuses t c =
    let p = err_from_is_err_and c.from_residual-in_err-canonical.result c.from_residual-in_err-canonical.ensures.1 in
    rw (p.1, p.2) (columns_refused c.args.columns.now c.loop-column.column-index c.column-item.result c.in_err-canonical.field-0.0 c.loop-column.invariant.1 c.loop-column-test.true c.column-item.is c.in_err-canonical.ensures.refuses)

pub canonical_columns-loop-column-preserved : goal.canonical_columns-loop-column-preserved
canonical_columns-loop-column-preserved t c = (
  AllZip-next IsCanonical c.args.columns.now c.loop-column.made.items c.push.new.self.items c.loop-column.column-index c.column-item.result c.in_ok-canonical.field-0
      c.loop-column.invariant.0 c.loop-column-test.true c.column-item.is c.in_ok-canonical.ensures.ok c.in_ok-push.ensures.items,
  columns_fault-next c.args.columns.now c.loop-column.column-index c.column-item.result c.loop-column.invariant.1 c.loop-column-test.true c.column-item.is c.in_ok-canonical.ensures.refuses,
  AllZip-next IsCanonicalWithin c.args.columns.now c.loop-column.made.items c.push.new.self.items c.loop-column.column-index c.column-item.result c.in_ok-canonical.field-0
      c.loop-column.invariant.2 c.loop-column-test.true c.column-item.is c.in_ok-canonical.ensures.within c.in_ok-push.ensures.items,
)

pub canonical_columns-returns-clause-ok : goal.canonical_columns-returns-clause-ok
canonical_columns-returns-clause-ok t c =
    AreCanonical-from_each c.args.len c.args.columns.now c.loop-column.made.items c.loop-column.column-index c.requires c.loop-column.invariant.0 c.loop-column-test.false

pub canonical_columns-returns-clause-refuses : goal.canonical_columns-returns-clause-refuses
canonical_columns-returns-clause-refuses t c =
    columns_fault-all c.args.columns.now c.loop-column.column-index c.loop-column.invariant.1 c.loop-column-test.false

pub canonical_struct_at-canonical_columns_at-requires : goal.canonical_struct_at-canonical_columns_at-requires
canonical_struct_at-canonical_columns_at-requires t c =
    let parts = c.in-Struct in
    let ps = c.args.selection.now in
    let ts = trees_from parts.columns.items in
    let same = sym c.layout.ensures.parts ∙ ap tree_of parts.is in
    let m = columns_below c.args.array.now parts.names parts.columns.items c.deref.result.now (valid_of parts.validity) parts.len same c.deref.ensures.value in
    let formed : WellFormed (structure parts.names ts (valid_of parts.validity) parts.len) = rw parts.is at c.layout.ensures.formed in
    let few : fields_overflow (kinds_of ts) (length ps) ≡ None = rw same at c.requires.countable in
    (omega (arith, m, c.decreases), (rw c.deref.ensures.value (AllHave-from_len parts.len ps ts formed.1.lens (rw same at c.requires.within)), rw c.deref.ensures.value (columns_countable parts.columns.items (length ps) few)))

pub canonical_columns_at-canonical_at-requires : goal.canonical_columns_at-canonical_at-requires
canonical_columns_at-canonical_at-requires t c =
    let ps = c.args.selection.now in
    let m = at_most size-ArrayRef c.args.columns.now c.loop-column.column-index c.column-item.result c.loop-column-test.true in
    let d = ap size-ArrayRef c.column-item.is in
    let P : Tree → Type 0 = λ x. AreBelow (tree_len x) ps × (plain_overflow (kind_of x) (length ps) ≡ None) in (
      omega (arith, m, d, c.decreases),
      subst P (sym c.column-item.is) (
        AllHave-at ps c.args.columns.now c.loop-column.column-index c.column-item.result c.requires.within c.loop-column-test.true,
        c.requires.countable c.loop-column.column-index c.column-item.result c.loop-column-test.true,
      ),
    )

pub canonical_columns_at-returns-in_err-canonical_at-clause-refuses :
    goal.canonical_columns_at-returns-in_err-canonical_at-clause-refuses
canonical_columns_at-returns-in_err-canonical_at-clause-refuses t c =
    let p = err_from_is_err_and c.from_residual-in_err-canonical_at.result c.from_residual-in_err-canonical_at.ensures.1 in
    rw (p.1, p.2) (columns_refused c.args.columns.now c.loop-column.column-index c.column-item.result c.in_err-canonical_at.field-0.0 c.loop-column.invariant.1 c.loop-column-test.true c.column-item.is c.in_err-canonical_at.ensures.refuses)

pub canonical_columns_at-loop-column-preserved : goal.canonical_columns_at-loop-column-preserved
canonical_columns_at-loop-column-preserved t c = (
  AllZip-next (λ x y. IsCanonicalAt x c.args.selection.now y) c.args.columns.now c.loop-column.made.items c.push.new.self.items c.loop-column.column-index c.column-item.result c.in_ok-canonical_at.field-0
      c.loop-column.invariant.0 c.loop-column-test.true c.column-item.is c.in_ok-canonical_at.ensures.ok c.in_ok-push.ensures.items,
  columns_fault-next c.args.columns.now c.loop-column.column-index c.column-item.result c.loop-column.invariant.1 c.loop-column-test.true c.column-item.is c.in_ok-canonical_at.ensures.refuses,
  AllZip-next IsPickedWithin c.args.columns.now c.loop-column.made.items c.push.new.self.items c.loop-column.column-index c.column-item.result c.in_ok-canonical_at.field-0
      c.loop-column.invariant.2 c.loop-column-test.true c.column-item.is c.in_ok-canonical_at.ensures.within c.in_ok-push.ensures.items,
)

pub canonical_columns_at-returns-clause-ok : goal.canonical_columns_at-returns-clause-ok
canonical_columns_at-returns-clause-ok t c =
    AreCanonicalAt-from_each c.args.selection.now c.args.columns.now c.loop-column.made.items c.loop-column.column-index c.loop-column.invariant.0 c.loop-column-test.false

pub canonical_columns_at-returns-clause-refuses : goal.canonical_columns_at-returns-clause-refuses
canonical_columns_at-returns-clause-refuses t c =
    columns_fault-all c.args.columns.now c.loop-column.column-index c.loop-column.invariant.1 c.loop-column-test.false

-- ---- dictionaries

pub canonical_dictionary_at-returns-then-not-is_countable-clause-refuses : goal.canonical_dictionary_at-returns-then-not-is_countable-clause-refuses
canonical_dictionary_at-returns-then-not-is_countable-clause-refuses t c =
    let parts = c.in-Dict in
    let same = sym c.layout.ensures.parts ∙ ap tree_of parts.is in
    inr (dictionary_uncounted c.args.array.now parts.codes parts.values parts.flag same (sym (λ i. plain_overflow (c.dtype.ensures i) (c.len.ensures i)) ∙ (rw c.if-not-is_countable.true at c.is_countable.ensures)))

pub canonical_dictionary_at-returns-clause-ok : goal.canonical_dictionary_at-returns-clause-ok
canonical_dictionary_at-returns-clause-ok t c =
    let parts = c.in-Dict in
    let same = sym c.layout.ensures.parts ∙ ap tree_of parts.is in
    dictionary_at c.args.array.now c.in_ok-named.named parts.codes c.in_ok-picked.picked parts.values parts.flag c.args.selection.now same c.in_ok-picked.ensures c.in_ok-named.ensures.ok

pub canonical_dictionary_at-returns-clause-refuses : goal.canonical_dictionary_at-returns-clause-refuses
canonical_dictionary_at-returns-clause-refuses t c =
    let parts = c.in-Dict in
    let d = c.in_ok-picked.picked in
    let k = kind_of parts.values in
    let n = length c.args.selection.now in
    let same = sym c.layout.ensures.parts ∙ ap tree_of parts.is in
    let all : plain_overflow k (tree_len parts.codes) ≡ None = sym (λ i. plain_overflow (c.dtype.ensures i) (c.len.ensures i)) ∙ (rw c.if-not-is_countable.false at c.is_countable.ensures) in
    let none : plain_overflow (or_nullable (is_nullable_kind (kind_of parts.codes)) k) n ≡ None = rw same at c.requires.countable in
    let some : plain_overflow k (tree_len d) ≡ None = ap (plain_overflow k) c.in_ok-picked.ensures.len ∙ sym (plain_overflow-or_nullable (is_nullable_kind (kind_of parts.codes)) k n) ∙ none in
    sym (dictionary_fault-counted c.args.array.now parts.codes d parts.values parts.flag same all some) ∙ c.in_ok-named.ensures.refuses

pub canonical_named-returns-then-not-is_countable-clause-refuses : goal.canonical_named-returns-then-not-is_countable-clause-refuses
canonical_named-returns-then-not-is_countable-clause-refuses t c =
    let v = c.args.values.now in
    let codes = c.args.codes.now in
    inr (dictionary_uncounted (dictionary codes v false) codes v false refl (sym (λ i. plain_overflow (c.dtype.ensures i) (c.len.ensures i)) ∙ (rw c.if-not-is_countable.true at c.is_countable.ensures)))

pub canonical_named-named_none-requires-clause-countable : goal.canonical_named-named_none-requires-clause-countable
canonical_named-named_none-requires-clause-countable t c =
    let codes = c.args.codes.now in
    let all : plain_overflow (kind_of c.args.values.now) (tree_len codes) ≡ None = sym (λ i. plain_overflow (c.dtype.ensures i) (c.len.ensures i)) ∙ (rw c.if-not-is_countable.false at c.is_countable.ensures) in
    ap (λ k. plain_overflow k (tree_len codes)) c.in_ok-values.ensures.ok.same.kind ∙ all

pub canonical_named-named_none-requires-clause-none : goal.canonical_named-named_none-requires-clause-none
canonical_named-named_none-requires-clause-none t c =
    c.in_ok-values.ensures.ok.same.len ∙ eqb-true (tree_len c.args.values.now) 0 (sym c.is_empty.ensures ∙ c.if-is_empty.true)

pub canonical_named-returns-then-is_empty-clause-ok : goal.canonical_named-returns-then-is_empty-clause-ok
canonical_named-returns-then-is_empty-clause-ok t c =
    let v = c.args.values.now in
    let codes = c.args.codes.now in
    dictionary_canonical (dictionary codes v false) c.in_ok-named_none.field-0 codes v c.in_ok-values.values false refl c.requires c.in_ok-values.ensures.ok c.in_ok-named_none.ensures

pub canonical_named-returns-then-is_empty-clause-within : goal.canonical_named-returns-then-is_empty-clause-within
canonical_named-returns-then-is_empty-clause-within t c = λ some.
    let none = eqb-true (tree_len c.args.values.now) 0 (sym c.is_empty.ensures ∙ c.if-is_empty.true) in
    absurd (omega (arith, some, none))

pub canonical_named-canonical_at-requires : goal.canonical_named-canonical_at-requires
canonical_named-canonical_at-requires t c =
    let v = c.args.values.now in
    let codes = c.args.codes.now in
    let ps = c.in_ok-positions.positions in
    let are : AreIndices codes (tree_len v) ps = rw c.len-3.ensures at c.in_ok-positions.ensures in
    let some : 0 < tree_len v = not_empty c.is_empty.result (tree_len v) c.is_empty.ensures c.if-is_empty.false in
    let all : plain_overflow (kind_of v) (tree_len codes) ≡ None = sym (λ i. plain_overflow (c.dtype.ensures i) (c.len.ensures i)) ∙ (rw c.if-not-is_countable.false at c.is_countable.ensures) in
    (search rules, rw c.selection-2.ensures (positions_below codes (tree_len v) ps are some, ap (plain_overflow (kind_of v)) are.len ∙ all))

pub canonical_named-returns-clause-ok : goal.canonical_named-returns-clause-ok
canonical_named-returns-clause-ok t c =
    let v = c.args.values.now in
    let codes = c.args.codes.now in
    let ps = c.in_ok-positions.positions in
    let are : AreIndices codes (tree_len v) ps = rw c.len-3.ensures at c.in_ok-positions.ensures in
    let made : IsCanonicalAt v ps c.in_ok-picked.picked = rw c.selection-2.ensures at c.in_ok-picked.ensures.ok in
    let valid : IsCanonicalValid (valid_of c.in_ok-validity.field-0) (tree_len codes) (valid_of c.in_ok-nulls.nulls) = rw c.len-2.ensures at c.in_ok-nulls.ensures in
    named_at codes v c.in_ok-picked.picked c.in_ok-nulled_parts-2.field-0 ps (valid_of c.in_ok-validity.field-0) (valid_of c.in_ok-nulls.nulls) c.in_ok-validity.ensures valid are made c.in_ok-nulled_parts-2.ensures.rows

pub canonical_named-returns-clause-within : goal.canonical_named-returns-clause-within
canonical_named-returns-clause-within t c = λ some.
    same_parts_picked c.args.values.now c.in_ok-picked.picked c.in_ok-nulled_parts-2.field-0 c.in_ok-picked.ensures.within c.in_ok-nulled_parts-2.ensures.parts

-- values that are made plain first
pub canonical_named-returns-then-is_leaf_type-clause-ok : goal.canonical_named-returns-then-is_leaf_type-clause-ok
canonical_named-returns-then-is_leaf_type-clause-ok t c =
    let v = c.args.values.now in
    let codes = c.args.codes.now in
    let ps = c.in_ok-positions.positions in
    let are : AreIndices codes (tree_len v) ps = rw c.len-3.ensures at c.in_ok-positions.ensures in
    let some : 0 < tree_len v = not_empty c.is_empty.result (tree_len v) c.is_empty.ensures c.if-is_empty.false in
    let few : IsCanonicalAt c.in_ok-plain.plain ps c.in_ok-few.few = rw c.selection.ensures at c.in_ok-few.ensures.rows in
    let made = plain_picked v c.in_ok-plain.plain c.in_ok-few.few ps (positions_below codes (tree_len v) ps are some) c.in_ok-plain.ensures.ok few in
    let valid : IsCanonicalValid (valid_of c.in_ok-validity.field-0) (tree_len codes) (valid_of c.in_ok-nulls.nulls) = rw c.len-2.ensures at c.in_ok-nulls.ensures in
    named_at codes v c.in_ok-few.few c.in_ok-nulled_parts.field-0 ps (valid_of c.in_ok-validity.field-0) (valid_of c.in_ok-nulls.nulls) c.in_ok-validity.ensures valid are made c.in_ok-nulled_parts.ensures.rows

pub canonical_named-returns-then-is_leaf_type-clause-within : goal.canonical_named-returns-then-is_leaf_type-clause-within
canonical_named-returns-then-is_leaf_type-clause-within t c = λ some.
    let v = c.args.values.now in
    let plain = c.in_ok-plain.plain in
    let kind : is_leaf_kind (kind_of plain) ≡ true =
    ap is_leaf_kind (c.in_ok-plain.ensures.ok.same.kind ∙ sym c.dtype-then-len.ensures) ∙ sym c.is_leaf_type.ensures ∙ c.if-is_leaf_type.true in
    same_parts_picked v c.in_ok-few.few c.in_ok-nulled_parts.field-0
    (plain_leaf_picked v plain c.in_ok-few.few (plain_leaf plain c.in_ok-plain.ensures.ok.plain kind) c.in_ok-plain.ensures.ok c.in_ok-plain.ensures.within c.in_ok-few.ensures.within)
    c.in_ok-nulled_parts.ensures.parts

-- ---- lists

pub canonical_fixed_lists_at-canonical_at-requires : goal.canonical_fixed_lists_at-canonical_at-requires
canonical_fixed_lists_at-canonical_at-requires t c =
    let parts = c.in-FixedSizeList in
    let v = valid_of parts.validity in
    let same = sym c.layout.ensures.parts ∙ ap tree_of parts.is in
    let formed : WellFormed (fixed_list parts.elements parts.size v parts.len) = rw parts.is at c.layout.ensures.formed in
    (search rules, elements_at c.args.array.now parts.elements parts.size parts.len v c.args.selection.now c.in_ok-picked.picked same formed.1 c.in_ok-picked.ensures c.requires.within c.requires.countable)

pub canonical_fixed_lists_at-fixed_size_list-requires : goal.canonical_fixed_lists_at-fixed_size_list-requires
canonical_fixed_lists_at-fixed_size_list-requires t c =
    (c.in_ok-plain.ensures.fits, rw c.len-len.ensures (c.in_ok-elements.ensures.ok.len ∙ ap length c.in_ok-picked.ensures ∙ lists_long c.in-FixedSizeList.size c.args.selection.now))

pub canonical_fixed_lists_at-returns-clause-ok : goal.canonical_fixed_lists_at-returns-clause-ok
canonical_fixed_lists_at-returns-clause-ok t c =
    let parts = c.in-FixedSizeList in
    let ps = c.args.selection.now in
    let v = valid_of parts.validity in
    let u = valid_of c.in_ok-validity.validity in
    let w = valid_of c.in_ok-plain.plain in
    let same = sym c.layout.ensures.parts ∙ ap tree_of parts.is in
    let S : List ℕ → Type 0 = λ qs. IsCanonicalAt parts.elements qs c.in_ok-elements.elements in
    let valid : IsCanonicalValid u (length ps) w = rw c.len-len.ensures at c.in_ok-plain.ensures in
    fixed_lists_at c.args.array.now c.in_ok-lists.lists parts.elements c.in_ok-elements.elements parts.size parts.len v u w ps same
    (rw c.len-len.ensures at c.in_ok-lists.ensures) (subst S c.in_ok-picked.ensures c.in_ok-elements.ensures.ok) c.in_ok-validity.ensures valid

pub canonical_list_view_at-returns-clause-ok : goal.canonical_list_view_at-returns-clause-ok
canonical_list_view_at-returns-clause-ok t c =
    let parts = c.in-ListView in
    let ps = c.args.selection.now in
    let v = valid_of parts.validity in
    let u = valid_of c.in_ok-validity.validity in
    let w = valid_of c.in_ok-plain.plain in
    let same = sym c.layout.ensures.parts ∙ ap tree_of parts.is in
    let formed : WellFormed (list_view parts.elements parts.offsets parts.sizes v parts.flag) = rw parts.is at c.layout.ensures.formed in
    let valid : IsCanonicalValid u (length ps) w = rw c.len.ensures at c.in_ok-plain.ensures in
    lists_at c.args.array.now c.in_ok-lists.lists parts.elements parts.offsets parts.sizes c.in_ok-elements.elements c.in_ok-offsets.offsets c.in_ok-sizes.sizes v u w parts.flag ps
    same c.in_ok-lists.ensures formed.1 c.requires.within c.in_ok-elements.ensures.ok c.in_ok-offsets.ensures.ok c.in_ok-sizes.ensures.ok c.in_ok-validity.ensures valid

-- ---- at every depth

pub canonical_dictionary-returns-clause-within : goal.canonical_dictionary-returns-clause-within
canonical_dictionary-returns-clause-within t c =
    let parts = c.in-Dict in
    let same = sym c.layout.ensures.parts ∙ ap tree_of parts.is in
    dictionary_within c.args.array.now c.in_ok-named.named parts.codes parts.values parts.flag same c.in_ok-named.ensures.within

pub canonical_dictionary_at-returns-clause-within : goal.canonical_dictionary_at-returns-clause-within
canonical_dictionary_at-returns-clause-within t c =
    let parts = c.in-Dict in
    let same = sym c.layout.ensures.parts ∙ ap tree_of parts.is in
    dictionary_picked c.args.array.now c.in_ok-named.named parts.codes c.in_ok-picked.picked parts.values parts.flag same c.in_ok-named.ensures.within

pub canonical_fixed_lists-returns-clause-within : goal.canonical_fixed_lists-returns-clause-within
canonical_fixed_lists-returns-clause-within t c =
    let parts = c.in-FixedSizeList in
    let same = sym c.layout.ensures.parts ∙ ap tree_of parts.is in
    fixed_lists_within c.args.array.now c.in_ok-lists.lists parts.elements c.in_ok-elements.elements parts.size parts.len (valid_of parts.validity) (valid_of c.in_ok-validity.validity)
    same c.in_ok-lists.ensures c.in_ok-elements.ensures.ok c.in_ok-elements.ensures.within

pub canonical_fixed_lists_at-returns-clause-within : goal.canonical_fixed_lists_at-returns-clause-within
canonical_fixed_lists_at-returns-clause-within t c =
    let parts = c.in-FixedSizeList in
    let same = sym c.layout.ensures.parts ∙ ap tree_of parts.is in
    fixed_lists_picked c.args.array.now c.in_ok-lists.lists parts.elements c.in_ok-elements.elements parts.size parts.len _ (valid_of parts.validity) (valid_of c.in_ok-plain.plain) c.in_ok-picked.picked
    same c.in_ok-lists.ensures c.in_ok-elements.ensures.ok c.in_ok-elements.ensures.within

pub canonical_list_view-returns-clause-within : goal.canonical_list_view-returns-clause-within
canonical_list_view-returns-clause-within t c =
    let parts = c.in-ListView in
    let same = sym c.layout.ensures.parts ∙ ap tree_of parts.is in
    lists_within c.args.array.now c.in_ok-lists.lists parts.elements parts.offsets parts.sizes c.in_ok-elements.elements c.in_ok-offsets.offsets c.in_ok-sizes.sizes (valid_of parts.validity) (valid_of c.in_ok-validity.validity) parts.flag
    same c.in_ok-lists.ensures c.in_ok-elements.ensures.ok c.in_ok-elements.ensures.within c.in_ok-offsets.ensures.ok c.in_ok-sizes.ensures.ok

pub canonical_list_view_at-returns-clause-within : goal.canonical_list_view_at-returns-clause-within
canonical_list_view_at-returns-clause-within t c =
    let parts = c.in-ListView in
    let same = sym c.layout.ensures.parts ∙ ap tree_of parts.is in
    lists_picked c.args.array.now c.in_ok-lists.lists parts.elements parts.offsets parts.sizes c.in_ok-elements.elements c.in_ok-offsets.offsets c.in_ok-sizes.sizes (valid_of parts.validity) (valid_of c.in_ok-plain.plain) parts.flag false
    same c.in_ok-lists.ensures c.in_ok-elements.ensures.ok c.in_ok-elements.ensures.within c.in_ok-offsets.ensures.ok.kind c.in_ok-sizes.ensures.ok.kind

pub canonical_struct-returns-clause-within : goal.canonical_struct-returns-clause-within
canonical_struct-returns-clause-within t c =
    let parts = c.in-Struct in
    let same = sym c.layout.ensures.parts ∙ ap tree_of parts.is in
    records_within c.args.array.now c.in_ok-records.records parts.names c.in_ok-names.names (trees_from parts.columns.items) (trees_from c.in_ok-columns.columns.items) (valid_of parts.validity) (valid_of c.in_ok-validity.validity) parts.len parts.len
    same c.in_ok-records.ensures (rw c.deref.ensures.value at c.in_ok-columns.ensures.within)

pub canonical_struct_at-returns-clause-within : goal.canonical_struct_at-returns-clause-within
canonical_struct_at-returns-clause-within t c =
    let parts = c.in-Struct in
    let same = sym c.layout.ensures.parts ∙ ap tree_of parts.is in
    records_picked c.args.array.now c.in_ok-records.records parts.names c.in_ok-names.names (trees_from parts.columns.items) (trees_from c.in_ok-columns.columns.items) (valid_of parts.validity) (valid_of c.in_ok-plain.plain) parts.len _
    same c.in_ok-records.ensures (rw c.deref.ensures.value at c.in_ok-columns.ensures.within)

pub canonical_columns-returns-clause-within : goal.canonical_columns-returns-clause-within
canonical_columns-returns-clause-within t c =
    let ts = c.args.columns.now in
    let us = c.loop-column.made.items in
    let i = c.loop-column.column-index in
    AreCanonicalWithin-from_each ts us (AllZip-all IsCanonical ts us i c.loop-column.invariant.0 c.loop-column-test.false) (AllZip-all IsCanonicalWithin ts us i c.loop-column.invariant.2 c.loop-column-test.false)

pub canonical_columns_at-returns-clause-within : goal.canonical_columns_at-returns-clause-within
canonical_columns_at-returns-clause-within t c =
    let ps = c.args.selection.now in
    let ts = c.args.columns.now in
    let us = c.loop-column.made.items in
    let i = c.loop-column.column-index in
    ArePickedWithin-from_each ps ts us (AllZip-all (λ x y. IsCanonicalAt x ps y) ts us i c.loop-column.invariant.0 c.loop-column-test.false) (AllZip-all IsPickedWithin ts us i c.loop-column.invariant.2 c.loop-column-test.false)
