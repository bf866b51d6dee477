use Rattle.std.proofs.Common.{ℕ, List, ◌*◌, length, map, rules, ap, subst, sym, ◌∙◌, ◌≡◌, [], None, arith}
use Rattle.std.proofs.lemmas.List.{length-map}
use Rattle.vx_base.specs.Bits.{bool_at}
use Rattle.vx_base.specs.Integers.{byte_width, numbers, number_nth}
use Rattle.vx_base.specs.Kinds.{booleans, integers, lists, fixed_lists}
use denote.Param.Weighed.{at_most}
use Rattle.vx_tree.specs.declared.array.ArrayRef.TheDeep.{size-ArrayRef}
use Rattle.vx_tree.specs.Parts.{tree_of, valid_of}
use Rattle.vx_base.proofs.Refused.{Gives-weaker}
use Rattle.vx_tree.specs.Meaning.{tree_len, kind_of, nullable, trees_from}
use Rattle.vx_tree.specs.Formed.{ValidFits, WellFormed}
use Rattle.vx_tree.specs.Tree.{fixed_list, list_view, view_array, Tree, structure}
use Rattle.vx_tree.specs.Operations.{IsSelected, AreBelow}
use Rattle.vx_tree.proofs.Selected.{bools_selected, numbers_selected, lists_selected, ValidHasAll-from_fits}
use Rattle.vx_tree.proofs.Dictionaries.{dictionary_selected}
use Rattle.vx_base.proofs.SizedLists.{lists_long}
use Rattle.vx_tree.proofs.FixedLists.{lists_countable, elements_selected, fixed_lists_selected}
use Rattle.vx_base.specs.DTypes.{dtype_meaning}
use Rattle.vx_tree.proofs.ViewArrays.{selected_rows, rows_formed, views_selected}
use Rattle.vx_tree.specs.Faults.{take_overflow, columns_overflow}
use Rattle.vx_tree.proofs.Columns.{AreSelected-from_each, AllHave-at, AllHave-from_len, countable-at, AllZip-next, columns_below, struct_selected}
use Rattle.vx_tree.proofs.array.+select.Goals as goal

pub ArrayRef::select_list_view-returns : goal.ArrayRef::select_list_view-returns
ArrayRef::select_list_view-returns t c =
    let same = sym c.layout.ensures.parts ∙ ap tree_of c.in-ListView.is in
    Gives-weaker c.with_parts.result _ _
    (λ a e. lists_selected c.args.self.now a c.in-ListView.elements c.in-ListView.offsets c.in-ListView.sizes c.in_ok-offsets.offsets c.in-Ok.sizes
    (valid_of c.in-ListView.validity) (valid_of c.in-Ok-select_within.validity) c.in-ListView.flag c.args.selection.now same (rw c.in_ok-elements.ensures at e) c.in_ok-offsets.ensures c.in-Ok.ensures c.in-Ok-select_within.ensures)
    c.with_parts.ensures

pub ArrayRef::select_dictionary-returns-in-Ok : goal.ArrayRef::select_dictionary-returns-in-Ok
ArrayRef::select_dictionary-returns-in-Ok t c =
    let same = sym c.layout.ensures.parts ∙ ap tree_of c.in-Dict.is in
    Gives-weaker c.dictionary.result _ _
    (λ a e. dictionary_selected c.args.self.now a c.in-Dict.codes c.in-Dict.values c.in_ok-codes.codes c.in-Dict.flag c.args.selection.now same (rw c.in-Ok.ensures at e) c.in_ok-codes.ensures)
    c.dictionary.ensures

pub ArrayRef::select_list_view-select_within-requires-3 : goal.ArrayRef::select_list_view-select_within-requires-3
ArrayRef::select_list_view-select_within-requires-3 t c =
    let same = sym c.layout.ensures.parts ∙ ap tree_of c.in-ListView.is in
    let formed : WellFormed (list_view c.in-ListView.elements c.in-ListView.offsets c.in-ListView.sizes (valid_of c.in-ListView.validity) c.in-ListView.flag) = rw c.in-ListView.is at c.layout.ensures.formed in
    (search rules, ValidHasAll-from_fits (valid_of c.in-ListView.validity) (tree_len c.in-ListView.offsets) c.args.selection.now formed.0 (rw same at c.requires.within))

pub ArrayRef::select_fixed_lists-lists-requires-clause-countable : goal.ArrayRef::select_fixed_lists-lists-requires-clause-countable
ArrayRef::select_fixed_lists-lists-requires-clause-countable t c =
    let same = sym c.layout.ensures.parts ∙ ap tree_of c.in-FixedSizeList.is in
    (lists_countable c.args.self.now c.in-FixedSizeList.elements c.in-FixedSizeList.size c.in-FixedSizeList.len (length c.args.selection.now) (valid_of c.in-FixedSizeList.validity) same c.requires.countable).0

pub ArrayRef::select_fixed_lists-select_within-elements-requires :
    goal.ArrayRef::select_fixed_lists-select_within-elements-requires
ArrayRef::select_fixed_lists-select_within-elements-requires t c =
    let same = sym c.layout.ensures.parts ∙ ap tree_of c.in-FixedSizeList.is in
    let formed : WellFormed (fixed_list c.in-FixedSizeList.elements c.in-FixedSizeList.size (valid_of c.in-FixedSizeList.validity) c.in-FixedSizeList.len) = rw c.in-FixedSizeList.is at c.layout.ensures.formed in (
      search rules,
      elements_selected c.args.self.now c.in-FixedSizeList.elements c.in-FixedSizeList.size c.in-FixedSizeList.len (valid_of c.in-FixedSizeList.validity) c.args.selection.now c.in_ok-picked.picked
          same formed.1 c.in_ok-picked.ensures c.requires.within c.requires.countable,
    )

pub ArrayRef::select_fixed_lists-with_parts-requires-clause-formed :
    goal.ArrayRef::select_fixed_lists-with_parts-requires-clause-formed
ArrayRef::select_fixed_lists-with_parts-requires-clause-formed t c =
    rw c.len-len.ensures (c.in-Ok.ensures.fits, c.in_ok-elements.ensures.len ∙ ap length c.in_ok-picked.ensures ∙ lists_long c.in-FixedSizeList.size c.args.selection.now)

pub ArrayRef::select_fixed_lists-returns : goal.ArrayRef::select_fixed_lists-returns
ArrayRef::select_fixed_lists-returns t c =
    let same = sym c.layout.ensures.parts ∙ ap tree_of c.in-FixedSizeList.is in
    let S : List ℕ → Type 0 = λ qs. IsSelected c.in-FixedSizeList.elements qs c.in_ok-elements.elements in
    Gives-weaker c.with_parts.result _ _
    (λ a e. fixed_lists_selected c.args.self.now a c.in-FixedSizeList.elements c.in_ok-elements.elements c.in-FixedSizeList.size c.in-FixedSizeList.len (valid_of c.in-FixedSizeList.validity) (valid_of c.in-Ok.validity)
    c.args.selection.now same (rw c.len-len.ensures at e) (subst S c.in_ok-picked.ensures c.in_ok-elements.ensures) c.in-Ok.ensures)
    c.with_parts.ensures

pub ArrayRef::select_views-var_bin_view-requires : goal.ArrayRef::select_views-var_bin_view-requires
ArrayRef::select_views-var_bin_view-requires t c =
    let views = c.in-VarBinView.views in
    let buffers = c.in-VarBinView.buffers.items in
    let k = dtype_meaning c.in-VarBinView.dtype in
    let v = valid_of c.in-VarBinView.validity in
    let w = valid_of c.in-Ok-select_within.validity in
    let ps = c.args.selection.now in
    let same = sym c.layout.ensures.parts ∙ ap tree_of c.in-VarBinView.is in
    let shared : c.in-Ok.buffers.items ≡ buffers = c.in-Ok.ensures ∙ c.deref.ensures.value in
    let kind : dtype_meaning c.in-Ok-try_clone.dtype ≡ k = c.in-Ok-try_clone.ensures in
    let rows = selected_rows views c.in_ok-views.views v w ps (rw c.as_slice.ensures at (c.in_ok-views.ensures [])) (rw same at c.requires.within) c.in-Ok-select_within.ensures in
    let formed : WellFormed (view_array views buffers k v) = rw c.in-VarBinView.is at c.layout.ensures.formed in
    rw (shared, kind) (rows_formed views buffers c.in_ok-views.views k v w _ _ rows formed)

pub ArrayRef::select_views-returns-in-Ok-select_within : goal.ArrayRef::select_views-returns-in-Ok-select_within
ArrayRef::select_views-returns-in-Ok-select_within t c =
    let views = c.in-VarBinView.views in
    let buffers = c.in-VarBinView.buffers.items in
    let k = dtype_meaning c.in-VarBinView.dtype in
    let v = valid_of c.in-VarBinView.validity in
    let w = valid_of c.in-Ok-select_within.validity in
    let ps = c.args.selection.now in
    let same = sym c.layout.ensures.parts ∙ ap tree_of c.in-VarBinView.is in
    let shared : c.in-Ok.buffers.items ≡ buffers = c.in-Ok.ensures ∙ c.deref.ensures.value in
    let kind : dtype_meaning c.in-Ok-try_clone.dtype ≡ k = c.in-Ok-try_clone.ensures in
    let rows = selected_rows views c.in_ok-views.views v w ps (rw c.as_slice.ensures at (c.in_ok-views.ensures [])) (rw same at c.requires.within) c.in-Ok-select_within.ensures in
    Gives-weaker c.var_bin_view.result _ _ (λ a e. views_selected c.args.self.now a views buffers c.in_ok-views.views k v w ps same (rw (shared, kind) at e) rows c.in-Ok-select_within.ensures) c.var_bin_view.ensures

pub ArrayRef::select_struct-select_columns-requires : goal.ArrayRef::select_struct-select_columns-requires
ArrayRef::select_struct-select_columns-requires t c =
    let same = sym c.layout.ensures.parts ∙ ap tree_of c.in-Struct.is in
    let ts = trees_from c.in-Struct.columns.items in
    let m = columns_below c.args.self.now c.in-Struct.names c.in-Struct.columns.items c.deref.result.now (valid_of c.in-Struct.validity) c.in-Struct.len same c.deref.ensures.value in
    let formed : WellFormed (structure c.in-Struct.names ts (valid_of c.in-Struct.validity) c.in-Struct.len) = rw c.in-Struct.is at c.layout.ensures.formed in
    let countable : columns_overflow ts (length c.args.selection.now) ≡ None = rw same at c.requires.countable in
    (omega (arith, m, c.decreases), (rw c.deref.ensures.value (AllHave-from_len c.in-Struct.len c.args.selection.now ts formed.1.lens (rw same at c.requires.within)), rw c.deref.ensures.value countable))

pub ArrayRef::select_columns-select_within-requires : goal.ArrayRef::select_columns-select_within-requires
ArrayRef::select_columns-select_within-requires t c =
    let m = at_most size-ArrayRef c.args.columns.now c.loop-column.column-index c.column-item.result c.loop-column-test.true in
    let d = ap size-ArrayRef c.column-item.is in
    let P : Tree → Type 0 = λ x. AreBelow (tree_len x) c.args.selection.now × (take_overflow x (length c.args.selection.now) ≡ None) in (
      omega (arith, m, d, c.decreases),
      subst P (sym c.column-item.is) (
        AllHave-at c.args.selection.now c.args.columns.now c.loop-column.column-index c.column-item.result c.requires.within c.loop-column-test.true,
        countable-at (length c.args.selection.now) c.args.columns.now c.loop-column.column-index c.column-item.result c.requires.countable c.loop-column-test.true,
      ),
    )

pub ArrayRef::select_columns-loop-column-preserved : goal.ArrayRef::select_columns-loop-column-preserved
ArrayRef::select_columns-loop-column-preserved t c =
    let ps = c.args.selection.now in
    AllZip-next (λ x y. IsSelected x ps y) c.args.columns.now c.loop-column.selected.items c.push.new.self.items c.loop-column.column-index c.column-item.result c.in_ok-select_within.field-0
    c.loop-column.invariant c.loop-column-test.true c.column-item.is c.in_ok-select_within.ensures c.in_ok-push.ensures.items

pub ArrayRef::select_columns-returns : goal.ArrayRef::select_columns-returns
ArrayRef::select_columns-returns t c =
    AreSelected-from_each c.args.selection.now c.args.columns.now c.loop-column.selected.items c.loop-column.column-index c.loop-column.invariant c.loop-column-test.false

pub ArrayRef::select_struct-select_within-requires : goal.ArrayRef::select_struct-select_within-requires
ArrayRef::select_struct-select_within-requires t c =
    let same = sym c.layout.ensures.parts ∙ ap tree_of c.in-Struct.is in
    let formed : WellFormed (structure c.in-Struct.names (trees_from c.in-Struct.columns.items) (valid_of c.in-Struct.validity) c.in-Struct.len) = rw c.in-Struct.is at c.layout.ensures.formed in
    (search rules, ValidHasAll-from_fits (valid_of c.in-Struct.validity) c.in-Struct.len c.args.selection.now formed.0 (rw same at c.requires.within))

pub ArrayRef::select_struct-returns : goal.ArrayRef::select_struct-returns
ArrayRef::select_struct-returns t c =
    let same = sym c.layout.ensures.parts ∙ ap tree_of c.in-Struct.is in
    Gives-weaker c.with_parts.result _ _
    (λ a e. struct_selected c.args.self.now a c.in-Struct.names (trees_from c.in-Struct.columns.items) (trees_from c.in-Ok.columns.items) (valid_of c.in-Struct.validity) (valid_of c.in-Ok-select_within.validity) c.in-Struct.len c.args.selection.now
    same (rw (c.in_ok-names.ensures, c.len.ensures) at e) (rw c.deref.ensures.value at c.in-Ok.ensures) c.in-Ok-select_within.ensures)
    c.with_parts.ensures

pub ArrayRef::select_bools-with_parts-requires-clause-formed : goal.ArrayRef::select_bools-with_parts-requires-clause-formed
ArrayRef::select_bools-with_parts-requires-clause-formed t c =
    let ps = c.args.selection.now in
    let long : length c.in_ok-bits.bits.bits ≡ length ps = ap length c.in_ok-bits.ensures.bits ∙ length-map ps (bool_at c.in-Bool.bits.bits) in
    subst (ValidFits (valid_of c.in-Ok.validity)) (sym long) c.in-Ok.ensures.fits

pub ArrayRef::select_bools-with_parts-requires-clause-kind : goal.ArrayRef::select_bools-with_parts-requires-clause-kind
ArrayRef::select_bools-with_parts-requires-clause-kind t c =
    let same = sym c.layout.ensures.parts ∙ ap tree_of c.in-Bool.is in
    ap booleans c.in-Ok.ensures.kind ∙ sym (ap kind_of same)

pub ArrayRef::select_bools-returns-in-Ok : goal.ArrayRef::select_bools-returns-in-Ok
ArrayRef::select_bools-returns-in-Ok t c =
    let same = sym c.layout.ensures.parts ∙ ap tree_of c.in-Bool.is in
    Gives-weaker c.with_parts.result _ _
    (λ a e. bools_selected c.args.self.now a c.in-Bool.bits.offset c.in_ok-bits.bits.offset c.in-Bool.bits.bits c.in_ok-bits.bits.bits (valid_of c.in-Bool.validity) (valid_of c.in-Ok.validity) c.args.selection.now same e c.in_ok-bits.ensures.bits c.in-Ok.ensures)
    c.with_parts.ensures

pub ArrayRef::select_primitive-with_parts-requires-clause-formed : goal.ArrayRef::select_primitive-with_parts-requires-clause-formed
ArrayRef::select_primitive-with_parts-requires-clause-formed t c =
    let ps = c.args.selection.now in
    let p = c.in-Primitive.ptype in
    let new = c.in_ok-bytes.bytes in
    let made : numbers p new ≡ map (number_nth (numbers p c.in-Primitive.bytes)) ps = rw c.as_slice.ensures.value at c.in_ok-bytes.ensures.ok in
    let long : length (numbers p new) ≡ length ps = ap length made ∙ length-map ps (number_nth (numbers p c.in-Primitive.bytes)) in
    (subst (ValidFits (valid_of c.in-Ok.validity)) (sym long) c.in-Ok.ensures.fits, c.in_ok-bytes.ensures.len ∙ ap (λ (n : ℕ). n * byte_width p) (sym long))

pub ArrayRef::select_primitive-with_parts-requires-clause-kind : goal.ArrayRef::select_primitive-with_parts-requires-clause-kind
ArrayRef::select_primitive-with_parts-requires-clause-kind t c =
    let same = sym c.layout.ensures.parts ∙ ap tree_of c.in-Primitive.is in
    ap (integers c.in-Primitive.ptype) c.in-Ok.ensures.kind ∙ sym (ap kind_of same)

pub ArrayRef::select_primitive-returns : goal.ArrayRef::select_primitive-returns
ArrayRef::select_primitive-returns t c =
    let same = sym c.layout.ensures.parts ∙ ap tree_of c.in-Primitive.is in
    let p = c.in-Primitive.ptype in
    let made : numbers p c.in_ok-bytes.bytes ≡ map (number_nth (numbers p c.in-Primitive.bytes)) c.args.selection.now = rw c.as_slice.ensures.value at c.in_ok-bytes.ensures.ok in
    Gives-weaker c.with_parts.result _ _
    (λ a e. numbers_selected c.args.self.now a p c.in-Primitive.bytes c.in_ok-bytes.bytes (valid_of c.in-Primitive.validity) (valid_of c.in-Ok.validity) c.args.selection.now same e made c.in-Ok.ensures)
    c.with_parts.ensures

pub ArrayRef::select_list_view-with_parts-requires-clause-kind : goal.ArrayRef::select_list_view-with_parts-requires-clause-kind
ArrayRef::select_list_view-with_parts-requires-clause-kind t c =
    let same = sym c.layout.ensures.parts ∙ ap tree_of c.in-ListView.is in
    let w = valid_of c.in-Ok-select_within.validity in
    ap (λ (e : Tree). lists (kind_of e) (nullable w)) c.in_ok-elements.ensures ∙ ap (lists (kind_of c.in-ListView.elements)) c.in-Ok-select_within.ensures.kind ∙ sym (ap kind_of same)

pub ArrayRef::select_fixed_lists-with_parts-requires-clause-kind : goal.ArrayRef::select_fixed_lists-with_parts-requires-clause-kind
ArrayRef::select_fixed_lists-with_parts-requires-clause-kind t c =
    let same = sym c.layout.ensures.parts ∙ ap tree_of c.in-FixedSizeList.is in
    let size = c.in-FixedSizeList.size in
    ap (λ k. fixed_lists k size (nullable (valid_of c.in-Ok.validity))) c.in_ok-elements.ensures.kind ∙ ap (fixed_lists (kind_of c.in-FixedSizeList.elements) size) c.in-Ok.ensures.kind ∙ sym (ap kind_of same)
