use Rattle.std.proofs.Common.{ℕ, ◌-◌, ◌*◌, ◌≤◌, length, rules, ap, arith, subst, sym, ◌∙◌}
use denote.Param.Weighed.{at_most}
use Rattle.vx_tree.specs.declared.array.ArrayRef.TheDeep.{size-ArrayRef}
use Rattle.vx_tree.specs.Parts.{tree_of, valid_of}
use Rattle.vx_base.specs.Integers.{byte_width, numbers}
use Rattle.vx_base.specs.Kinds.{booleans, integers}
use Rattle.vx_tree.specs.Meaning.{tree_len, kind_of, trees_from}
use Rattle.vx_tree.specs.Formed.{ValidCovers-from_fits, ValidFits, WellFormed}
use Rattle.vx_tree.specs.Operations.{IsSlice}
use Rattle.vx_tree.specs.Tree.{Tree, list_view, structure}
use Rattle.vx_base.proofs.Refused.{Gives-weaker}
use Rattle.vx_tree.proofs.Dictionaries.{dictionary_sliced}
use Rattle.vx_tree.proofs.FixedLists.{fixed_lists_sliced}
use Rattle.vx_tree.proofs.Sliced.{bools_sliced, numbers_sliced, lists_sliced, length_sliced}
use Rattle.vx_tree.proofs.Columns.{AreSlices-from_each, struct_sliced, AllReach-at, AllReach-from_len, AllZip-next, columns_below}
use Rattle.vx_tree.proofs.array.+slice.Goals as goal

pub ArrayRef::slice_dictionary-returns-in-Ok : goal.ArrayRef::slice_dictionary-returns-in-Ok
ArrayRef::slice_dictionary-returns-in-Ok t c =
    let same = sym c.layout.ensures.parts ∙ ap tree_of c.in-Dict.is in
    Gives-weaker c.dictionary.result _ _
    (λ a e. dictionary_sliced c.args.self.now a c.in-Dict.codes c.in-Dict.values c.in_ok-codes.codes c.in-Dict.flag c.args.start (c.args.end - c.args.start) same (rw c.in-Ok.ensures at e) c.in_ok-codes.ensures)
    c.dictionary.ensures

pub ArrayRef::slice_list_view-slice_within-requires-3 : goal.ArrayRef::slice_list_view-slice_within-requires-3
ArrayRef::slice_list_view-slice_within-requires-3 t c =
    let same = sym c.layout.ensures.parts ∙ ap tree_of c.in-ListView.is in
    let formed : WellFormed (list_view c.in-ListView.elements c.in-ListView.offsets c.in-ListView.sizes (valid_of c.in-ListView.validity) c.in-ListView.flag) = rw c.in-ListView.is at c.layout.ensures.formed in
    (search rules, (c.requires.start_le_end, ValidCovers-from_fits (valid_of c.in-ListView.validity) (tree_len c.in-ListView.offsets) c.args.end formed.0 (rw same at c.requires.in_bounds)))

pub ArrayRef::slice_list_view-returns : goal.ArrayRef::slice_list_view-returns
ArrayRef::slice_list_view-returns t c =
    let same = sym c.layout.ensures.parts ∙ ap tree_of c.in-ListView.is in
    Gives-weaker c.with_parts.result _ _
    (λ a e. lists_sliced c.args.self.now a c.in-ListView.elements c.in-ListView.offsets c.in-ListView.sizes c.in_ok-offsets.offsets c.in-Ok.sizes
    (valid_of c.in-ListView.validity) (valid_of c.in-Ok-slice_within.validity) c.in-ListView.flag c.args.start (c.args.end - c.args.start) same (rw c.in_ok-elements.ensures at e) c.in_ok-offsets.ensures c.in-Ok.ensures c.in-Ok-slice_within.ensures)
    c.with_parts.ensures

pub ArrayRef::slice_fixed_lists-returns : goal.ArrayRef::slice_fixed_lists-returns
ArrayRef::slice_fixed_lists-returns t c =
    let same = sym c.layout.ensures.parts ∙ ap tree_of c.in-FixedSizeList.is in
    Gives-weaker c.with_parts.result _ _
    (λ a e. fixed_lists_sliced c.args.self.now a c.in-FixedSizeList.elements c.in_ok-elements.elements c.in-FixedSizeList.size c.in-FixedSizeList.len c.args.start c.args.end
    (valid_of c.in-FixedSizeList.validity) (valid_of c.in-Ok.validity) c.requires.start_le_end same e c.in_ok-elements.ensures c.in-Ok.ensures)
    c.with_parts.ensures

pub ArrayRef::slice_struct-slice_columns-requires : goal.ArrayRef::slice_struct-slice_columns-requires
ArrayRef::slice_struct-slice_columns-requires t c =
    let same = sym c.layout.ensures.parts ∙ ap tree_of c.in-Struct.is in
    let m = columns_below c.args.self.now c.in-Struct.names c.in-Struct.columns.items c.deref.result.now (valid_of c.in-Struct.validity) c.in-Struct.len same c.deref.ensures.value in
    let formed : WellFormed (structure c.in-Struct.names (trees_from c.in-Struct.columns.items) (valid_of c.in-Struct.validity) c.in-Struct.len) = rw c.in-Struct.is at c.layout.ensures.formed in
    (omega (arith, m, c.decreases), (c.requires.start_le_end, rw c.deref.ensures.value (AllReach-from_len c.in-Struct.len c.args.end (trees_from c.in-Struct.columns.items) formed.1.lens (rw same at c.requires.in_bounds))))

pub ArrayRef::slice_columns-slice_within-requires : goal.ArrayRef::slice_columns-slice_within-requires
ArrayRef::slice_columns-slice_within-requires t c =
    let m = at_most size-ArrayRef c.args.columns.now c.loop-column.column-index c.column-item.result c.loop-column-test.true in
    let d = ap size-ArrayRef c.column-item.is in
    let P : Tree → Type 0 = λ x. c.args.end ≤ tree_len x in
    (omega (arith, m, d, c.decreases), (c.requires.start_le_end, subst P (sym c.column-item.is) (AllReach-at c.args.end c.args.columns.now c.loop-column.column-index c.column-item.result c.requires.in_bounds c.loop-column-test.true)))

pub ArrayRef::slice_columns-loop-column-preserved : goal.ArrayRef::slice_columns-loop-column-preserved
ArrayRef::slice_columns-loop-column-preserved t c =
    let n = c.args.end - c.args.start in
    AllZip-next (λ x y. IsSlice x c.args.start n y) c.args.columns.now c.loop-column.sliced.items c.push.new.self.items c.loop-column.column-index c.column-item.result c.in_ok-slice_within.field-0
    c.loop-column.invariant c.loop-column-test.true c.column-item.is c.in_ok-slice_within.ensures c.in_ok-push.ensures.items

pub ArrayRef::slice_columns-returns : goal.ArrayRef::slice_columns-returns
ArrayRef::slice_columns-returns t c =
    AreSlices-from_each c.args.start (c.args.end - c.args.start) c.args.columns.now c.loop-column.sliced.items c.loop-column.column-index c.loop-column.invariant c.loop-column-test.false

pub ArrayRef::slice_struct-returns : goal.ArrayRef::slice_struct-returns
ArrayRef::slice_struct-returns t c =
    let same = sym c.layout.ensures.parts ∙ ap tree_of c.in-Struct.is in
    Gives-weaker c.with_parts.result _ _
    (λ a e. struct_sliced c.args.self.now a c.in-Struct.names (trees_from c.in-Struct.columns.items) (trees_from c.in-Ok.columns.items) (valid_of c.in-Struct.validity) (valid_of c.in-Ok-slice_within.validity) c.in-Struct.len c.args.start (c.args.end - c.args.start)
    same (rw c.in_ok-names.ensures at e) (rw c.deref.ensures.value at c.in-Ok.ensures) c.in-Ok-slice_within.ensures)
    c.with_parts.ensures

pub ArrayRef::slice_bools-with_parts-requires-clause-formed : goal.ArrayRef::slice_bools-with_parts-requires-clause-formed
ArrayRef::slice_bools-with_parts-requires-clause-formed t c =
    let same = sym c.layout.ensures.parts ∙ ap tree_of c.in-Bool.is in
    let long = ap length c.in_ok-bits.ensures.bits ∙ length_sliced c.in-Bool.bits.bits c.args.start c.args.end c.requires.start_le_end (rw same at c.requires.in_bounds) in
    subst (ValidFits (valid_of c.in-Ok.validity)) (sym long) c.in-Ok.ensures.fits

pub ArrayRef::slice_bools-with_parts-requires-clause-kind : goal.ArrayRef::slice_bools-with_parts-requires-clause-kind
ArrayRef::slice_bools-with_parts-requires-clause-kind t c =
    let same = sym c.layout.ensures.parts ∙ ap tree_of c.in-Bool.is in
    ap booleans c.in-Ok.ensures.kind ∙ sym (ap kind_of same)

pub ArrayRef::slice_bools-returns-in-Ok : goal.ArrayRef::slice_bools-returns-in-Ok
ArrayRef::slice_bools-returns-in-Ok t c =
    let same = sym c.layout.ensures.parts ∙ ap tree_of c.in-Bool.is in
    Gives-weaker c.with_parts.result _ _
    (λ a e. bools_sliced c.args.self.now a c.in-Bool.bits.offset c.in_ok-bits.bits.offset c.in-Bool.bits.bits c.in_ok-bits.bits.bits (valid_of c.in-Bool.validity) (valid_of c.in-Ok.validity) c.args.start c.args.end
    c.requires.start_le_end (rw same at c.requires.in_bounds) same e c.in_ok-bits.ensures.bits c.in-Ok.ensures)
    c.with_parts.ensures

pub ArrayRef::slice_primitive-with_parts-requires-clause-formed : goal.ArrayRef::slice_primitive-with_parts-requires-clause-formed
ArrayRef::slice_primitive-with_parts-requires-clause-formed t c =
    let same = sym c.layout.ensures.parts ∙ ap tree_of c.in-Primitive.is in
    let p = c.in-Primitive.ptype in
    let long = ap length c.in_ok-bytes.ensures.ok ∙ length_sliced (numbers p c.in-Primitive.bytes) c.args.start c.args.end c.requires.start_le_end (rw same at c.requires.in_bounds) in
    (subst (ValidFits (valid_of c.in-Ok.validity)) (sym long) c.in-Ok.ensures.fits, c.in_ok-bytes.ensures.len ∙ ap (λ (n : ℕ). n * byte_width p) (sym long))

pub ArrayRef::slice_primitive-with_parts-requires-clause-kind : goal.ArrayRef::slice_primitive-with_parts-requires-clause-kind
ArrayRef::slice_primitive-with_parts-requires-clause-kind t c =
    let same = sym c.layout.ensures.parts ∙ ap tree_of c.in-Primitive.is in
    ap (integers c.in-Primitive.ptype) c.in-Ok.ensures.kind ∙ sym (ap kind_of same)

pub ArrayRef::slice_primitive-returns : goal.ArrayRef::slice_primitive-returns
ArrayRef::slice_primitive-returns t c =
    let same = sym c.layout.ensures.parts ∙ ap tree_of c.in-Primitive.is in
    Gives-weaker c.with_parts.result _ _
    (λ a e. numbers_sliced c.args.self.now a c.in-Primitive.ptype c.in-Primitive.bytes c.in_ok-bytes.bytes (valid_of c.in-Primitive.validity) (valid_of c.in-Ok.validity) c.args.start c.args.end
    c.requires.start_le_end (rw same at c.requires.in_bounds) same e c.in_ok-bytes.ensures.ok c.in-Ok.ensures)
    c.with_parts.ensures
