use Rattle.std.proofs.Common.{◌≡◌, length, map, ap, sym, subst, ◌∙◌, arith}
use denote.Param.Weighed.{at_most}
use Rattle.vx_tree.specs.declared.array.ArrayRef.TheDeep.{size-ArrayRef}
use Rattle.vx_base.specs.DTypes.{dtype_meaning}
use Rattle.vx_tree.specs.Tree.{depth, fixed_list, list_view, structure, view_array}
use Rattle.vx_tree.specs.Meaning.{kind_of, kinds_of, trees_from, nullable, is_texts}
use Rattle.vx_tree.specs.Parts.{tree_of, valid_of}
use Rattle.vx_tree.specs.Plain.{IsPlain}
use Rattle.vx_tree.specs.Formed.{WellFormed}
use Rattle.vx_canonical.specs.Joinable.{AreJoinable}
use Rattle.vx_canonical.specs.Joined.{elements_in, column_of}
use Rattle.vx_tree.proofs.Columns.{columns_below}
use Rattle.vx_canonical.proofs.JoinedRecords.{count_of_list}
use Rattle.vx_canonical.proofs.JoinedParts.{plain_at, joinable_at, joined_done, joined_next, columns_joined, kinds_joined, few_buffers, fixed_elements_joinable, list_elements_joinable, all_values, all_lists, all_records, columns_joinable, numbers_next}
use Rattle.vx_canonical.proofs.join.+join.Goals as goal

pub join_columns-columns_of-requires-clause-place : goal.join_columns-columns_of-requires-clause-place
join_columns-columns_of-requires-clause-place t c =
    let done = joined_done c.args.arrays.now c.args.columns.now c.loop-column.made.items c.loop-column.column-index c.loop-column-test.true c.loop-column.invariant.0 in
    λ k d l. let room = c.requires.places k d l in omega (arith, done, c.len.ensures, c.loop-column.made.ok.0, room, c.loop-column-test.true)

pub join_columns-join_like-requires : goal.join_columns-join_like-requires
join_columns-join_like-requires t c =
    let ps = c.args.columns.now in
    let i = c.loop-column.column-index in
    let p = c.column-item.result in
    let m = at_most size-ArrayRef ps i p c.loop-column-test.true in
    let d = ap size-ArrayRef c.column-item.is in
    let done = joined_done c.args.arrays.now ps c.loop-column.made.items i c.loop-column-test.true c.loop-column.invariant.0 in
    let place : c.len.result ≡ i = omega (arith, done, c.len.ensures, c.loop-column.made.ok.0) in (
      omega (arith, m, d, c.decreases),
      (
        subst IsPlain (sym c.column-item.is) (plain_at ps i p c.requires.plain c.loop-column-test.true),
        joinable_at ps c.args.arrays.now c.deref.result.now i c.len.result p c.requires.each c.loop-column-test.true c.column-item.is place (c.deref.ensures.value ∙ c.in_ok-list.ensures),
      ),
    )

pub join_columns-loop-column-preserved : goal.join_columns-loop-column-preserved
join_columns-loop-column-preserved t c =
    let ts = c.args.arrays.now in
    let ps = c.args.columns.now in
    let i = c.loop-column.column-index in
    let p = c.column-item.result in
    let long : c.len.result ≡ length c.loop-column.made.items = omega (arith, c.len.ensures, c.loop-column.made.ok.0) in
    let list : c.deref.result.now ≡ map (column_of c.len.result) ts = c.deref.ensures.value ∙ c.in_ok-list.ensures in (
      joined_next ts ps c.loop-column.made.items c.push.new.self.items i c.len.result p c.in_ok-join_like.field-0 c.loop-column.invariant.0 c.loop-column-test.true c.column-item.is long (rw list at c.in_ok-join_like.ensures.joined)
          c.in_ok-push.ensures.items,
      numbers_next ts c.loop-column.made.items c.push.new.self.items c.len.result c.in_ok-join_like.field-0 c.loop-column.invariant.1 long (rw list at c.in_ok-join_like.ensures.numbers) c.in_ok-push.ensures.items,
    )

pub join_columns-returns-clause-joined : goal.join_columns-returns-clause-joined
join_columns-returns-clause-joined t c =
    columns_joined c.args.arrays.now c.args.columns.now c.loop-column.made.items c.loop-column.column-index c.loop-column.invariant.0 c.loop-column-test.false

pub join_columns-returns-clause-kinds : goal.join_columns-returns-clause-kinds
join_columns-returns-clause-kinds t c =
    kinds_joined c.args.arrays.now c.args.columns.now c.loop-column.made.items c.loop-column.column-index c.loop-column.invariant.0 c.loop-column-test.false

pub join_like-join_views-requires-clause-values : goal.join_like-join_views-requires-clause-values
join_like-join_views-requires-clause-values t c =
    let parts = c.in-VarBinView in
    let v = valid_of parts.validity in
    let k = dtype_meaning parts.dtype in
    let same = sym c.layout.ensures.parts ∙ ap tree_of parts.is in
    let formed : WellFormed (view_array parts.views parts.buffers.items k v) = rw parts.is at c.layout.ensures.formed in
    let arrays : AreJoinable (kind_of (view_array parts.views parts.buffers.items k v)) c.args.arrays.now = rw same at c.requires.arrays in
    all_values k (is_texts k) (nullable v) c.args.arrays.now formed.1.kind arrays

pub join_like-join_views-requires-clause-few : goal.join_like-join_views-requires-clause-few
join_like-join_views-requires-clause-few t c =
    let parts = c.in-VarBinView in
    let v = valid_of parts.validity in
    let k = dtype_meaning parts.dtype in
    let same = sym c.layout.ensures.parts ∙ ap tree_of parts.is in
    let formed : WellFormed (view_array parts.views parts.buffers.items k v) = rw parts.is at c.layout.ensures.formed in
    let arrays : AreJoinable (kind_of (view_array parts.views parts.buffers.items k v)) c.args.arrays.now = rw same at c.requires.arrays in
    few_buffers k (is_texts k) (nullable v) c.args.arrays.now formed.1.kind arrays

pub join_fixed_like-join_like-requires : goal.join_fixed_like-join_like-requires
join_fixed_like-join_like-requires t c =
    let parts = c.in-FixedSizeList in
    let v = valid_of parts.validity in
    let same = sym c.layout.ensures.parts ∙ ap tree_of parts.is in
    let plain : IsPlain (fixed_list parts.elements parts.size v parts.len) = rw same at c.requires.plain in
    let arrays : AreJoinable (kind_of (fixed_list parts.elements parts.size v parts.len)) c.args.arrays.now = rw same at c.requires.arrays in
    let list : c.deref.result.now ≡ map elements_in c.args.arrays.now = c.deref.ensures.value ∙ c.in_ok-list.ensures in
    (omega (arith, ap depth same, c.decreases), (plain.0, rw list (fixed_elements_joinable (kind_of parts.elements) parts.size (nullable v) c.args.arrays.now arrays)))

pub join_lists_like-join_like-requires : goal.join_lists_like-join_like-requires
join_lists_like-join_like-requires t c =
    let parts = c.in-ListView in
    let v = valid_of parts.validity in
    let same = sym c.layout.ensures.parts ∙ ap tree_of parts.is in
    let plain : IsPlain (list_view parts.elements parts.offsets parts.sizes v parts.flag) = rw same at c.requires.plain in
    let arrays : AreJoinable (kind_of (list_view parts.elements parts.offsets parts.sizes v parts.flag)) c.args.arrays.now = rw same at c.requires.arrays in
    let list : c.deref.result.now ≡ map elements_in c.args.arrays.now = c.deref.ensures.value ∙ c.in_ok-list.ensures in
    (omega (arith, ap depth same, c.decreases), (plain.0, rw list (list_elements_joinable (kind_of parts.elements) (nullable v) c.args.arrays.now arrays)))

pub join_lists_like-join_list_views-requires-clause-lists :
    goal.join_lists_like-join_list_views-requires-clause-lists
join_lists_like-join_list_views-requires-clause-lists t c =
    let parts = c.in-ListView in
    let v = valid_of parts.validity in
    let same = sym c.layout.ensures.parts ∙ ap tree_of parts.is in
    let arrays : AreJoinable (kind_of (list_view parts.elements parts.offsets parts.sizes v parts.flag)) c.args.arrays.now = rw same at c.requires.arrays in
    all_lists (kind_of parts.elements) (nullable v) c.args.arrays.now arrays

pub join_structs_like-join_columns-requires : goal.join_structs_like-join_columns-requires
join_structs_like-join_columns-requires t c =
    let parts = c.in-Struct in
    let v = valid_of parts.validity in
    let ps = parts.columns.items in
    let same = sym c.layout.ensures.parts ∙ ap tree_of parts.is in
    let m = columns_below c.args.like.now parts.names ps c.deref.result.now v parts.len same c.deref.ensures.value in
    let formed : WellFormed (structure parts.names (trees_from ps) v parts.len) = rw parts.is at c.layout.ensures.formed in
    let plain : IsPlain (structure parts.names (trees_from ps) v parts.len) = rw same at c.requires.plain in
    let arrays : AreJoinable (kind_of (structure parts.names (trees_from ps) v parts.len)) c.args.arrays.now = rw same at c.requires.arrays in
    let all = all_records parts.names (kinds_of (trees_from ps)) (nullable v) c.args.arrays.now arrays in
    let long : length c.deref.result.now ≡ length ps = ap length c.deref.ensures.value in (
      omega (arith, m, c.decreases),
      (
        rw c.deref.ensures.value plain.0,
        (
          λ k d l. (all k d l).layout,
          (
            λ k d l. let count = (all k d l).count in omega (arith, count, formed.1.named, count_of_list ps, long),
            rw c.deref.ensures.value (columns_joinable parts.names ps (nullable v) c.args.arrays.now arrays),
          ),
        ),
      ),
    )

pub join_structs_like-join_structs-requires-clause-columns :
    goal.join_structs_like-join_structs-requires-clause-columns
join_structs_like-join_structs-requires-clause-columns t c =
    let parts = c.in-Struct in
    let formed : WellFormed (structure parts.names (trees_from parts.columns.items) (valid_of parts.validity) parts.len) = rw parts.is at c.layout.ensures.formed in
    let named : length c.in_ok-names.names ≡ length parts.names = ap length c.in_ok-names.ensures in
    let long : length c.deref.result.now ≡ length parts.columns.items = ap length c.deref.ensures.value in
    let count : length c.deref.result.now ≡ length c.in_ok-names.names = omega (arith, named, long, formed.1.named, count_of_list parts.columns.items) in
    rw count at c.in_ok-joined.ensures.joined

-- ---- numbers

pub join_columns-returns-clause-numbers : goal.join_columns-returns-clause-numbers
join_columns-returns-clause-numbers t c = c.loop-column.invariant.1

pub join_fixed_like-returns-clause-numbers : goal.join_fixed_like-returns-clause-numbers
join_fixed_like-returns-clause-numbers t c =
    let list : c.deref.result.now ≡ map elements_in c.args.arrays.now = c.deref.ensures.value ∙ c.in_ok-list.ensures in
    c.in_ok-join_fixed_lists.ensures.numbers (rw list at c.in_ok-joined.ensures.numbers)

pub join_lists_like-returns-clause-numbers : goal.join_lists_like-returns-clause-numbers
join_lists_like-returns-clause-numbers t c =
    let list : c.deref.result.now ≡ map elements_in c.args.arrays.now = c.deref.ensures.value ∙ c.in_ok-list.ensures in
    c.in_ok-join_list_views.ensures.numbers (rw list at c.in_ok-joined.ensures.numbers)

pub join_structs_like-returns-clause-numbers : goal.join_structs_like-returns-clause-numbers
join_structs_like-returns-clause-numbers t c = c.in_ok-join_structs.ensures.numbers c.in_ok-joined.ensures.numbers

pub join_structs_like-join_structs-requires-clause-records :
    goal.join_structs_like-join_structs-requires-clause-records
join_structs_like-join_structs-requires-clause-records t c =
    let parts = c.in-Struct in
    let v = valid_of parts.validity in
    let ks = kinds_of (trees_from parts.columns.items) in
    let same = sym c.layout.ensures.parts ∙ ap tree_of parts.is in
    let arrays : AreJoinable (kind_of (structure parts.names (trees_from parts.columns.items) v parts.len)) c.args.arrays.now = rw same at c.requires.arrays in
    rw c.in_ok-names.ensures (all_records parts.names ks (nullable v) c.args.arrays.now arrays)
