use Rattle.std.proofs.Common.{sym, subst, ◌∙◌, ap}
use Rattle.vx_tree.specs.Parts.{valid_of}
use Rattle.vx_tree.specs.Tree.{primitive, non_nullable}
use Rattle.vx_lists.specs.ListViews.{IsRebuilt}
use Rattle.vx_lists.proofs.ListViews.Plans.{planned_sizes_read, planned_starts_held, plan_formed, plan_rebuilds}
use Rattle.vx_lists.proofs.list_view.array.ListViewArray.rebuilt.Goals as goal

pub list_starts-requires-clause-counts : goal.list_starts-requires-clause-counts
list_starts-requires-clause-counts c =
    let parts = c.parts.result in
    let plan = c.args.plan in
    rw c.as_slice.ensures.value (planned_sizes_read c.args.self.now parts.elements.now parts.offsets.now parts.sizes.now (valid_of parts.validity.now) parts.flag c.parts.ensures.same c.parts.ensures.formed plan.offset_type plan.size_type plan.offsets plan.sizes plan.count c.requires.plan)

pub list_starts-requires-clause-holds : goal.list_starts-requires-clause-holds
list_starts-requires-clause-holds c =
    let parts = c.parts.result in
    let plan = c.args.plan in
    rw (c.rebuilt_ptype-offset_type.ensures, c.as_slice.ensures.value) (planned_starts_held c.args.self.now parts.elements.now parts.offsets.now parts.sizes.now (valid_of parts.validity.now) parts.flag c.parts.ensures.same c.parts.ensures.formed plan.offset_type plan.size_type plan.offsets plan.sizes plan.count c.requires.plan c.requires.countable)

pub list_view-requires : goal.list_view-requires
list_view-requires c =
    let parts = c.parts.result in
    let plan = c.args.plan in
    let starts_are = rw (c.rebuilt_ptype-offset_type.ensures, c.as_slice.ensures.value) at c.in_ok-starts.ensures in
    let o_same = c.in_ok-offsets.ensures ∙ ap (λ p. primitive p c.in_ok-starts.starts non_nullable) c.rebuilt_ptype-offset_type.ensures in
    let s_same = c.in_ok-sizes.ensures ∙ ap (λ bs. primitive plan.size_type bs non_nullable) c.in_ok-try_clone.ensures in
    plan_formed c.args.self.now parts.elements.now parts.offsets.now parts.sizes.now (valid_of parts.validity.now) parts.flag c.parts.ensures.same c.parts.ensures.formed plan.offset_type plan.size_type plan.offsets plan.sizes plan.count c.requires.plan c.args.elements c.in_ok-offsets.offsets c.in_ok-sizes.sizes (valid_of c.in_ok-validity.validity) c.in_ok-starts.starts c.requires.elements starts_are o_same s_same c.in_ok-validity.ensures

pub returns : goal.returns
returns c =
    let parts = c.parts.result in
    let plan = c.args.plan in
    let starts_are = rw (c.rebuilt_ptype-offset_type.ensures, c.as_slice.ensures.value) at c.in_ok-starts.ensures in
    let o_same = c.in_ok-offsets.ensures ∙ ap (λ p. primitive p c.in_ok-starts.starts non_nullable) c.rebuilt_ptype-offset_type.ensures in
    let s_same = c.in_ok-sizes.ensures ∙ ap (λ bs. primitive plan.size_type bs non_nullable) c.in_ok-try_clone.ensures in
    subst (IsRebuilt c.args.self.now) (sym (c.from_array.ensures ∙ c.in_ok-array.ensures)) (plan_rebuilds c.args.self.now parts.elements.now parts.offsets.now parts.sizes.now (valid_of parts.validity.now) parts.flag c.parts.ensures.same c.parts.ensures.formed plan.offset_type plan.size_type plan.offsets plan.sizes plan.count c.requires.plan c.args.elements c.in_ok-offsets.offsets c.in_ok-sizes.sizes (valid_of c.in_ok-validity.validity) c.in_ok-starts.starts c.requires.elements starts_are o_same s_same c.in_ok-validity.ensures)
