use Rattle.std.proofs.Common.{◌∙◌}
use Rattle.vx_tree.specs.Parts.{valid_of}
use Rattle.vx_lists.proofs.ListViews.Plans.{planned_list_bytes, planned_sum, planned_positions, to_take}
use Rattle.vx_lists.proofs.list_view.array.ListViewArray.planned_positions.Goals as goal

pub list_positions-requires-clause-lists : goal.list_positions-requires-clause-lists
list_positions-requires-clause-lists c =
    let parts = c.parts.result in
    let plan = c.args.plan.now in
    rw (c.as_slice.ensures.value, c.as_slice-2.ensures.value) (planned_list_bytes c.args.self.now parts.elements.now parts.offsets.now parts.sizes.now (valid_of parts.validity.now) parts.flag c.parts.ensures.same c.parts.ensures.formed plan.offset_type plan.size_type plan.offsets plan.sizes plan.count c.requires c.parts.ensures.short)

pub list_positions-requires-clause-count : goal.list_positions-requires-clause-count
list_positions-requires-clause-count c =
    let parts = c.parts.result in
    let plan = c.args.plan.now in
    rw c.as_slice-2.ensures.value (planned_sum c.args.self.now parts.elements.now parts.offsets.now parts.sizes.now (valid_of parts.validity.now) parts.flag c.parts.ensures.same c.parts.ensures.formed plan.offset_type plan.size_type plan.offsets plan.sizes plan.count c.requires)

pub returns : goal.returns
returns c =
    let parts = c.parts.result in
    let plan = c.args.plan.now in
    record {
      elements = to_take c.args.self.now parts.elements.now parts.offsets.now parts.sizes.now (valid_of parts.validity.now) parts.flag c.parts.ensures.same c.parts.ensures.formed;
      positions = c.in_ok-positions.ensures ∙ rw (c.as_slice.ensures.value, c.as_slice-2.ensures.value) (planned_positions c.args.self.now parts.elements.now parts.offsets.now parts.sizes.now (valid_of parts.validity.now) parts.flag c.parts.ensures.same c.parts.ensures.formed plan.offset_type plan.size_type plan.offsets plan.sizes plan.count c.requires);
    }
