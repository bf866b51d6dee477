use Rattle.std.proofs.Common.{◌∙◌}
use Rattle.vx_tree.specs.Parts.{valid_of}
use Rattle.vx_lists.proofs.ListViews.Plans.{planned_list_bytes, planned_positions, to_take}
use Rattle.vx_lists.proofs.list_view.array.ListViewArray.planned_runs.Goals as goal

pub element_runs-requires : goal.element_runs-requires
element_runs-requires c =
    let parts = c.parts.result in
    let plan = c.args.plan.now in
    rw (c.as_slice.ensures.value, c.as_slice-2.ensures.value) (planned_list_bytes c.args.self.now parts.elements.now parts.offsets.now parts.sizes.now (valid_of parts.validity.now) parts.flag c.parts.ensures.same c.parts.ensures.formed plan.offset_type plan.size_type plan.offsets plan.sizes plan.count c.requires c.parts.ensures.short)

pub returns : goal.returns
returns c =
    let parts = c.parts.result in
    let plan = c.args.plan.now in
    record {
      elements = to_take c.args.self.now parts.elements.now parts.offsets.now parts.sizes.now (valid_of parts.validity.now) parts.flag c.parts.ensures.same c.parts.ensures.formed;
      runs = c.in_ok-runs.ensures ∙ rw (c.as_slice.ensures.value, c.as_slice-2.ensures.value) (planned_positions c.args.self.now parts.elements.now parts.offsets.now parts.sizes.now (valid_of parts.validity.now) parts.flag c.parts.ensures.same c.parts.ensures.formed plan.offset_type plan.size_type plan.offsets plan.sizes plan.count c.requires);
    }
