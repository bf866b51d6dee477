use Rattle.std.proofs.Common.{◌∙◌, ap}
use Rattle.vx_base.specs.Kinds.{integer_type}
use Rattle.vx_tree.specs.Meaning.{kind_of}
use Rattle.vx_tree.specs.Parts.{valid_of}
use Rattle.vx_lists.specs.ListViews.{counts_in}
use Rattle.vx_lists.proofs.ListViews.CountBytes.{held_are_counts}
use Rattle.vx_lists.proofs.ListViews.Plans.{mask_is, plan_made, total_fits}
use Rattle.vx_lists.proofs.list_view.array.ListViewArray.plan.Goals as goal

pub rebuilt_total-requires : goal.rebuilt_total-requires
rebuilt_total-requires c =
    let parts = c.parts-parts.result in
    mask_is c.args.self.now parts.elements.now parts.offsets.now parts.sizes.now (valid_of parts.validity.now) parts.flag c.parts-parts.ensures.same c.parts-parts.ensures.formed c.in_ok-mask.mask c.len.result c.in_ok-mask.ensures.mask c.len.ensures

pub valid_sizes-requires-clause-counts : goal.valid_sizes-requires-clause-counts
valid_sizes-requires-clause-counts c =
    let s = c.parts-parts.result.sizes.now in
    let size_type = c.as_ptype-size_type.ensures ∙ ap integer_type c.dtype.ensures in
    rw size_type (held_are_counts (integer_type (kind_of s)) c.in_ok-sizes.sizes (counts_in s) c.in_ok-sizes.ensures.are)

pub valid_sizes-requires-clause-holds : goal.valid_sizes-requires-clause-holds
valid_sizes-requires-clause-holds c =
    let parts = c.parts-parts.result in
    let ms = mask_is c.args.self.now parts.elements.now parts.offsets.now parts.sizes.now (valid_of parts.validity.now) parts.flag c.parts-parts.ensures.same c.parts-parts.ensures.formed c.in_ok-mask.mask c.len.result c.in_ok-mask.ensures.mask c.len.ensures in
    total_fits c.args.self.now parts.elements.now parts.offsets.now parts.sizes.now (valid_of parts.validity.now) parts.flag c.parts-parts.ensures.same c.parts-parts.ensures.formed c.as_ptype-size_type.result c.rebuilt_ptype-rebuilt_type.result c.in_ok-sizes.sizes c.in_ok-mask.mask
    (c.as_ptype-size_type.ensures ∙ ap integer_type c.dtype.ensures) c.rebuilt_ptype-rebuilt_type.ensures c.in_ok-sizes.ensures ms c.in_ok-count.ensures.tests

pub returns-clause-ok : goal.returns-clause-ok
returns-clause-ok c =
    let parts = c.parts-parts.result in
    let ms = mask_is c.args.self.now parts.elements.now parts.offsets.now parts.sizes.now (valid_of parts.validity.now) parts.flag c.parts-parts.ensures.same c.parts-parts.ensures.formed c.in_ok-mask.mask c.len.result c.in_ok-mask.ensures.mask c.len.ensures in
    plan_made c.args.self.now parts.elements.now parts.offsets.now parts.sizes.now (valid_of parts.validity.now) parts.flag c.parts-parts.ensures.same c.parts-parts.ensures.formed c.as_ptype.result c.as_ptype-size_type.result c.rebuilt_ptype-rebuilt_type.result c.in_ok-offsets.offsets c.in_ok-sizes.sizes c.in_ok-sizes-2.sizes c.in_ok-mask.mask c.in_ok-count.count
    (c.as_ptype.ensures ∙ ap integer_type c.dtype-2.ensures) (c.as_ptype-size_type.ensures ∙ ap integer_type c.dtype.ensures) c.rebuilt_ptype-rebuilt_type.ensures c.in_ok-offsets.ensures c.in_ok-sizes.ensures ms c.in_ok-sizes-2.ensures c.in_ok-count.ensures.total
