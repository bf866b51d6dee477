use Rattle.std.proofs.Common.{◌≡◌, ◌+◌, ◌-◌, ap, ◌∙◌, arith}
use Rattle.vx_tree.specs.Meaning.{tree_len}
use Rattle.vx_tree.specs.Parts.{valid_of}
use Rattle.vx_lists.proofs.ListViews.ReferencedElements.{bounds_referenced, bounds_within, bounds_of_flagged}
use Rattle.vx_lists.proofs.list_view.array.ListViewArray.element_bounds.Goals as goal

pub returns-then-parts-clause-ok : goal.returns-then-parts-clause-ok
returns-then-parts-clause-ok c =
    let parts = c.parts-parts.result in
    let len : c.len-len.result ≡ tree_len parts.offsets.now = c.len-len.ensures ∙ ap tree_len c.parts-parts.ensures.same in
    let bounds = bounds_of_flagged c.args.self.now parts.elements.now parts.offsets.now parts.sizes.now (valid_of parts.validity.now) parts.flag c.parts-parts.ensures.same c.parts-parts.ensures.formed
    (c.len-len.result - 1) c.count_at-start.result (c.count_at.result + c.count_at-then-parts.result) c.if-parts.true (omega (arith, len)) c.count_at-start.ensures.value (omega (arith, c.count_at.ensures.value, c.count_at-then-parts.ensures.value)) in
    bounds_referenced c.args.self.now parts.elements.now parts.offsets.now parts.sizes.now (valid_of parts.validity.now) parts.flag c.parts-parts.ensures.same c.parts-parts.ensures.formed c.count_at-start.result (c.count_at.result + c.count_at-then-parts.result) bounds

pub returns-then-parts-clause-within : goal.returns-then-parts-clause-within
returns-then-parts-clause-within c =
    let parts = c.parts-parts.result in
    let len : c.len-len.result ≡ tree_len parts.offsets.now = c.len-len.ensures ∙ ap tree_len c.parts-parts.ensures.same in
    let bounds = bounds_of_flagged c.args.self.now parts.elements.now parts.offsets.now parts.sizes.now (valid_of parts.validity.now) parts.flag c.parts-parts.ensures.same c.parts-parts.ensures.formed
    (c.len-len.result - 1) c.count_at-start.result (c.count_at.result + c.count_at-then-parts.result) c.if-parts.true (omega (arith, len)) c.count_at-start.ensures.value (omega (arith, c.count_at.ensures.value, c.count_at-then-parts.ensures.value)) in
    bounds_within c.args.self.now parts.elements.now parts.offsets.now parts.sizes.now (valid_of parts.validity.now) parts.flag c.parts-parts.ensures.same c.parts-parts.ensures.formed c.count_at-start.result (c.count_at.result + c.count_at-then-parts.result) bounds
