use Rattle.std.proofs.Common.{Some, None, refl, sym, ◌∙◌, ap}
use Rattle.std.proofs.lemmas.Result.{err_from_is_err_and}
use Rattle.vx_base.proofs.FirstFaults.{Names-or_else_first}
use Rattle.vx_base.specs.Kinds.{integer_type}
use Rattle.vx_base.specs.Refusals.{overflow}
use Rattle.vx_tree.specs.Faults.{take_overflow}
use Rattle.vx_tree.specs.Parts.{valid_of}
use Rattle.vx_lists.specs.ListViews.Faults.{rebuilt_total_fault}
use Rattle.vx_lists.specs.ListViews.{elements_of, rebuilt_ptype, total_of}
use Rattle.vx_lists.proofs.ListViews.Plans.{mask_len, total_fault_is, overflow_is}
use Rattle.vx_lists.proofs.list_view.array.ListViewArray.rebuilt_total.Goals as goal

pub total_size-total-requires-clause-same_len : goal.total_size-total-requires-clause-same_len
total_size-total-requires-clause-same_len c =
    let parts = c.parts-parts.result in
    mask_len c.args.self.now parts.elements.now parts.offsets.now parts.sizes.now (valid_of parts.validity.now) parts.flag c.parts-parts.ensures.same c.parts-parts.ensures.formed c.args.mask.now c.requires

pub returns-in_err-count-clause-tests : goal.returns-in_err-count-clause-tests
returns-in_err-count-clause-tests c =
    let parts = c.parts-parts.result in
    let fault = total_fault_is c.args.self.now parts.elements.now parts.offsets.now parts.sizes.now (valid_of parts.validity.now) parts.flag c.parts-parts.ensures.same c.parts-parts.ensures.formed c.rebuilt_ptype-offset_type.result c.rebuilt_ptype-size_type.result c.args.mask.now c.total_size-total.result
    (c.rebuilt_ptype-offset_type.ensures ∙ ap rebuilt_ptype (c.as_ptype.ensures ∙ ap integer_type c.dtype.ensures)) (c.rebuilt_ptype-size_type.ensures ∙ ap rebuilt_ptype (c.as_ptype-2.ensures ∙ ap integer_type c.dtype-2.ensures)) c.requires c.total_size-total.ensures in
    let t = c.args.self.now in
    let p = err_from_is_err_and c.from_residual.result c.from_residual.ensures.1 in
    rw (p.1, p.2) (Names-or_else_first (rebuilt_total_fault t) (take_overflow (elements_of t) (total_of t)) _ (c.in_err-count.ensures.tests.0, sym fault ∙ c.in_err-count.ensures.tests.1))

pub returns-then-not-is_countable-clause-tests : goal.returns-then-not-is_countable-clause-tests
returns-then-not-is_countable-clause-tests c =
    let parts = c.parts-parts.result in
    let fault = total_fault_is c.args.self.now parts.elements.now parts.offsets.now parts.sizes.now (valid_of parts.validity.now) parts.flag c.parts-parts.ensures.same c.parts-parts.ensures.formed c.rebuilt_ptype-offset_type.result c.rebuilt_ptype-size_type.result c.args.mask.now c.total_size-total.result
    (c.rebuilt_ptype-offset_type.ensures ∙ ap rebuilt_ptype (c.as_ptype.ensures ∙ ap integer_type c.dtype.ensures)) (c.rebuilt_ptype-size_type.ensures ∙ ap rebuilt_ptype (c.as_ptype-2.ensures ∙ ap integer_type c.dtype-2.ensures)) c.requires c.total_size-total.ensures in
    (refl, overflow_is c.args.self.now parts.elements.now parts.offsets.now parts.sizes.now (valid_of parts.validity.now) parts.flag c.parts-parts.ensures.same c.parts-parts.ensures.formed c.args.mask.now c.total_size-total.result c.in_ok-count.count (Some overflow) c.requires c.total_size-total.ensures c.in_ok-count.ensures.same (sym fault ∙ c.in_ok-count.ensures.tests) (rw c.if-not-is_countable.true at c.is_countable.ensures))

pub returns-clause-tests : goal.returns-clause-tests
returns-clause-tests c =
    let parts = c.parts-parts.result in
    let fault = total_fault_is c.args.self.now parts.elements.now parts.offsets.now parts.sizes.now (valid_of parts.validity.now) parts.flag c.parts-parts.ensures.same c.parts-parts.ensures.formed c.rebuilt_ptype-offset_type.result c.rebuilt_ptype-size_type.result c.args.mask.now c.total_size-total.result
    (c.rebuilt_ptype-offset_type.ensures ∙ ap rebuilt_ptype (c.as_ptype.ensures ∙ ap integer_type c.dtype.ensures)) (c.rebuilt_ptype-size_type.ensures ∙ ap rebuilt_ptype (c.as_ptype-2.ensures ∙ ap integer_type c.dtype-2.ensures)) c.requires c.total_size-total.ensures in
    overflow_is c.args.self.now parts.elements.now parts.offsets.now parts.sizes.now (valid_of parts.validity.now) parts.flag c.parts-parts.ensures.same c.parts-parts.ensures.formed c.args.mask.now c.total_size-total.result c.in_ok-count.count None c.requires c.total_size-total.ensures c.in_ok-count.ensures.same (sym fault ∙ c.in_ok-count.ensures.tests) (rw c.if-not-is_countable.false at c.is_countable.ensures)
