use Rattle.std.proofs.Common.{◌+◌, ◌∙◌, refl, sym, subst}
use Rattle.vx_base.proofs.Refused.{Gives-weaker}
use Rattle.vx_base.specs.Rows.{count_in}
use Rattle.vx_tree.specs.Meaning.{tree_len, row_at}
use Rattle.vx_tree.specs.Parts.{valid_of}
use Rattle.vx_lists.specs.ListViews.References.{AreMarked, MarksReferenced}
use Rattle.vx_lists.proofs.ListViews.ReferencedElements.{marked_within, marks_referenced}
use Rattle.vx_lists.proofs.list_view.array.ListViewArray.referenced_elements.Goals as goal

pub mark_lists-requires-clause-within : goal.mark_lists-requires-clause-within
mark_lists-requires-clause-within c =
    let parts = c.parts-parts.result in
    marked_within c.args.self.now parts.elements.now parts.offsets.now parts.sizes.now (valid_of parts.validity.now) parts.flag c.parts-parts.ensures.same c.parts-parts.ensures.formed
    c.deref.result.now c.deref-2.result.now parts.count (c.deref.ensures.value ∙ c.in_ok-offsets.ensures) (c.deref-2.ensures.value ∙ c.in_ok-sizes.ensures) c.parts-parts.ensures.count

pub returns : goal.returns
returns c =
    let parts = c.parts-parts.result in
    subst (MarksReferenced c.args.self.now) (sym c.in_ok-from_buffer.ensures)
    (marks_referenced c.args.self.now parts.elements.now parts.offsets.now parts.sizes.now (valid_of parts.validity.now) parts.flag c.parts-parts.ensures.same c.parts-parts.ensures.formed
    c.deref.result.now c.deref-2.result.now parts.count (c.deref.ensures.value ∙ c.in_ok-offsets.ensures) (c.deref-2.ensures.value ∙ c.in_ok-sizes.ensures) c.parts-parts.ensures.count c.in_ok-referenced.referenced.bits c.in_ok-referenced.ensures)

pub mark_first-requires-clause-within : goal.mark_first-requires-clause-within
mark_first-requires-clause-within c =
    let repeated = c.if-are_repeated.ensures refl in
    rw c.parts-parts.ensures.count (c.parts-parts.ensures.formed.1.within 0 repeated.some)

pub returns-then-are_repeated : goal.returns-then-are_repeated
returns-then-are_repeated c =
    let parts = c.parts-parts.result in
    Gives-weaker c.mark_first.result _ _
    (λ m marked. subst (λ x. MarksReferenced x m) (sym c.parts-parts.ensures.same)
    (subst (λ n. AreMarked (λ i. count_in (row_at parts.offsets.now i)) (λ i. count_in (row_at parts.offsets.now i) + count_in (row_at parts.sizes.now i)) (tree_len parts.offsets.now) n m) c.parts-parts.ensures.count marked))
    c.mark_first.ensures
