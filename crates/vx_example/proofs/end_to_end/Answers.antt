use Rattle.std.proofs.Common.{false, sym, subst}
use Rattle.std.proofs.lemmas.Result.{err_from_is_err_and}
use Rattle.vx_base.specs.Refusals.{IsMemoryOr, or_else}
use Rattle.vx_lists.specs.declared.list_view.rebuild.ListViewRebuildMode.TheVariants.{MakeZeroCopyToList}
use Rattle.vx_lists.specs.ListViews.Faults.{rebuild_fault}
use Rattle.vx_tree.specs.Tree.{list_view, non_nullable}
use Rattle.vx_example.proofs.end_to_end.Goals as goal

-- the parts are lists, so what refuses is what stands in the way of laying these end to end
pub returns-in_err-rebuild-clause-refuses : goal.returns-in_err-rebuild-clause-refuses
returns-in_err-rebuild-clause-refuses c =
    let lists = list_view c.args.elements c.args.offsets c.args.sizes non_nullable false in
    let e = c.in_err-rebuild.field-0.0 in
    let p = err_from_is_err_and c.from_residual-in_err-rebuild.result c.from_residual-in_err-rebuild.ensures.1 in
    let later = subst (λ t. IsMemoryOr (rebuild_fault MakeZeroCopyToList t) e) c.in_ok-lists.ensures.parts c.in_err-rebuild.ensures.refuses in
    rw (p.1, p.2) (subst (λ f. IsMemoryOr (or_else f (rebuild_fault MakeZeroCopyToList lists)) e) (sym c.in_ok-lists.ensures.refuses) later)
