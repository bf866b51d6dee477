use Rattle.std.proofs.Common.{◌≡◌, ap, sym, subst, rules, Some, None, to_z, of_z, ◌<◌}
use Rattle.std.specs.Int.{w128}
use Rattle.std.proofs.lemmas.Result.{err_from_is_err_and}
use Rattle.vx_tree.specs.Tree.{primitive, non_nullable}
use Rattle.vx_tree.specs.Meaning.{tree_len}
use Rattle.vx_base.specs.Refusals.{Names}
use Rattle.vx_lists.specs.ListViews.Faults.{list_row_fault}
use Rattle.vx_base.proofs.NumberBytes.{number_passed}
use Rattle.vx_lists.proofs.ListViews.Faults.{AreChecked-more, AreChecked-fault}
use Rattle.vx_lists.proofs.list_view.number_rows.check_typed_rows.Goals as goal

pub loop-row-preserved : goal.loop-row-preserved
loop-row-preserved g c =
    let o = primitive g.O.NativePType.PTYPE c.args.offsets.now non_nullable in
    let s = primitive g.S.NativePType.PTYPE c.args.sizes.now non_nullable in
    let m = c.int_at-offset.result in
    let n = c.int_at-size.result in
    let offset = rw c.PTYPE-in-loop-row.ensures at c.int_at-offset.ensures.value in
    let size = rw c.PTYPE-in-loop-row-2.ensures at c.int_at-size.ensures.value in
    let none : list_row_fault c.args.count c.loop-row.row m n ≡ None =
    subst (λ z. list_row_fault c.args.count c.loop-row.row m z ≡ None) (number_passed _ n c.int_at-size.ensures.holds)
    (subst (λ z. list_row_fault c.args.count c.loop-row.row z (to_z w128 (of_z w128 n)) ≡ None) (number_passed _ m c.int_at-offset.ensures.holds) c.in_ok-check_list_row.ensures.tests) in
    AreChecked-more c.args.count o s c.loop-row.row m n c.loop-row.invariant (ap Some (sym offset)) (ap Some (sym size)) none

pub returns-in_err-check_list_row-clause-tests : goal.returns-in_err-check_list_row-clause-tests
returns-in_err-check_list_row-clause-tests g c =
    let o = primitive g.O.NativePType.PTYPE c.args.offsets.now non_nullable in
    let s = primitive g.S.NativePType.PTYPE c.args.sizes.now non_nullable in
    let p = err_from_is_err_and c.from_residual.result c.from_residual.ensures.1 in
    let m = c.int_at-offset.result in
    let n = c.int_at-size.result in
    let offset = rw c.PTYPE-in-loop-row.ensures at c.int_at-offset.ensures.value in
    let size = rw c.PTYPE-in-loop-row-2.ensures at c.int_at-size.ensures.value in
    let inside : c.loop-row.row < tree_len o = search rules in
    let error = c.in_err-check_list_row.field-0.0 in
    let names : Names (list_row_fault c.args.count c.loop-row.row m n) error =
    subst (λ z. Names (list_row_fault c.args.count c.loop-row.row m z) error) (number_passed _ n c.int_at-size.ensures.holds)
    (subst (λ z. Names (list_row_fault c.args.count c.loop-row.row z (to_z w128 (of_z w128 n))) error) (number_passed _ m c.int_at-offset.ensures.holds) c.in_err-check_list_row.ensures.tests) in
    rw (p.1, p.2) (AreChecked-fault c.args.count o s c.loop-row.row m n c.loop-row.invariant (ap Some (sym offset)) (ap Some (sym size)) error inside names)
