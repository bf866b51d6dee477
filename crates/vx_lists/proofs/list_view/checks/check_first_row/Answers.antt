use Rattle.std.proofs.Common.{◌≡◌, sym, ◌∙◌, subst, to_z, of_z}
use Rattle.std.specs.Int.{w128}
use Rattle.vx_base.specs.Refusals.{Tests}
use Rattle.vx_lists.specs.ListViews.Faults.{list_row_fault}
use Rattle.vx_lists.proofs.ListViews.Faults.{found_passed}
use Rattle.vx_lists.proofs.ListViews.RepeatedLists.{first_row_tests}
use Rattle.vx_lists.proofs.list_view.checks.check_first_row.Goals as goal

pub returns-clause-tests : goal.returns-clause-tests
returns-clause-tests c =
    let offset : to_z w128 (of_z w128 c.unwrap-offset.result) ≡ c.unwrap-offset.result = found_passed _ c.int_at.result c.unwrap-offset.result c.unwrap-offset.ensures c.int_at.ensures.holds in
    let size : to_z w128 (of_z w128 c.unwrap-size.result) ≡ c.unwrap-size.result = found_passed _ c.int_at-2.result c.unwrap-size.result c.unwrap-size.ensures c.int_at-2.ensures.holds in
    let r = c.check_list_row.result in
    let tests : Tests r (list_row_fault c.args.count 0 c.unwrap-offset.result c.unwrap-size.result) =
    subst (λ z. Tests r (list_row_fault c.args.count 0 c.unwrap-offset.result z)) size
    (subst (λ z. Tests r (list_row_fault c.args.count 0 z (to_z w128 (of_z w128 c.unwrap-size.result)))) offset c.check_list_row.ensures.tests) in
    first_row_tests c.args.count c.args.offsets.now c.args.sizes.now c.unwrap-offset.result c.unwrap-size.result c.requires.repeated (sym c.int_at.ensures.value ∙ c.unwrap-offset.ensures) (sym c.int_at-2.ensures.value ∙ c.unwrap-size.ensures) r tests
