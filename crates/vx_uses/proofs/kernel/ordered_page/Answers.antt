use Rattle.std.proofs.Common.{◌-◌, sym, subst}
use Rattle.std.proofs.lemmas.Result.{err_from_is_err_and}
use Rattle.vx_base.specs.Refusals.{Refuses, or_else}
use Rattle.vx_tree.specs.Faults.{slice_fault, take_overflow}
use Rattle.vx_tree.specs.Meaning.{tree_len}
use Rattle.vx_uses.specs.Uses.{page_fault}
use Rattle.vx_uses.proofs.OrderedPages.{order_fault, faults_in_order, fault_no_longer}
use Rattle.vx_uses.proofs.TwoFaults.{refused_before}
use Rattle.vx_uses.proofs.kernel.ordered_page.Goals as goal

pub returns-clause-refuses : goal.returns-clause-refuses
returns-clause-refuses c =
    let made = c.in_ok-page.ensures in
    let faults = faults_in_order c.args.column.now c.in_ok-page.page c.args.order.now c.args.page.start c.args.page.end made.by_row.len made.by_row.needs.take made.refuses in
    subst (λ f. Refuses c.take.result f) (sym faults) c.take.ensures.refuses

pub returns-clause-no_longer : goal.returns-clause-no_longer
returns-clause-no_longer c =
    let made = c.in_ok-page.ensures in
    λ short.
    let faults = fault_no_longer c.args.column.now c.in_ok-page.page c.args.order.now c.args.page.start c.args.page.end made.by_row.len made.by_row.needs.take made.refuses
    c.fewer_rows_are_countable.ensures short in
    subst (λ f. Refuses c.take.result f) (sym faults) c.take.ensures.refuses

pub returns-in_err-page-clause-refuses : goal.returns-in_err-page-clause-refuses
returns-in_err-page-clause-refuses c =
    let page = c.args.page in
    let column = c.args.column.now in
    let order = c.args.order.now in
    let p = err_from_is_err_and c.from_residual.result c.from_residual.ensures.1 in
    let e = c.in_err-page.field-0.0 in
    let range = slice_fault (tree_len column) page.start page.end in
    let first = refused_before range (order_fault (page.end - page.start) order) e c.in_err-page.ensures.refuses in
    rw (p.1, p.2) (refused_before (page_fault column page.start page.end order) (take_overflow column (tree_len order)) e first)

pub returns-in_err-page-clause-no_longer : goal.returns-in_err-page-clause-no_longer
returns-in_err-page-clause-no_longer c =
    let page = c.args.page in
    let p = err_from_is_err_and c.from_residual.result c.from_residual.ensures.1 in
    let range = slice_fault (tree_len c.args.column.now) page.start page.end in
    λ short. rw (p.1, p.2) (refused_before range (order_fault (page.end - page.start) c.args.order.now) c.in_err-page.field-0.0 c.in_err-page.ensures.refuses)
