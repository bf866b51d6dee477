use Rattle.std.proofs.Common.{◌≡◌, ◌<◌, ◌+◌, arith, not, ap, sym, subst, refl, ◌∙◌, length, get_or}
use lib.Dec.{eqb}
use Rattle.std.proofs.lemmas.List.{set-get_or}
use Rattle.std.proofs.lemmas.Result.{err_from_is_err_and}
use Rattle.vx_base.specs.Bits.{bool_at}
use Rattle.vx_views.proofs.CheckedRows.{checked-valid, checked-null, checked-fault, checked-alone}
use Rattle.vx_views.proofs.EmptiedViews.{AreEmptied, emptied-valid, emptied-null, emptied-all, emptied-unread}
use Rattle.vx_views.proofs.FaultyViews.{views_fault_found}
use Rattle.vx_views.proofs.view_emptying.check_and_empty_rows.Goals.{then-value+in_ok-check_view, else-value}
use Rattle.vx_views.proofs.view_emptying.check_and_empty_rows.Goals as goal

pub loop-row-preserved : goal.loop-row-preserved
loop-row-preserved g c =
    let text = not (eqb g.row.TEXT 0) in
    let mask = c.args.mask.now in
    let buffers = c.args.buffers.now in
    let views = c.args.views.now in
    let row = c.loop-row.row in
    let view = get_or c.loop-row.views row c.index-views-row.result in
    let emptied = c.loop-row.invariant.emptied in
    let within : row < length views = omega (arith, emptied.len) in
    let same = emptied-unread mask views row c.loop-row.views view c.index-views-row.result emptied within refl in
    let told : c.value.result ≡ bool_at mask row = c.value.ensures.value ∙ ap (λ bs. bool_at bs row) c.loop-row.invariant.same in
    record {
      same = c.value.ensures.same ∙ c.loop-row.invariant.same;
      checked = elim c.if-value.branch [
        | then-value+in_ok-check_view w ↦
            checked-valid text c.args.texts.now mask buffers views row c.loop-row.alone c.if-value.alone view w.in_ok-check_view.field-0 c.loop-row.invariant.checked
            (record { within = within; same = same; valid = sym told ∙ w.if-value.true }) w.in_ok-check_view.ensures.tests w.in_ok-check_view.ensures.alone (w.alone-is ∙ ap (λ n. c.loop-row.alone + n) w.from.ensures)
        | else-value w ↦
            checked-null text c.args.texts.now mask buffers views row c.loop-row.alone c.if-value.alone c.loop-row.invariant.checked within (sym told ∙ w.if-value.false) w.alone-is
      ];
      emptied = elim c.if-value.branch [
        | then-value+in_ok-check_view w ↦ subst (AreEmptied mask views (row + 1)) (sym (w.views-is ∙ set-get_or c.loop-row.views row c.index-views-row.result)) (emptied-valid mask views row c.loop-row.views emptied (sym told ∙ w.if-value.true))
        | else-value w ↦ subst (AreEmptied mask views (row + 1)) (sym w.views-is) (emptied-null mask views row c.loop-row.views w.empty_view.result emptied within (sym told ∙ w.if-value.false) w.empty_view.ensures)
      ];
    }

pub returns-in_err-check_view-clause-tests : goal.returns-in_err-check_view-clause-tests
returns-in_err-check_view-clause-tests g c =
    let p = err_from_is_err_and c.from_residual.result c.from_residual.ensures.1 in
    let told = c.value.ensures.value ∙ ap (λ bs. bool_at bs c.loop-row.row) c.loop-row.invariant.same in
    let emptied = c.loop-row.invariant.emptied in
    let within : c.loop-row.row < length c.args.views.now = omega (arith, emptied.len) in
    let view = get_or c.loop-row.views c.loop-row.row c.index-views-row.result in
    let same = emptied-unread c.args.mask.now c.args.views.now c.loop-row.row c.loop-row.views view c.index-views-row.result emptied within refl in
    rw (p.1, p.2) (
      c.in_err-check_view.ensures.tests.0,
      views_fault_found (not (eqb g.row.TEXT 0)) c.args.mask.now c.args.buffers.now c.args.views.now c.loop-row.row view
          c.in_err-check_view.field-0.0 c.loop-row.invariant.checked.none (record { within = within; same = same; valid = sym told ∙ c.if-value.true }) c.in_err-check_view.ensures.tests,
    )

pub returns-clause-tests : goal.returns-clause-tests
returns-clause-tests g c = checked-fault (not (eqb g.row.TEXT 0)) c.args.texts.now c.args.mask.now c.args.buffers.now c.args.views.now c.loop-row.row c.loop-row.alone c.loop-row.invariant.checked (omega (arith, c.loop-row.invariant.emptied.len))

pub returns-clause-alone : goal.returns-clause-alone
returns-clause-alone g c = checked-alone (not (eqb g.row.TEXT 0)) c.args.texts.now c.args.mask.now c.args.buffers.now c.args.views.now c.loop-row.row c.loop-row.alone c.loop-row.invariant.checked (omega (arith, c.loop-row.invariant.emptied.len))

pub returns-clause-views : goal.returns-clause-views
returns-clause-views g c = emptied-all c.args.mask.now c.args.views.now c.loop-row.row c.loop-row.views c.loop-row.invariant.emptied (omega (arith, c.loop-row.invariant.emptied.len))
