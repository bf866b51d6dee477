use Rattle.std.proofs.Common.{◌≡◌, ◌<◌, ◌+◌, arith, not, ap, sym, refl, ◌∙◌, length}
use lib.Dec.{eqb}
use Rattle.std.proofs.lemmas.Result.{err_from_is_err_and}
use Rattle.vx_base.specs.Bits.{bool_at}
use Rattle.vx_views.proofs.AloneViews.{from_bool-le}
use Rattle.vx_views.proofs.CheckedRows.{checked-start, checked-valid, checked-null, checked-fault, checked-alone}
use Rattle.vx_views.proofs.FaultyViews.{views_fault_found}
use Rattle.vx_views.proofs.view_checks.check_rows.Goals.{then-value+in_ok-check_view, else-value}
use Rattle.vx_views.proofs.view_checks.check_rows.Goals as goal

pub loop-row-init : goal.loop-row-init
loop-row-init g c = record { same = c.rows-valid.ensures; checked = checked-start (not (eqb g.row.TEXT 0)) c.args.texts.now c.args.mask.now c.args.buffers.now c.args.views.now 0 refl }

pub value-requires : goal.value-requires
value-requires g c = omega (arith, ap length c.loop-row.invariant.same, c.requires.same_len)

pub overflow_add-alone : goal.overflow_add-alone
overflow_add-alone g c = omega (arith, c.from.ensures, from_bool-le c.in_ok-check_view.field-0, c.loop-row.invariant.checked.few)

pub loop-row-preserved : goal.loop-row-preserved
loop-row-preserved g c =
    let text = not (eqb g.row.TEXT 0) in
    let mask = c.args.mask.now in
    let buffers = c.args.buffers.now in
    let views = c.args.views.now in
    let row = c.loop-row.row in
    let view = c.index-views-row.result in
    let within : row < length views = omega arith in
    let told : c.value.result ≡ bool_at mask row = c.value.ensures.value ∙ ap (λ bs. bool_at bs row) c.loop-row.invariant.same in
    record {
      same = c.value.ensures.same ∙ c.loop-row.invariant.same;
      checked = elim c.if-value.branch [
        | then-value+in_ok-check_view w ↦
            checked-valid text c.args.texts.now mask buffers views row c.loop-row.alone c.if-value.alone view w.in_ok-check_view.field-0 c.loop-row.invariant.checked
            (record { within = within; same = c.index-views-row.is; valid = sym told ∙ w.if-value.true }) w.in_ok-check_view.ensures.tests w.in_ok-check_view.ensures.alone (w.alone-is ∙ ap (λ n. c.loop-row.alone + n) w.from.ensures)
        | else-value w ↦
            checked-null text c.args.texts.now mask buffers views row c.loop-row.alone c.if-value.alone c.loop-row.invariant.checked within (sym told ∙ w.if-value.false) w.alone-is
      ];
    }

pub returns-in_err-check_view-clause-tests : goal.returns-in_err-check_view-clause-tests
returns-in_err-check_view-clause-tests g c =
    let p = err_from_is_err_and c.from_residual.result c.from_residual.ensures.1 in
    let told = c.value.ensures.value ∙ ap (λ bs. bool_at bs c.loop-row.row) c.loop-row.invariant.same in
    rw (p.1, p.2) (
      c.in_err-check_view.ensures.tests.0,
      views_fault_found (not (eqb g.row.TEXT 0)) c.args.mask.now c.args.buffers.now c.args.views.now c.loop-row.row c.index-views-row.result
          c.in_err-check_view.field-0.0 c.loop-row.invariant.checked.none (record { within = omega arith; same = c.index-views-row.is; valid = sym told ∙ c.if-value.true }) c.in_err-check_view.ensures.tests,
    )

pub returns-clause-tests : goal.returns-clause-tests
returns-clause-tests g c = checked-fault (not (eqb g.row.TEXT 0)) c.args.texts.now c.args.mask.now c.args.buffers.now c.args.views.now c.loop-row.row c.loop-row.alone c.loop-row.invariant.checked (omega arith)

pub returns-clause-alone : goal.returns-clause-alone
returns-clause-alone g c = checked-alone (not (eqb g.row.TEXT 0)) c.args.texts.now c.args.mask.now c.args.buffers.now c.args.views.now c.loop-row.row c.loop-row.alone c.loop-row.invariant.checked (omega arith)
