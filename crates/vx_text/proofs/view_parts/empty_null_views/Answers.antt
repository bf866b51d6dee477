use Rattle.std.proofs.Common.{◌≡◌, ◌+◌, ap, sym, subst, ◌∙◌, arith}
use Rattle.std.proofs.lemmas.List.{set-get_or}
use Rattle.vx_base.specs.Bits.{bool_at}
use Rattle.vx_views.proofs.EmptiedViews.{AreEmptied, emptied-valid, emptied-null, emptied-all}
use Rattle.vx_text.proofs.view_parts.empty_null_views.Goals.{then-not-value, else-not-value}
use Rattle.vx_text.proofs.view_parts.empty_null_views.Goals as goal

pub loop-row-preserved : goal.loop-row-preserved
loop-row-preserved c =
    let mask = c.args.mask.now in
    let views = c.args.views.now in
    let row = c.loop-row.row in
    let emptied = c.loop-row.invariant.emptied in
    let told : c.value.result ≡ bool_at mask row = c.value.ensures.value ∙ ap (λ bs. bool_at bs row) c.loop-row.invariant.same in
    record {
      same = c.value.ensures.same ∙ c.loop-row.invariant.same;
      emptied = elim c.if-not-value.branch [
        | then-not-value w ↦ subst (AreEmptied mask views (row + 1)) (sym w.views-is)
            (emptied-null mask views row c.loop-row.views w.empty_view.result emptied (omega (arith, emptied.len)) (sym told ∙ w.if-not-value.true) w.empty_view.ensures)
        | else-not-value w ↦ subst (AreEmptied mask views (row + 1)) (sym (w.views-is ∙ set-get_or c.loop-row.views row c.index-views-row.result))
            (emptied-valid mask views row c.loop-row.views emptied (sym told ∙ w.if-not-value.false))
      ];
    }

pub returns : goal.returns
returns c = emptied-all c.args.mask.now c.args.views.now c.loop-row.row c.loop-row.views c.loop-row.invariant.emptied (omega (arith, c.loop-row.invariant.emptied.len))
