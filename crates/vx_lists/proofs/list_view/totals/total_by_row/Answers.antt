use Rattle.std.proofs.Common.{◌≡◌, ◌+◌, ◌^◌, ◌<◌, cond, refl, sym, ◌∙◌, ap, arith}
use Rattle.vx_base.specs.Bits.{bool_at}
use Rattle.vx_base.specs.Rows.{count_in}
use Rattle.vx_tree.specs.Meaning.{row_at}
use Rattle.vx_lists.proofs.ListViews.TotalSizes.{IsTotalBelow-more, IsTotalBelow-all}
use Rattle.vx_lists.proofs.list_view.totals.total_by_row.Goals as goal
use Rattle.vx_lists.proofs.list_view.totals.total_by_row.Goals.{then-value, else-value}

pub loop-row-preserved : goal.loop-row-preserved
loop-row-preserved c =
    let s = c.args.sizes.now in
    let i = c.loop-row.row in
    let here : bool_at c.args.mask.now i ≡ c.value.result = sym (ap (λ m. bool_at m i) c.loop-row.invariant.present) ∙ sym c.value.ensures.value in
    let size : (c.if-value.size ≡ cond (bool_at c.args.mask.now i) (count_in (row_at s i)) 0) × (c.if-value.size < 2 ^ 64) =
    elim c.if-value.branch [
      | then-value w ↦ (w.size-is ∙ w.count_at-size.ensures.value ∙ ap (λ b. cond b (count_in (row_at s i)) 0) (sym (here ∙ w.if-value.true)), omega (arith, w.size-is, w.count_at-size.type_inv))
      | else-value w ↦ (w.size-is ∙ ap (λ b. cond b (count_in (row_at s i)) 0) (sym (here ∙ w.if-value.false)), omega (arith, w.size-is))
    ] in
    record {
      present = c.value.ensures.same ∙ c.loop-row.invariant.present;
      total = IsTotalBelow-more s c.args.mask.now i c.loop-row.total c.requires.same_len c.loop-row.invariant.total c.if-value.size (c.loop-row.total + c.if-value.size)
          (omega (arith, c.loop-row-test.true, c.len-row-end.ensures)) size.0 size.1 refl;
    }

pub returns : goal.returns
returns c =
    IsTotalBelow-all c.args.sizes.now c.args.mask.now c.loop-row.row c.loop-row.total c.requires.same_len c.loop-row.invariant.total (omega (arith, c.loop-row-test.false, c.len-row-end.ensures))
