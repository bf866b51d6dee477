use Rattle.std.proofs.Common.{◌*◌, ◌≤◌, length, get_or, refl, arith}
use Rattle.vx_lists.proofs.ListViews.MarkedRuns.{AreRunsMarked-none, AreRunsMarked-short, AreRunsMarked-long}
use Rattle.vx_lists.proofs.list_view.references.mark_runs.Goals as goal
use Rattle.vx_lists.proofs.list_view.references.mark_runs.Goals.{then-from-to, else-from-to}

pub overflow_mul-from : goal.overflow_mul-from
overflow_mul-from c = let within : get_or c.args.runs.now c.loop-block.block 0 * 4096 ≤ length c.args.marked.now = c.requires.runs.within c.loop-block.block in omega arith

pub overflow_mul-to : goal.overflow_mul-to
overflow_mul-to c = let within : get_or c.args.runs.now c.loop-block.block 0 * 4096 ≤ length c.args.marked.now = c.requires.runs.within c.loop-block.block in omega arith

pub loop-block-init : goal.loop-block-init
loop-block-init c = AreRunsMarked-none c.args.marked.now c.args.runs.now

pub loop-block-preserved : goal.loop-block-preserved
loop-block-preserved c =
    let block = c.loop-block.block in
    elim c.if-from-to.branch [
      | then-from-to w ↦ rw (w.marked-is, w.done-is) (AreRunsMarked-long c.args.marked.now c.args.runs.now block c.loop-block.done c.loop-block.marked c.loop-block.invariant c.max-from.result c.max-from.ensures (get_or c.args.runs.now block 0) refl w.if-from-to.true (c.requires.runs.within block) w.fill_range.new.self w.fill_range.ensures)
      | else-from-to w ↦ rw (w.marked-is, w.done-is) (AreRunsMarked-short c.args.marked.now c.args.runs.now block c.loop-block.done c.loop-block.marked c.loop-block.invariant c.max-from.result c.max-from.ensures w.if-from-to.false)
    ]
