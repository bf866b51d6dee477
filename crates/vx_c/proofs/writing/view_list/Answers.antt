use Rattle.std.proofs.Common.{◌∙◌, ap}
use Rattle.vx_c.specs.TablesOf.{view_with}
use Rattle.vx_c.proofs.Moved.{views_more, copies_more}
use Rattle.vx_c.proofs.writing.view_list.Goals as goal

pub loop-view-preserved : goal.loop-view-preserved
loop-view-preserved c =
    let views = c.args.views.now in
    let i = c.loop-view.view-index in
    let view = c.view-item.result in (
      views_more c.loop-view.copies.items c.push.new.self.items c.view_copy.result views i view c.loop-view-test.true c.loop-view.invariant.0
          (c.view_copy.ensures.read ∙ c.view-item.is) c.in_ok-push.ensures.items,
      copies_more c.loop-view.copies.items c.push.new.self.items c.view_copy.result views i view c.loop-view-test.true c.loop-view.invariant.1
          (c.view_copy.ensures.bytes ∙ ap view_with c.view-item.is) c.in_ok-push.ensures.items,
    )
