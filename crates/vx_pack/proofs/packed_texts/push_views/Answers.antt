use Rattle.vx_pack.specs.StoredTexts.{filled}
use Rattle.vx_pack.proofs.FilledTexts.{pushed_view}
use Rattle.vx_pack.proofs.packed_texts.push_views.Goals as goal

pub loop-row-preserved : goal.loop-row-preserved
loop-row-preserved c =
    pushed_view c.args.views.now c.args.buffers.now c.loop-row.row c.index-views-row.result c.value_in.result.now (filled c.args.texts.now)
    (filled c.loop-row.texts) (filled c.push.new.self) c.loop-row-test.true c.index-views-row.is c.value_in.ensures c.loop-row.invariant
    c.in_ok-push.ensures.held c.in_ok-push.ensures.put
