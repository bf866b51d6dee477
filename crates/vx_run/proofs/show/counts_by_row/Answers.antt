use Rattle.vx_run.proofs.Counts.{counts-more}
use Rattle.vx_run.proofs.show.counts_by_row.Goals as goal

pub loop-i-preserved : goal.loop-i-preserved
loop-i-preserved c =
    counts-more c.args.counts.now c.args.start c.loop-i.i c.loop-i.read.items c.push.new.self.items c.count_at.result c.loop-i.invariant c.count_at.ensures c.in_ok-push.ensures.items
