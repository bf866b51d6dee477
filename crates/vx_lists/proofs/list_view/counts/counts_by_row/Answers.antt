use Rattle.std.proofs.Common.{◌≡◌, subst, arith}
use Rattle.vx_tree.specs.Meaning.{tree_len}
use Rattle.vx_lists.proofs.ListViews.CountArrays.{one_count_more, all_counts_read, AreCountsRead}
use Rattle.vx_lists.proofs.list_view.counts.counts_by_row.Goals as goal

pub loop-i-preserved : goal.loop-i-preserved
loop-i-preserved c =
    one_count_more c.args.array.now c.loop-i.i c.loop-i.counts.items c.push.new.self.items c.count_at.result c.loop-i.invariant c.count_at.ensures.value c.count_at.ensures.holds c.in_ok-push.ensures.items

pub returns-clause-rows : goal.returns-clause-rows
returns-clause-rows c =
    let done : c.loop-i.i ≡ tree_len c.args.array.now = omega (arith, c.len-i-end.ensures) in
    all_counts_read c.args.array.now c.loop-i.counts.items (subst (λ n. AreCountsRead c.args.array.now n c.loop-i.counts.items) done c.loop-i.invariant)
