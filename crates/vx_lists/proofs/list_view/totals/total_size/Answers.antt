use Rattle.std.proofs.Common.{refl, sym, subst, ◌∙◌, ap}
use Rattle.vx_tree.specs.Formed.{IsCounts}
use Rattle.vx_lists.specs.ListViews.Layout.{valid_total}
use Rattle.vx_lists.specs.ListViews.{counts_in}
use Rattle.vx_lists.proofs.ListViews.CountArrays.{number_counts, counts_of-rows}
use Rattle.vx_lists.proofs.ListViews.RepeatedCounts.{valid_total-repeated}
use Rattle.vx_lists.proofs.list_view.totals.total_size.Goals as goal

pub valid_total-requires-clause-counts : goal.valid_total-requires-clause-counts
valid_total-requires-clause-counts c = number_counts c.in-Some.ptype c.in-Some.bytes.now (subst IsCounts c.in-Some.ensures c.requires.counts)

pub returns-in-Some : goal.returns-in-Some
returns-in-Some c =
    c.valid_total.ensures ∙ ap (λ ns. valid_total ns c.args.mask.now) (counts_of-rows c.in-Some.ptype c.in-Some.bytes.now ∙ sym (ap counts_in c.in-Some.ensures))

pub returns-then-is_repeated : goal.returns-then-is_repeated
returns-then-is_repeated c =
    valid_total-repeated c.args.sizes.now c.count_at.result (c.if-is_repeated.ensures.alike refl) c.count_at.ensures.value c.args.mask.now c.true_count.result c.requires.same_len c.true_count.ensures
