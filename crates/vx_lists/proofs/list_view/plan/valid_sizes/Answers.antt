use Rattle.std.proofs.Common.{◌≡◌, ℕ, List, length, sym, subst, ◌∙◌, rules}
use Rattle.vx_lists.specs.ListViews.CountBytes.{counts_of, HoldCounts}
use Rattle.vx_lists.specs.ListViews.Layout.{valid_sizes}
use Rattle.vx_lists.proofs.ListViews.CountBytes.{length-counts_of, own_counts}
use Rattle.vx_lists.proofs.ListViews.PlannedRows.{valid_sizes-all_true}
use Rattle.vx_lists.proofs.list_view.plan.valid_sizes.Goals as goal

pub returns-then-all_true : goal.returns-then-all_true
returns-then-all_true c =
    let t = c.args.ptype in
    let ss : List ℕ = counts_of t c.args.sizes.now in
    let same_len : length c.args.mask.now ≡ length ss = c.requires.same_len ∙ sym (length-counts_of t c.args.sizes.now) in
    let all : valid_sizes ss c.args.mask.now ≡ ss = valid_sizes-all_true ss c.args.mask.now (c.all_true.ensures.0 c.if-all_true.true) same_len in
    let own : HoldCounts t c.args.sizes.now ss = own_counts t c.args.sizes.now c.requires.counts c.requires.whole in
    let same : t ≡ c.args.new_type = search rules in
    subst (λ p. HoldCounts p c.in_ok-try_clone.field-0 (valid_sizes ss c.args.mask.now)) same
    (subst (HoldCounts t c.in_ok-try_clone.field-0) (sym all) (subst (λ bs. HoldCounts t bs ss) (sym c.in_ok-try_clone.ensures) own))
