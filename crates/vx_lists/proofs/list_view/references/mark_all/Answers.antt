use Rattle.std.proofs.Common.{◌≡◌, ℕ, ◌+◌, ◌≤◌, length, get_or, subst, arith}
use Rattle.vx_lists.specs.ListViews.References.{AreMarked}
use Rattle.vx_lists.proofs.ListViews.MarkedRuns.{AreCovered-none, AreCovered-more, AreMarked-covered}
use Rattle.vx_lists.proofs.list_view.references.mark_all.Goals as goal

pub loop-i-init : goal.loop-i-init
loop-i-init c = AreCovered-none (λ i. get_or c.args.offsets.now i 0) (λ i. get_or c.args.offsets.now i 0 + get_or c.args.sizes.now i 0) (length c.args.marked.now) c.args.marked.now c.args.runs.now c.requires.unset c.requires.empty

pub mark_list-requires-clause-within : goal.mark_list-requires-clause-within
mark_list-requires-clause-within c =
    let below : get_or c.args.offsets.now c.loop-i.i 0 + get_or c.args.sizes.now c.loop-i.i 0 ≤ length c.args.marked.now = c.requires.within c.loop-i.i c.loop-i-test.true in
    omega (arith, c.loop-i.invariant.len)

pub mark_list-requires-clause-runs : goal.mark_list-requires-clause-runs
mark_list-requires-clause-runs c = rw c.loop-i.invariant.len c.loop-i.invariant.runs_formed

pub loop-i-preserved : goal.loop-i-preserved
loop-i-preserved c =
    let starts : ℕ → ℕ = λ i. get_or c.args.offsets.now i 0 in
    let ends : ℕ → ℕ = λ i. get_or c.args.offsets.now i 0 + get_or c.args.sizes.now i 0 in
    let formed = rw c.loop-i.invariant.len at c.mark_list.ensures.runs in
    let covered = rw c.loop-i.invariant.len at c.mark_list.ensures.covered in
    AreCovered-more starts ends c.loop-i.i (length c.args.marked.now) c.loop-i.marked c.mark_list.new.marked c.loop-i.runs c.mark_list.new.runs c.loop-i.invariant c.mark_list.ensures.len formed covered

pub returns : goal.returns
returns c =
    let starts : ℕ → ℕ = λ i. get_or c.args.offsets.now i 0 in
    let ends : ℕ → ℕ = λ i. get_or c.args.offsets.now i 0 + get_or c.args.sizes.now i 0 in
    let done : c.loop-i.i ≡ length c.args.offsets.now = omega arith in
    let now = rw c.loop-i.invariant.len at c.mark_runs.ensures.marked in
    let marked = AreMarked-covered starts ends c.loop-i.i (length c.args.marked.now) c.loop-i.marked c.mark_runs.new.marked c.loop-i.runs c.loop-i.invariant c.mark_runs.ensures.len now in
    subst (λ m. AreMarked starts ends m (length c.args.marked.now) c.mark_runs.new.marked) done marked
