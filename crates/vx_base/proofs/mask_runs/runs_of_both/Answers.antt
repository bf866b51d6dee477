use Rattle.std.proofs.Common.{◌≤◌, ◌⊎◌, inl, inr, length}
use Rattle.vx_base.proofs.SharedRuns.{IsMet-none, IsMet-more_left, IsMet-more_right, IsMet-all}
use Rattle.vx_base.proofs.mask_runs.runs_of_both.Goals as goal
use Rattle.vx_base.proofs.mask_runs.runs_of_both.Goals.{then-loop-i-test+else-j-right, else-loop-i-test}

pub loop-i-init : goal.loop-i-init
loop-i-init c = IsMet-none c.args.len c.args.left.now c.args.right.now c.in_ok-runs.runs.items c.in_ok-runs.ensures.items

pub loop-i-preserved-then-one-other : goal.loop-i-preserved-then-one-other
loop-i-preserved-then-one-other c =
    IsMet-more_left c.args.len c.args.left.now c.args.right.now c.loop-i.i c.loop-i.j c.loop-i.runs.items c.push_shared.new.runs.items (0, 0) c.requires.left c.requires.right
    c.loop-i-test.true c.if-j-right.true c.if-one-other.true c.loop-i.invariant c.in_ok-push_shared.ensures.apart c.in_ok-push_shared.ensures.rows

pub loop-i-preserved : goal.loop-i-preserved
loop-i-preserved c =
    IsMet-more_right c.args.len c.args.left.now c.args.right.now c.loop-i.i c.loop-i.j c.loop-i.runs.items c.push_shared.new.runs.items (0, 0) c.requires.left c.requires.right
    c.loop-i-test.true c.if-j-right.true c.if-one-other.false c.loop-i.invariant c.in_ok-push_shared.ensures.apart c.in_ok-push_shared.ensures.rows

pub returns-clause-apart : goal.returns-clause-apart
returns-clause-apart c =
    let end : (length c.args.left.now ≤ c.loop-i.i) ⊎ (length c.args.right.now ≤ c.loop-i.j) = elim c.loop-i-test.branch [
      | then-loop-i-test+else-j-right w ↦ inr w.if-j-right.false
      | else-loop-i-test w ↦ inl w.loop-i-test.false
    ] in
    (IsMet-all c.args.len c.args.left.now c.args.right.now c.loop-i.i c.loop-i.j c.loop-i.runs.items end c.loop-i.invariant).0

pub returns-clause-rows : goal.returns-clause-rows
returns-clause-rows c =
    let end : (length c.args.left.now ≤ c.loop-i.i) ⊎ (length c.args.right.now ≤ c.loop-i.j) = elim c.loop-i-test.branch [
      | then-loop-i-test+else-j-right w ↦ inr w.if-j-right.false
      | else-loop-i-test w ↦ inl w.loop-i-test.false
    ] in
    (IsMet-all c.args.len c.args.left.now c.args.right.now c.loop-i.i c.loop-i.j c.loop-i.runs.items end c.loop-i.invariant).1
