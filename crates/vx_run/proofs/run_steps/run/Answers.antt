use Rattle.std.proofs.Common.{take, arith}
use Rattle.vx_run.proofs.StepRuns.{has_run, run-next, run-all, stops_at}
use Rattle.vx_run.proofs.run_steps.run.Goals as goal

pub returns-in-Err-clause-before : goal.returns-in-Err-clause-before
returns-in-Err-clause-before c = has_run (take c.loop-i.i c.args.steps.now) c.args.arrays.items c.loop-i.arrays.items c.loop-i.invariant.0

pub returns-in-Err-clause-stops : goal.returns-in-Err-clause-stops
returns-in-Err-clause-stops c =
    stops_at c.args.steps.now c.loop-i.i c.index-steps-i.result c.loop-i.arrays.items c.deref.result.now c.in-Err.error c.loop-i-test.true
    c.index-steps-i.is c.deref.ensures.value c.in-Err.ensures.refuses

pub loop-i-preserved : goal.loop-i-preserved
loop-i-preserved c = (
  run-next c.args.steps.now c.loop-i.i c.index-steps-i.result c.args.arrays.items c.loop-i.arrays.items c.deref.result.now c.push_reserved.new.self.items
      c.in-Ok.array c.loop-i.invariant.0 c.loop-i-test.true c.index-steps-i.is c.deref.ensures.value c.in-Ok.ensures.refuses c.in-Ok.ensures.ok
      c.push_reserved.ensures.items,
  omega (arith, c.push_reserved.ensures.len, c.push_reserved.ensures.capacity, c.loop-i.invariant.1),
)

pub returns-clause-ok : goal.returns-clause-ok
returns-clause-ok c = run-all c.args.steps.now c.loop-i.i c.args.arrays.items c.loop-i.arrays.items c.loop-i.invariant.0 c.loop-i-test.false
