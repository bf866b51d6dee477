use Rattle.std.proofs.Common.{subst, arith}
use Rattle.std.specs.List.{All}
use Rattle.vx_tree.specs.Fitting.{AllFormed}
use Rattle.vx_c.proofs.ColumnRuns.{run-next, run-all, stops_at}
use Rattle.vx_c.proofs.running.results_of.Goals as goal

pub returns-in-Err-clause-err : goal.returns-in-Err-clause-err
returns-in-Err-clause-err c =
    let formed = subst (All AllFormed) c.deref-in-Err.ensures.value c.all_formed.ensures in
    stops_at c.args.steps.now c.loop-i.i c.index-steps-i.result c.args.arrays.items c.loop-i.arrays.items c.deref.result.now c.in-Err.error
    c.loop-i.invariant.0 c.loop-i-test.true c.index-steps-i.is c.deref.ensures.value formed c.in-Err.ensures.err

pub loop-i-preserved : goal.loop-i-preserved
loop-i-preserved c = (
  run-next c.args.steps.now c.loop-i.i c.index-steps-i.result c.args.arrays.items c.loop-i.arrays.items c.deref.result.now
      c.push_reserved.new.self.items c.in-Ok.array c.loop-i.invariant.0 c.loop-i-test.true c.index-steps-i.is c.deref.ensures.value
      c.in-Ok.ensures.ok c.push_reserved.ensures.items,
  omega (arith, c.push_reserved.ensures.len, c.push_reserved.ensures.capacity, c.loop-i.invariant.1),
)

pub returns-clause-ok : goal.returns-clause-ok
returns-clause-ok c = run-all c.args.steps.now c.loop-i.i c.args.arrays.items c.loop-i.arrays.items c.loop-i.invariant.0 c.loop-i-test.false
