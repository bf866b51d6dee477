use Rattle.std.proofs.Common.{◌-◌, ◌<◌, length, arith}
use Rattle.vx_base.proofs.Runs.{in_run}
use Rattle.vx_base.proofs.number_runs.extend_run.Goals as goal

pub overflow_sub-numbers : goal.overflow_sub-numbers
overflow_sub-numbers g c =
    let first = in_run (λ k. k < length c.args.numbers.now) (c.args.start, c.args.end) c.args.start c.requires.within (omega arith) c.if-start-end.true in
    omega (arith, first)

pub offset_bounds-numbers-start : goal.offset_bounds-numbers-start
offset_bounds-numbers-start g c =
    let first = in_run (λ k. k < length c.args.numbers.now) (c.args.start, c.args.end) c.args.start c.requires.within (omega arith) c.if-start-end-2.true in
    omega (arith, first)

pub slice_bounds-as_flattened-end-then-start-end-2 : goal.slice_bounds-as_flattened-end-then-start-end-2
slice_bounds-as_flattened-end-then-start-end-2 g c =
    let last = in_run (λ k. k < length c.args.numbers.now) (c.args.start, c.args.end) (c.args.end - 1) c.requires.within (omega (arith, c.if-start-end-2.true)) (omega (arith, c.if-start-end-2.true)) in
    omega (arith, last)
