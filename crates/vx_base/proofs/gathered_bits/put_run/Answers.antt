use Rattle.std.proofs.Common.{◌-◌, ◌<◌, length, arith}
use Rattle.std.proofs.lemmas.List.FromFn.{length-range_with_len}
use Rattle.vx_base.proofs.Filling.{run_written, run_of_none}
use Rattle.vx_base.proofs.Runs.{in_run}
use Rattle.vx_base.proofs.gathered_bits.put_run.Goals as goal

pub overflow_add-next : goal.overflow_add-next
overflow_add-next c = omega (arith, c.requires.fits, length-range_with_len c.args.run.0 (c.args.run.1 - c.args.run.0))

pub put_last-requires-clause-source : goal.put_last-requires-clause-source
put_last-requires-clause-source c =
    let last = in_run (λ k. k < length c.args.bits.now.bits) c.args.run (c.args.run.1 - 1) c.requires.within (omega arith) (omega arith) in
    omega arith

pub put_last-requires-clause-room : goal.put_last-requires-clause-room
put_last-requires-clause-room c = omega (arith, c.requires.room, length-range_with_len c.args.run.0 (c.args.run.1 - c.args.run.0))

pub returns-then-end-start-clause-place : goal.returns-then-end-start-clause-place
returns-then-end-start-clause-place c = omega (arith, length-range_with_len c.args.run.0 (c.args.run.1 - c.args.run.0))

pub returns-then-end-start-clause-bits : goal.returns-then-end-start-clause-bits
returns-then-end-start-clause-bits c = run_of_none c.args.bits.now.bits c.args.out.now c.args.run c.args.at (omega arith)

pub returns-clause-place : goal.returns-clause-place
returns-clause-place c = omega (arith, length-range_with_len c.args.run.0 (c.args.run.1 - c.args.run.0))

pub returns-clause-bits : goal.returns-clause-bits
returns-clause-bits c = run_written c.args.bits.now.bits c.args.out.now c.put_last.new.bytes c.args.run c.args.at c.put_last.ensures.before c.put_last.ensures.written
