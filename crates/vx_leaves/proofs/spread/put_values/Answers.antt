use Rattle.std.proofs.Common.{◌≡◌, ◌+◌, ◌-◌, ◌*◌, ◌∙◌, ap, arith}
use Rattle.std.specs.Prelude.{slice_range}
use Rattle.vx_base.specs.Integers.{byte_width}
use Rattle.vx_leaves.proofs.NumbersPlaced.{values_put, taken_room}
use Rattle.vx_leaves.proofs.spread.put_values.Goals as goal

pub overflow_mul-source : goal.overflow_mul-source
overflow_mul-source c =
    let room = taken_room c.args.ptype c.args.values.now c.args.next 0 c.number_count-count.result c.min-first.result 0 c.byte_width-width.result
    c.byte_width-width.ensures c.number_count-count.ensures (omega (arith, c.min-first.ensures)) (omega arith) in
    omega (arith, room.0)

pub overflow_mul-source-2 : goal.overflow_mul-source-2
overflow_mul-source-2 c =
    let room = taken_room c.args.ptype c.args.values.now c.args.next (c.args.run.1 - c.args.run.0) c.number_count-count.result c.min-first.result c.min-taken.result c.byte_width-width.result
    c.byte_width-width.ensures c.number_count-count.ensures (omega (arith, c.min-first.ensures)) (omega (arith, c.min-taken.ensures)) in
    omega (arith, room.1)

pub slice_bounds-source-end : goal.slice_bounds-source-end
slice_bounds-source-end c =
    let room = taken_room c.args.ptype c.args.values.now c.args.next (c.args.run.1 - c.args.run.0) c.number_count-count.result c.min-first.result c.min-taken.result c.byte_width-width.result
    c.byte_width-width.ensures c.number_count-count.ensures (omega (arith, c.min-first.ensures)) (omega (arith, c.min-taken.ensures)) in
    omega (arith, room.1)

pub returns-clause-numbers : goal.returns-clause-numbers
returns-clause-numbers c = λ k.
    let t = c.args.ptype in
    let vs = c.args.values.now in
    let run = c.args.run in
    let wide : c.byte_width-width.result ≡ byte_width t = c.byte_width-width.ensures in
    let first = c.min-first.result in
    let taken = c.min-taken.result in
    let size : (run.0 + taken) * c.byte_width-width.result - run.0 * c.byte_width-width.result ≡ taken * c.byte_width-width.result = omega arith in
    values_put t c.args.out.now vs c.copy_from_slice.new.self run (run.0 * c.byte_width-width.result) ((run.0 + taken) * c.byte_width-width.result - run.0 * c.byte_width-width.result) c.args.next first taken
    c.requires.order c.requires.room (omega (arith, c.min-first.ensures, c.number_count-count.ensures)) (omega (arith, c.min-taken.ensures, c.number_count-count.ensures))
    (ap (λ w. run.0 * w) wide) (size ∙ ap (λ w. taken * w) wide) (c.copy_from_slice.ensures.after ∙ ap (λ w. slice_range vs (first * w) ((first + taken) * w)) wide) k
