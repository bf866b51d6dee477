use Rattle.std.proofs.Common.{◌≡◌, pos, refl, arith}
use Rattle.vx_base.specs.Integers.{number_nth}
use Rattle.vx_views.proofs.LengthFaults.{is_length, length_is, sum_next, sum_next-le, sum_fault-here}
use Rattle.vx_views.proofs.length_checks.check_exact.Goals as goal

pub unwrap-size-requires : goal.unwrap-size-requires
unwrap-size-requires g c = is_length (g.L.Lengths.numbers c.args.lengths.now) c.loop-row.row c.length_at.result c.requires (omega arith) c.length_at.ensures.negative

pub returns-then-rest-size : goal.returns-then-rest-size
returns-then-rest-size g c =
    let is : number_nth (g.L.Lengths.numbers c.args.lengths.now) c.loop-row.row ≡ pos c.unwrap-size.result = length_is (g.L.Lengths.numbers c.args.lengths.now) c.loop-row.row c.unwrap-size.result c.length_at.result c.unwrap-size.ensures c.length_at.ensures.length in
    (refl, sum_fault-here c.args.heap_len (g.L.Lengths.numbers c.args.lengths.now) (λ e. omega (arith, e, sum_next-le (g.L.Lengths.numbers c.args.lengths.now) c.loop-row.row c.unwrap-size.result is (omega arith))))

pub loop-row-preserved : goal.loop-row-preserved
loop-row-preserved g c =
    let is : number_nth (g.L.Lengths.numbers c.args.lengths.now) c.loop-row.row ≡ pos c.unwrap-size.result = length_is (g.L.Lengths.numbers c.args.lengths.now) c.loop-row.row c.unwrap-size.result c.length_at.result c.unwrap-size.ensures c.length_at.ensures.length in
    omega (arith, sum_next (g.L.Lengths.numbers c.args.lengths.now) c.loop-row.row c.unwrap-size.result is (omega arith))
