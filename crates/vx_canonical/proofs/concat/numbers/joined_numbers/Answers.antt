use Rattle.vx_canonical.proofs.JoinedNumbers.{numbers_of_more_arrays, numbers_of_all_arrays}
use Rattle.vx_canonical.proofs.concat.numbers.joined_numbers.Goals as goal

pub loop-array-preserved : goal.loop-array-preserved
loop-array-preserved c =
    numbers_of_more_arrays c.args.ptype c.args.arrays.now c.loop-array.array-index c.array-item.result c.loop-array.joined.items c.in_ok-joined-2.joined.items c.loop-array-test.true c.array-item.is
    c.loop-array.invariant c.in_ok-joined-2.ensures

pub returns : goal.returns
returns c = numbers_of_all_arrays c.args.ptype c.args.arrays.now c.loop-array.array-index c.loop-array.joined.items c.loop-array-test.false c.loop-array.invariant
