use Rattle.std.proofs.Common.{◌*◌, ◌<◌, ◌^◌, map, replicate, unsigned_abs, arith}
use Rattle.vx_base.specs.Integers.{numbers}
use Rattle.vx_base.proofs.SizedLists.{size_fits}
use Rattle.vx_base.proofs.selection.lists_of.Goals as goal

pub overflow_mul-result : goal.overflow_mul-result
overflow_mul-result c =
    let ps = replicate c.in-ListRepeated.len c.in-ListRepeated.position in
    let fits : c.in-ListRepeated.whole * c.args.size < 2 ^ 64 = size_fits c.in-ListRepeated.whole c.args.size ps (rw c.in-ListRepeated.is at c.requires.within) (rw c.in-ListRepeated.is at c.requires.some) in
    omega (arith, fits)

pub overflow_mul-result-in-ListsAt : goal.overflow_mul-result-in-ListsAt
overflow_mul-result-in-ListsAt c =
    let fits : c.in-ListsAt.whole * c.args.size < 2 ^ 64 = size_fits c.in-ListsAt.whole c.args.size c.in-ListsAt.positions.now (rw c.in-ListsAt.is at c.requires.within) (rw c.in-ListsAt.is at c.requires.some) in
    omega (arith, fits)

pub overflow_mul-result-in-ListsAtNumbers : goal.overflow_mul-result-in-ListsAtNumbers
overflow_mul-result-in-ListsAtNumbers c =
    let ps = map unsigned_abs (numbers c.in-ListsAtNumbers.ptype c.in-ListsAtNumbers.bytes.now) in
    let fits : c.in-ListsAtNumbers.whole * c.args.size < 2 ^ 64 = size_fits c.in-ListsAtNumbers.whole c.args.size ps (rw c.in-ListsAtNumbers.is at c.requires.within) (rw c.in-ListsAtNumbers.is at c.requires.some) in
    omega (arith, fits)
