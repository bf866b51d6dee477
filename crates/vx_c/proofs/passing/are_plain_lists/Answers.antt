use Rattle.std.proofs.Common.{◌≡◌, length, arith}
use Rattle.vx_base.specs.Integers.{numbers}
use Rattle.vx_c.proofs.PartsMade.{plain_numbers, lists_are}
use Rattle.vx_c.proofs.passing.are_plain_lists.Goals as goal

pub returns : goal.returns
returns g c = λ told o s offsets sizes.
    let p = g.P.NativePType.PTYPE in
    let zs = numbers p c.args.offsets.now in
    let ws = numbers p c.args.sizes.now in
    let starts : c.number_count.result ≡ length zs = rw c.PTYPE.ensures at c.number_count.ensures in
    let has : c.number_count-2.result ≡ length ws = rw c.PTYPE-2.ensures at c.number_count-2.ensures in
    lists_are zs ws c.args.count c.args.len o s (plain_numbers p c.args.offsets.now o offsets) (plain_numbers p c.args.sizes.now s sizes)
    (omega (arith, starts, c.if-number_count-len.false)) (omega (arith, has, c.if-number_count-len-2.false)) c.ranges.count.fits (c.are_list_rows.ensures told)
