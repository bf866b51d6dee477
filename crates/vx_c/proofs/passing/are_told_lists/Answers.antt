use Rattle.std.proofs.Common.{◌≡◌, ◌+◌, length, arith}
use Rattle.std.specs.Prelude.{◌-ℤ◌}
use Rattle.std.proofs.lemmas.List.{length-map}
use Rattle.vx_base.specs.Integers.{numbers, number_nth}
use Rattle.vx_views.specs.BuildFaults.{differences}
use Rattle.vx_views.proofs.Differences.{length_differences}
use Rattle.vx_c.specs.Spans.{starts_of}
use Rattle.vx_c.proofs.PartsMade.{lists_are}
use Rattle.vx_c.proofs.passing.are_told_lists.Goals as goal

pub returns : goal.returns
returns g c = λ told o s offsets sizes.
    let p = g.P.NativePType.PTYPE in
    let zs = numbers p c.args.starts.now in
    let ws = numbers p c.args.ends.now in
    let count : c.number_count.result ≡ length zs = rw c.PTYPE.ensures at c.number_count.ensures in
    let more : length ws ≡ c.args.len + 1 = rw c.PTYPE-2.ensures at (c.has_one_more.ensures c.if-not-has_one_more.false) in
    lists_are (starts_of zs) (differences ws) c.args.count c.args.len o s offsets sizes
    (omega (arith, length-map zs (λ z. z -ℤ number_nth zs 0), count, c.if-number_count-len.false)) (omega (arith, length_differences ws, more)) c.ranges.count.fits (c.are_lists_between.ensures told)
