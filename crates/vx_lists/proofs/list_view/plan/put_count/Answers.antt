use Rattle.std.proofs.Common.{◌≡◌, ◌+◌, ◌*◌, ◌-◌, refl, ◌∙◌, ap}
use Rattle.std.specs.Prelude.{pos}
use Rattle.vx_base.specs.Integers.{byte_width, bytes_of}
use Rattle.vx_base.proofs.Positions.{signed_position}
use Rattle.vx_lists.proofs.ListViews.CountBytes.{count_put}
use Rattle.vx_lists.proofs.list_view.plan.put_count.Goals as goal

pub returns-clause-numbers : goal.returns-clause-numbers
returns-clause-numbers g c =
    let t = g.T.NativePType.PTYPE in
    let width = c.byte_width-width.result in
    let i = c.args.i in
    let n = c.args.count in
    let wide : width ≡ byte_width t = c.byte_width-width.ensures ∙ ap byte_width c.PTYPE.ensures in
    let written : c.put_int.new.out ≡ bytes_of t (pos n) = c.put_int.ensures ∙ rw (c.PTYPE-2.ensures, signed_position n c.ranges.count.fits) refl in
    count_put t c.args.out.now c.put_int.new.out width i (i * width + width - i * width) n wide written c.requires.room c.requires.holds
