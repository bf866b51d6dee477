use Rattle.std.proofs.Common.{◌≡◌, ◌-◌, ◌+◌, ◌*◌, ap, ◌∙◌}
use Rattle.vx_base.specs.Integers.{byte_width}
use Rattle.vx_leaves.proofs.NumbersPut.{put_after}
use Rattle.vx_leaves.proofs.number_bytes.put_number.Goals as goal

pub returns-clause-put : goal.returns-clause-put
returns-clause-put g c =
    let t = g.T.NativePType.PTYPE in
    let width = c.byte_width-width.result in
    let wide : width ≡ byte_width t = c.byte_width-width.ensures ∙ ap byte_width c.PTYPE.ensures in
    put_after t c.args.out.now c.put_le.new.out width c.args.row (c.args.row * width + width - c.args.row * width) (g.T.Number.value c.args.number) wide c.put_le.ensures.bytes c.put_le.ensures.holds c.requires
