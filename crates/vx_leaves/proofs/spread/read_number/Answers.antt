use Rattle.std.proofs.Common.{◌≡◌, ap, ◌∙◌}
use Rattle.vx_base.specs.Integers.{byte_width}
use Rattle.vx_leaves.proofs.SpreadRows.{value_read}
use Rattle.vx_leaves.proofs.spread.read_number.Goals as goal

pub returns : goal.returns
returns g c =
    let t = g.T.NativePType.PTYPE in
    let width = c.byte_width-width.result in
    let wide : width ≡ byte_width t = c.byte_width-width.ensures ∙ ap byte_width c.PTYPE.ensures in
    value_read t c.args.bytes.now c.args.i width _ wide c.requires c.get_le.ensures.value
