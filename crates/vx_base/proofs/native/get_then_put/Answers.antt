use Rattle.std.proofs.Common.{ap, ◌∙◌}
use Rattle.vx_base.specs.Integers.{bytes_of}
use Rattle.vx_base.proofs.NumberBytes.{bytes_of-number_of}
use Rattle.vx_base.proofs.native.get_then_put.Goals as goal

pub returns : goal.returns
returns g c =
    let t = g.T.NativePType.PTYPE in
    c.put_le.ensures.bytes ∙ ap (bytes_of t) c.get_le.ensures.value
    ∙ bytes_of-number_of t c.args.bytes.now (c.requires.bytes ∙ g.met.T.NativePType.width_law) (λ i. (c.type_inv.bytes i).fits)
