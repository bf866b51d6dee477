use Rattle.std.proofs.Common.{ap, ◌∙◌}
use Rattle.vx_base.specs.Integers.{number_of}
use Rattle.vx_base.proofs.NumberBytes.{number_of-bytes_of}
use Rattle.vx_base.proofs.native.put_then_get.Goals as goal

pub returns-clause-value : goal.returns-clause-value
returns-clause-value g c =
    let t = g.T.NativePType.PTYPE in
    g.met.T.NativePType.same_law c.get_le.result c.args.number
    (c.get_le.ensures.value ∙ ap (number_of t) c.put_le.ensures.bytes ∙ number_of-bytes_of t (g.T.Number.value c.args.number) c.put_le.ensures.holds)
