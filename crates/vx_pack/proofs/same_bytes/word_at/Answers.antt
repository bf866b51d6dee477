use Rattle.std.proofs.Common.{◌∙◌}
use Rattle.vx_base.proofs.Positions.{holds-below, position_of}
use Rattle.vx_base.specs.declared.ptypes.PType.TheVariants.{U64}
use Rattle.vx_pack.proofs.SameBytes.{bytes-word}
use Rattle.vx_pack.proofs.same_bytes.word_at.Goals as goal

pub returns-clause-value : goal.returns-clause-value
returns-clause-value c =
    let z = c.int_of.result in
    position_of z c.int_of.ensures.holds.0 (holds-below U64 z c.int_of.ensures.holds) ∙ c.int_of.ensures.value

pub returns-clause-bytes : goal.returns-clause-bytes
returns-clause-bytes c = bytes-word c.args.bytes.now c.args.start (λ i. (c.type_inv.bytes i).fits)
