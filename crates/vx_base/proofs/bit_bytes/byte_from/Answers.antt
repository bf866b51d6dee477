use Rattle.std.proofs.Common.{◌∙◌}
use Rattle.vx_base.proofs.PackedBytes.{byte_from-whole, byte_from-joined}
use Rattle.vx_base.proofs.bit_bytes.byte_from.Goals as goal

pub returns-then-shift-eq0 : goal.returns-then-shift-eq0
returns-then-shift-eq0 c =
    c.byte_or_zero-low.ensures ∙ byte_from-whole c.args.bytes.now c.args.place (λ i. (c.type_inv.bytes i).fits) c.if-shift-eq0.true

pub returns : goal.returns
returns c = rw (c.byte_or_zero-low.ensures, c.byte_or_zero.ensures) (byte_from-joined c.args.bytes.now c.args.place (λ i. (c.type_inv.bytes i).fits))
