use Rattle.std.proofs.Common.{◌/◌, slice_range, ap, ◌∙◌}
use Rattle.vx_base.specs.Bits.{bits_of}
use Rattle.vx_base.proofs.PackedBits.{unpacked_dropped}
use Rattle.vx_base.proofs.bit_buffer.BitBuffer.new_with_offset.Goals as goal

pub returns-clause-bits : goal.returns-clause-bits
returns-clause-bits c =
    ap bits_of c.from_parts.ensures ∙ unpacked_dropped c.args.bytes c.in_ok-bytes.bytes c.args.offset c.args.len c.requires.in_bounds
    (c.in_ok-bytes.ensures ∙ ap (slice_range c.args.bytes (c.args.offset / 8)) c.len.ensures.value)
