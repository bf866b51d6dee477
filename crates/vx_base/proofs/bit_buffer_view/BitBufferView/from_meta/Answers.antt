use Rattle.std.proofs.Common.{◌/◌, length, refl}
use Rattle.std.specs.Prelude.{slice_range}
use Rattle.vx_base.proofs.PackedBits.{unpacked_dropped}
use Rattle.vx_base.proofs.bit_buffer_view.BitBufferView.from_meta.Goals as goal

pub returns : goal.returns
returns c =
    let bytes = c.args.bytes.now in
    let from = c.args.meta.offset in
    unpacked_dropped bytes (slice_range bytes (from / 8) (length bytes)) from c.args.meta.len c.requires.in_bounds refl
