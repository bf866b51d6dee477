use Rattle.std.proofs.Common.{◌≤◌, ◌*◌, length, ◌∙◌, arith}
use Rattle.vx_leaves.proofs.NarrowedRows.{room_for}
use Rattle.vx_leaves.proofs.narrow.narrowed_bytes.Goals as goal

pub overflow_mul-len : goal.overflow_mul-len
overflow_mul-len c =
    let size : c.len.result * c.byte_width.result ≤ length c.args.bytes.now = room_for c.args.from c.args.to c.args.bytes.now c.len.result c.byte_width.result (c.len.ensures ∙ c.requires.same_len) c.byte_width.ensures c.requires.narrower in
    omega (arith, size)
