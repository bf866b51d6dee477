use Rattle.std.proofs.Common.{sym, ◌∙◌, ap, take, ◌*◌, ◌+◌, ◌≤◌, arith}
use Rattle.vx_tree.proofs.PatchedBits.{unpacked_take}
use Rattle.vx_tree.proofs.validity.patched_bits.PatchedBits.copy_of.Goals as goal

pub returns : goal.returns
returns c =
    let start = c.into_inner-start.result.0 in
    let len = c.into_inner-start.result.1 in
    let end = c.div_ceil-end.result in
    let enough : start + len ≤ 8 * end = omega (arith, c.div_ceil-end.ensures) in
    unpacked_take c.into_inner-start.result.2 c.in_ok-bytes.bytes.items start len end enough (c.in_ok-bytes.ensures.items ∙ ap (take end) c.as_slice.ensures.value)
    ∙ sym c.into_inner-start.ensures.bits
