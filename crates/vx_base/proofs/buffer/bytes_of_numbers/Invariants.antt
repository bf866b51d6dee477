use Rattle.std.proofs.Common.{◌≡◌, ◌*◌, length, take, map}
use Rattle.vx_base.specs.Integers.{byte_width, numbers}
use Rattle.vx_base.proofs.buffer.bytes_of_numbers.Given as goal

abbrev pub invariant-loop-at : goal.invariant-loop-at
invariant-loop-at g l =
    let t = g.T.NativePType.PTYPE in
    let so_far = take (l.at * 128) l.items in
    (numbers t l.bytes.items ≡ map g.T.Number.value so_far) × (length l.bytes.items ≡ length so_far * byte_width t)
