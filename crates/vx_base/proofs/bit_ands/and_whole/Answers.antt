use Rattle.std.proofs.Common.{arith}
use Rattle.vx_base.proofs.Packing.{and_parts, and_parts-len}
use Rattle.vx_base.proofs.bit_ands.and_whole.Goals as goal

pub returns-clause-len : goal.returns-clause-len
returns-clause-len c =
    rw (c.in_ok-extend_both-2.ensures, c.in_ok-extend_both.ensures, c.in_ok-bytes.ensures.items)
    (and_parts-len c.args.left.now c.args.right.now c.min-first.result c.args.count (omega (arith, c.min-first.ensures)) c.requires.left c.requires.right)

pub returns-clause-bits : goal.returns-clause-bits
returns-clause-bits c =
    rw (c.in_ok-extend_both-2.ensures, c.in_ok-extend_both.ensures, c.in_ok-bytes.ensures.items)
    (and_parts c.args.left.now c.args.right.now c.min-first.result c.args.count (omega (arith, c.min-first.ensures)) c.requires.left c.requires.right)
