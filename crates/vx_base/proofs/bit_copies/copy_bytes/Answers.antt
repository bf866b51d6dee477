use Rattle.std.proofs.Common.{◌+◌, ◌-◌, ◌*◌, ◌/◌, ◌%◌, ◌≡◌, ◌∙◌, length, ap, arith}
use Rattle.vx_base.specs.Bits.{bit_of}
use Rattle.vx_base.proofs.Filling.{written_part}
use Rattle.vx_base.proofs.PackedBits.{bit_of-drop}
use Rattle.vx_base.proofs.bit_copies.copy_bytes.Goals as goal

pub returns-else-shift-eq0-clause-written : goal.returns-else-shift-eq0-clause-written
returns-else-shift-eq0-clause-written c =
    let source = c.args.source.now in
    let from = c.args.from in
    let at = c.args.at in
    let first = c.args.first in
    let start = from + (8 * first - at) in
    written_part c.args.out.now c.join_bytes.new.out first c.args.last (λ k. bit_of source (from + (k - at))) (omega arith) (omega arith) (omega (arith, c.join_bytes.ensures.len))
    (λ k h. let place : start / 8 * 8 + (start % 8 + k) ≡ from + (8 * first + k - at) = omega arith in
    c.join_bytes.ensures.bits k (omega arith) ∙ bit_of-drop source (start / 8) (length source) (start % 8 + k) (omega arith) (omega arith) (omega arith) ∙ ap (bit_of source) place)
