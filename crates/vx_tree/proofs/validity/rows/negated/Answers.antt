use Rattle.std.proofs.Common.{◌≤◌, ◌+◌, ◌*◌, length, take, ap, ◌∙◌, arith}
use Rattle.std.proofs.lemmas.Grind.{div_ceil_times}
use Rattle.vx_base.proofs.Refused.{Gives-weaker}
use Rattle.vx_views.proofs.Padding.{bytes-take}
use Rattle.vx_tree.proofs.Turned.{unpacked_turned}
use Rattle.vx_tree.proofs.validity.rows.negated.Goals as goal

pub returns : goal.returns
returns c =
    let from = c.into_inner-offset.result.0 in
    let len = c.into_inner-offset.result.1 in
    let bs = c.into_inner-offset.result.2 in
    let n = c.div_ceil.result in
    let cs = take n c.as_slice.result.now in
    let whole = div_ceil_times (from + len) 8 (omega arith) in
    let room : from + len ≤ 8 * n = omega (arith, whole, c.div_ceil.ensures) in
    let short : n ≤ length bs = omega (arith, whole, c.div_ceil.ensures, c.into_inner-offset.ensures.in_bounds) in
    let other = c.in_ok-negated-2.ensures ∙ c.in_ok-negated.ensures in
    Gives-weaker c.new_with_offset.result _ _
    (λ b h. h ∙ unpacked_turned bs cs c.in_ok-negated-2.negated c.args.bits.bits from len n c.into_inner-offset.ensures.bits room short (ap (take n) c.as_slice.ensures.value) (bytes-take n c.as_slice.result.now c.as_slice.ensures.bytes) other)
    c.new_with_offset.ensures.bits
