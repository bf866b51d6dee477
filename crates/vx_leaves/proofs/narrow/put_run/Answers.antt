use Rattle.std.proofs.Common.{◌≡◌, ◌-◌, ◌+◌, ◌*◌, ◌<◌, length, sym, ap, ◌∙◌, subst, to_z, of_z, arith}
use Rattle.std.specs.Int.{w128}
use Rattle.vx_base.specs.Integers.{byte_width, bytes_of, numbers, number_nth, Holds}
use Rattle.vx_base.proofs.NumberBytes.{number_passed}
use Rattle.vx_leaves.proofs.NumbersPlaced.{number_put, room_at}
use Rattle.vx_leaves.proofs.RunRows.{put_row}
use Rattle.vx_leaves.proofs.narrow.put_run.Goals as goal

pub loop-row-preserved : goal.loop-row-preserved
loop-row-preserved g c = λ k.
    let u = g.U.NativePType.PTYPE in
    let width = c.byte_width-width.result in
    let bs = c.args.bytes.now in
    let zs = numbers g.T.NativePType.PTYPE bs in
    let i = c.loop-row.row in
    let z = c.int_at-number.result in
    let low = c.loop-row.auto.row in
    let number : z ≡ number_nth zs i = c.int_at-number.ensures.value ∙ ap (λ t. number_nth (numbers t bs) i) c.PTYPE-in-loop-row.ensures in
    let held : Holds u z = subst (Holds u) (sym number) (c.requires.holds i low (omega arith)) in
    let wide : width ≡ byte_width u = c.byte_width-width.ensures ∙ ap byte_width c.PTYPE.ensures in
    let written : c.put_int.new.out ≡ bytes_of u z = c.put_int.ensures ∙ ap (λ t. bytes_of t (to_z w128 (of_z w128 z))) c.PTYPE-in-loop-row-2.ensures ∙ ap (bytes_of u) (number_passed u z held) in
    let inside : i < length (numbers u c.loop-row.out) = room_at u c.loop-row.out i c.args.run.1 (omega arith) (omega (arith, c.requires.room, c.loop-row.auto.out)) in
    put_row c.args.run.0 i k (number_nth zs k) (number_nth (numbers u c.args.out.now) k) (number_nth (numbers u c.loop-row.out) k) _ low (c.loop-row.invariant k)
    (number_put u c.loop-row.out c.put_int.new.out zs (i * width) (i * width + width - i * width) i z (ap (λ w. i * w) wide) (omega (arith, wide)) written held number inside k)
