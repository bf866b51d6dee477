use Rattle.std.proofs.Common.{◌≡◌, ◌-ℤ◌, sym, ap, ◌∙◌, to_z, of_z}
use Rattle.std.specs.Int.{w128}
use Rattle.vx_base.specs.Integers.{numbers, number_nth}
use Rattle.vx_c.proofs.Spans.{difference_passed, natural}
use Rattle.vx_c.proofs.lent_offsets.distance.Goals as goal

pub returns : goal.returns
returns g c =
    let zs = numbers g.P.NativePType.PTYPE c.args.offsets.now in
    let here = c.int_at.result in
    let first = c.int_at-2.result in
    let here_is : here ≡ number_nth zs c.args.row = rw c.PTYPE.ensures at c.int_at.ensures.value in
    let first_is : first ≡ number_nth zs c.args.from = rw c.PTYPE-2.ensures at c.int_at-2.ensures.value in
    let past = to_z w128 (of_z w128 (to_z w128 (of_z w128 here) -ℤ to_z w128 (of_z w128 first))) in
    ap (λ z. z -ℤ number_nth zs c.args.from) (sym here_is) ∙ ap (λ z. here -ℤ z) (sym first_is)
    ∙ sym (difference_passed g.P.NativePType.PTYPE first here (rw c.PTYPE-2.ensures at c.int_at-2.ensures.holds) (rw c.PTYPE.ensures at c.int_at.ensures.holds))
    ∙ natural past c.if-far-lt0.false
