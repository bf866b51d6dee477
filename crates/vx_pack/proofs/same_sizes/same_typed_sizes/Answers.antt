use Rattle.std.proofs.Common.{◌≡◌, ◌≤◌, ◌∙◌, below_more, length, refl, sym, ap, arith}
use Rattle.vx_base.specs.Integers.{numbers}
use Rattle.vx_pack.proofs.SameJoined.{counts_same}
use Rattle.vx_pack.proofs.same_sizes.same_typed_sizes.Goals as goal

pub loop-i-preserved : goal.loop-i-preserved
loop-i-preserved g c =
    below_more _ _ c.loop-i.invariant (sym c.count_of_bytes.ensures ∙ c.if-count_of_bytes.false ∙ c.count_of_bytes-in-loop-i.ensures)

pub returns : goal.returns
returns g c =
    let t = g.A.NativePType.PTYPE in
    let u = g.B.NativePType.PTYPE in
    let xs = c.args.a.now in
    let all : length (numbers t xs) ≤ c.loop-i.i =
    omega (arith, c.loop-i-test.false, c.number_count-i-end.ensures, ap (λ p. length (numbers p xs)) c.PTYPE.ensures) in
    ((λ yes. counts_same t u xs c.args.b.now c.loop-i.i c.requires.same_len all c.loop-i.invariant), (λ same. refl))
