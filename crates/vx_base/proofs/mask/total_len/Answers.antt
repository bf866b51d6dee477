use Rattle.std.proofs.Common.{length, refl, ap, arith}
use Rattle.std.proofs.lemmas.List.{take_all}
use Rattle.vx_base.specs.Booleans.{joined}
use Rattle.vx_base.proofs.Joined.{counted, uncounted, joined_within}
use Rattle.vx_base.proofs.mask.total_len.Goals as goal

pub returns-in_default-clause-tests : goal.returns-in_default-clause-tests
returns-in_default-clause-tests c =
    let masks = c.args.masks.now in
    let within = joined_within masks c.loop-mask.mask-index c.mask-item.result c.loop-mask-test.true in
    (refl, uncounted (length (joined masks)) (omega (arith, within, ap length c.mask-item.is)))

pub returns-clause-tests : goal.returns-clause-tests
returns-clause-tests c =
    let masks = c.args.masks.now in
    let all = take_all c.loop-mask.mask-index masks (omega arith) in
    counted (length (joined masks)) (omega (arith, ap (λ ms. length (joined ms)) all))
