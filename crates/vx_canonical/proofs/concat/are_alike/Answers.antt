use Rattle.std.proofs.Common.{ap, ◌∙◌}
use Rattle.std.specs.Prelude.{not}
use Rattle.vx_base.specs.DTypes.{dtype_meaning}
use Rattle.vx_base.specs.SameKind.{kind_eq}
use Rattle.vx_canonical.proofs.Concatenated.{alike-more}
use Rattle.std.proofs.Common.{arith}
use Rattle.std.proofs.lemmas.Grind.{common_steps}
use Rattle.vx_canonical.proofs.concat.are_alike.Goals as goal

pub loop-array-preserved : goal.loop-array-preserved
loop-array-preserved c =
    let k = dtype_meaning c.args.dtype.now in
    alike-more k c.args.arrays.now c.loop-array.array-index c.array-item.result c.ne.result c.loop-array-test.true c.array-item.is
    (c.ne.ensures ∙ ap (λ j. not (kind_eq j k)) c.dtype.ensures) c.if-ne.false c.loop-array.invariant

pub returns : goal.returns
returns c = grind (arith, common_steps)

pub returns-then-ne : goal.returns-then-ne
returns-then-ne c = grind (arith, common_steps)
