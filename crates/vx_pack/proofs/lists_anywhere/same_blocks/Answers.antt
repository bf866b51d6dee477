use Rattle.std.proofs.Common.{arith}
use Rattle.vx_pack.proofs.SameElements.{both_parts}
use Rattle.vx_pack.specs.SameElements.{IsSameAt}
use Rattle.vx_pack.proofs.lists_anywhere.same_blocks.Goals as goal

pub loop-first-preserved : goal.loop-first-preserved
loop-first-preserved c = record {
  within = omega (arith, c.min-count.ensures, c.loop-first-test.true);
  same =
      both_parts (IsSameAt c.args.elements c.args.a c.args.b) c.loop-first.first c.min-count.result c.loop-first.invariant.same
      (c.same_block.ensures.0 c.if-not-same_block.false);
}
