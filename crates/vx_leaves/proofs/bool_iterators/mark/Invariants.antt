use Rattle.std.proofs.Common.{◌<◌, length}
use Rattle.std.specs.Prelude.{All}
use Rattle.vx_leaves.specs.Iterated.{AreMarked}
use Rattle.vx_leaves.proofs.bool_iterators.mark.Given as goal

abbrev pub invariant-loop-index : goal.invariant-loop-index
invariant-loop-index g l = record {
  below : All (λ i. i < length l.fn.bits) l.yielded;
  marked : AreMarked (length l.fn.bits) l.yielded l.bits;
}
