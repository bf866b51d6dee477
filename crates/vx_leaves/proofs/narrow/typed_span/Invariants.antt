use Rattle.std.proofs.Common.{length, take}
use Rattle.vx_base.specs.Integers.{numbers}
use Rattle.vx_leaves.specs.Narrow.{IsSpan, kept}
use Rattle.vx_leaves.proofs.RunRows.{start_of}
use Rattle.vx_leaves.proofs.narrow.typed_span.Given as goal

-- of the numbers before the next run
abbrev pub invariant-loop-run : goal.invariant-loop-run
invariant-loop-run g l =
    IsSpan g.T.NativePType.PTYPE (kept (take (start_of (length l.mask) l.run-items l.run-index) l.mask) (take (start_of (length l.mask) l.run-items l.run-index) (numbers g.T.NativePType.PTYPE l.bytes)))
    (g.T.Number.value l.span.0) (g.T.Number.value l.span.1)
