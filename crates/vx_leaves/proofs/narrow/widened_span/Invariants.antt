use Rattle.std.proofs.Common.{◌-◌, ◌++◌, List, map}
use Rattle.std.specs.Prelude.{ℤ}
use Rattle.std.specs.List.{range_with_len}
use Rattle.vx_base.specs.Integers.{numbers, number_nth}
use Rattle.vx_leaves.specs.Narrow.{IsSpan}
use Rattle.vx_leaves.proofs.narrow.widened_span.Given as goal

abbrev pub invariant-loop-row : goal.invariant-loop-row
invariant-loop-row g l = (zs : List ℤ) → IsSpan g.T.NativePType.PTYPE zs (g.T.Number.value l.fn.span.0) (g.T.Number.value l.fn.span.1)
    → IsSpan g.T.NativePType.PTYPE (zs ++ map (number_nth (numbers g.T.NativePType.PTYPE l.bytes)) (range_with_len l.fn.run.0 (l.row - l.fn.run.0))) (g.T.Number.value l.least) (g.T.Number.value l.greatest)
