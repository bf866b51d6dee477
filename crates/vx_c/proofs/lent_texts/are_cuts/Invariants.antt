use Rattle.std.proofs.Common.{◌≡◌, ◌-◌, pos, length}
use Rattle.vx_base.specs.Integers.{numbers}
use Rattle.vx_views.specs.Utf8.{IsBoundary}
use Rattle.vx_c.specs.Spans.{past_first}
use Rattle.vx_c.proofs.Spans.{AreSpansBefore}
use Rattle.vx_c.proofs.LentTexts.{AreTextsBefore}
use Rattle.vx_c.proofs.lent_texts.are_cuts.Given as goal

-- what lies between the offsets so far, and how far the last of them lies past the first
abbrev pub invariant-loop-row : goal.invariant-loop-row
invariant-loop-row g l =
    let offsets = numbers g.P.NativePType.PTYPE l.offsets in
    record {
      last : past_first offsets (l.row - 1) ≡ pos l.start;
      boundary : IsBoundary l.heap l.start;
      before : AreSpansBefore offsets (length l.heap) l.row;
      texts : AreTextsBefore offsets l.heap l.row;
    }
