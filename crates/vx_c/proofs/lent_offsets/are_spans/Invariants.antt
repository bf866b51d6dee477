use Rattle.std.proofs.Common.{◌≡◌, ◌-◌, pos}
use Rattle.vx_base.specs.Integers.{numbers}
use Rattle.vx_c.specs.Spans.{past_first}
use Rattle.vx_c.proofs.Spans.{AreSpansBefore}
use Rattle.vx_c.proofs.lent_offsets.are_spans.Given as goal

-- what lies between the offsets so far, and how far the last of them lies past the first
abbrev pub invariant-loop-row : goal.invariant-loop-row
invariant-loop-row g l =
    let offsets = numbers g.P.NativePType.PTYPE l.offsets in
    record {
      last : past_first offsets (l.row - 1) ≡ pos l.start;
      before : AreSpansBefore offsets l.count l.row;
    }
