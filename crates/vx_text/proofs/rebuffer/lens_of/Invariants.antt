use Rattle.std.proofs.Common.{◌≡◌, ◌≤◌, length, take, vec_capacity}
use Rattle.vx_text.specs.Rebuffered.{value_lens}
use Rattle.vx_text.proofs.rebuffer.lens_of.Given as goal

abbrev pub invariant-loop-row : goal.invariant-loop-row
invariant-loop-row l =
    record {
      counted : length l.lens.items ≡ l.row;
      has_room : length l.views ≤ vec_capacity l.lens;
      lens : l.lens.items ≡ value_lens l.buffers (take l.row l.views);
    }
