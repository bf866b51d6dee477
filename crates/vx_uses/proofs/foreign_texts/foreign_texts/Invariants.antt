use Rattle.std.proofs.Common.{◌≡◌, ◌<◌, ℕ, length, get_or, None}
use Rattle.vx_tree.specs.Meaning.{row_at}
use Rattle.vx_tree.specs.Values.{bytes_in}
use Rattle.vx_uses.specs.ForeignTexts.{text_bytes}
use Rattle.vx_uses.proofs.foreign_texts.foreign_texts.Given as goal

abbrev pub invariant-loop-row : goal.invariant-loop-row
invariant-loop-row l = record {
  len : length l.found.items ≡ l.row;
  each : (i : ℕ) → i < l.row → text_bytes (get_or l.found.items i None) ≡ bytes_in (row_at l.column-inside.array i);
}
