use Rattle.std.proofs.Common.{◌≡◌, ◌<◌, ℕ}
use Rattle.vx_base.specs.Kinds.{Kind}
use Rattle.vx_tree.specs.Values.{bytes_in}
use Rattle.vx_pack.specs.Parts.{part_row}
use Rattle.vx_pack.proofs.same_leaves.same_each_text.Given as goal

abbrev pub invariant-loop-i : goal.invariant-loop-i
invariant-loop-i l = (k : Kind) (j : ℕ) → j < l.i → bytes_in (part_row k l.a j) ≡ bytes_in (part_row k l.b j)
