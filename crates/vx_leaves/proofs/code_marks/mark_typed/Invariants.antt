use Rattle.std.proofs.Common.{◌≤◌, ◌-◌, length}
use Rattle.vx_tree.specs.Operations.{masked_numbers}
use Rattle.vx_leaves.specs.Dictionaries.{AreNamed}
use Rattle.vx_leaves.proofs.code_marks.mark_typed.Given as goal

-- the rows before this one are marked
abbrev pub invariant-loop-row : goal.invariant-loop-row
invariant-loop-row g l = record {
  inside : l.row ≤ l.rows.end;
  named : AreNamed (masked_numbers g.T.NativePType.PTYPE l.bytes l.valid) l.row (length l.out) l.referenced l.out;
}

abbrev pub decreases-loop-row : goal.decreases-loop-row
decreases-loop-row g l = l.rows.end - l.row
