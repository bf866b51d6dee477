use Rattle.std.proofs.Common.{◌≡◌, ◌<◌, ◌≤◌, ◌-◌, ℕ}
use Rattle.std.specs.Prelude.{None}
use Rattle.vx_tree.specs.Faults.{index_fault}
use Rattle.vx_tree.specs.Meaning.{row_at}
use Rattle.vx_tree.specs.Operations.{masked_numbers}
use Rattle.vx_leaves.proofs.code_checks.typed_faultless_rows.Given as goal

-- no row before this one has a fault
abbrev pub invariant-loop-row : goal.invariant-loop-row
invariant-loop-row g l = record {
  within : l.row ≤ l.count;
  none : (i : ℕ) → i < l.row → index_fault l.len i (row_at (masked_numbers g.T.NativePType.PTYPE l.bytes l.valid) i) ≡ None;
}

abbrev pub decreases-loop-row : goal.decreases-loop-row
decreases-loop-row g l = l.count - l.row
