use Rattle.std.proofs.Common.{◌≡◌, ◌<◌, ◌≤◌, ℕ}
use Rattle.std.specs.Prelude.{None, IsTrue}
use Rattle.vx_base.specs.Integers.{numbers, number_nth}
use Rattle.vx_base.specs.Rows.{whole}
use Rattle.vx_tree.specs.Faults.{index_fault}
use Rattle.vx_leaves.proofs.code_checks.are_all_positions.Given as goal

abbrev pub invariant-loop-row : goal.invariant-loop-row
invariant-loop-row g l = IsTrue l.are_all → (i : ℕ) → l.fn.rows.start ≤ i → i < l.row → index_fault l.len i (whole (number_nth (numbers g.T.NativePType.PTYPE l.bytes) i)) ≡ None
