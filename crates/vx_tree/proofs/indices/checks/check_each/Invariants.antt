use Rattle.std.specs.Prelude.{◌≡◌, None}
use Rattle.vx_base.specs.Refusals.{first_fault}
use Rattle.vx_tree.specs.Tree.{primitive, non_nullable}
use Rattle.vx_tree.specs.Meaning.{row_at}
use Rattle.vx_tree.specs.Faults.{index_fault}
use Rattle.vx_tree.proofs.indices.checks.check_each.Given as goal

abbrev pub invariant-loop-row : goal.invariant-loop-row
invariant-loop-row g l = first_fault (λ i. index_fault l.len i (row_at (primitive g.T.NativePType.PTYPE l.bytes non_nullable) i)) l.row ≡ None
