use Rattle.std.specs.Prelude.{◌≡◌, None}
use Rattle.vx_base.specs.Refusals.{first_fault}
use Rattle.vx_tree.specs.Operations.{masked_numbers}
use Rattle.vx_tree.specs.Meaning.{row_at}
use Rattle.vx_tree.specs.Faults.{index_fault}
use Rattle.vx_tree.proofs.indices.masked.check_each_valid.Given as goal

abbrev pub invariant-loop-row : goal.invariant-loop-row
invariant-loop-row g l = first_fault (λ i. index_fault l.len i (row_at (masked_numbers g.T.NativePType.PTYPE l.bytes l.valid.bits) i)) l.row ≡ None
