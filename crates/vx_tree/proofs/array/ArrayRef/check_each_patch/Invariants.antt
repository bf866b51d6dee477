use Rattle.std.specs.Prelude.{◌≡◌, None}
use Rattle.vx_base.specs.Refusals.{first_fault}
use Rattle.vx_tree.specs.Meaning.{row_at}
use Rattle.vx_tree.specs.Patches.{patch_row_fault}
use Rattle.vx_tree.proofs.array.ArrayRef.check_each_patch.Given as goal

abbrev pub invariant-loop-row : goal.invariant-loop-row
invariant-loop-row l = first_fault (λ i. patch_row_fault l.offset l.len i (row_at l.self i)) l.row ≡ None
