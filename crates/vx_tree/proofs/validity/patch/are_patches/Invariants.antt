use Rattle.std.specs.Prelude.{◌≡◌, None, IsTrue}
use Rattle.vx_base.specs.Refusals.{first_fault}
use Rattle.vx_tree.specs.Tree.{primitive, non_nullable}
use Rattle.vx_tree.specs.Meaning.{row_at}
use Rattle.vx_tree.specs.Patches.{patch_row_fault}
use Rattle.vx_tree.proofs.validity.patch.are_patches.Given as goal

abbrev pub invariant-loop-row : goal.invariant-loop-row
invariant-loop-row g l = IsTrue l.are_all → first_fault (λ i. patch_row_fault l.offset l.len i (row_at (primitive g.T.NativePType.PTYPE l.bytes non_nullable) i)) l.row ≡ None
