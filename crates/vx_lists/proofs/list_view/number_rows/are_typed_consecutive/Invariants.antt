use Rattle.std.proofs.Common.{◌≡◌, ℕ, ◌+◌, ◌<◌}
use Rattle.vx_base.specs.Rows.{count_in}
use Rattle.vx_tree.specs.Meaning.{row_at}
use Rattle.vx_tree.specs.Tree.{primitive, non_nullable}
use Rattle.vx_lists.proofs.list_view.number_rows.are_typed_consecutive.Given as goal

abbrev pub invariant-loop-row : goal.invariant-loop-row
invariant-loop-row g l = (k : ℕ) → k + 1 < l.row
    → count_in (row_at (primitive g.O.NativePType.PTYPE l.offsets non_nullable) k) + count_in (row_at (primitive g.S.NativePType.PTYPE l.sizes non_nullable) k)
    ≡ count_in (row_at (primitive g.O.NativePType.PTYPE l.offsets non_nullable) (k + 1))
