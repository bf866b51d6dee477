use Rattle.std.proofs.Common.{◌≡◌, ℕ, ◌+◌, ◌<◌}
use Rattle.vx_base.specs.Rows.{count_in}
use Rattle.vx_tree.specs.Meaning.{row_at}
use Rattle.vx_lists.specs.ListViews.{offsets_of, sizes_of}
use Rattle.vx_lists.proofs.list_view.array.ListViewArray.is_consecutive.Given as goal

abbrev pub invariant-loop-i : goal.invariant-loop-i
invariant-loop-i l = (k : ℕ) → k + 1 < l.i → count_in (row_at (offsets_of l.self) k) + count_in (row_at (sizes_of l.self) k) ≡ count_in (row_at (offsets_of l.self) (k + 1))
