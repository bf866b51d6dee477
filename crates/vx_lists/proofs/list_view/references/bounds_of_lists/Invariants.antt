use Rattle.std.proofs.Common.{◌+◌}
use Rattle.vx_base.specs.Rows.{count_in}
use Rattle.vx_tree.specs.Meaning.{row_at}
use Rattle.vx_lists.specs.ListViews.References.{AreBounds}
use Rattle.vx_lists.proofs.list_view.references.bounds_of_lists.Given as goal

abbrev pub invariant-loop-i : goal.invariant-loop-i
invariant-loop-i l = AreBounds (λ i. count_in (row_at l.offsets i)) (λ i. count_in (row_at l.offsets i) + count_in (row_at l.sizes i)) l.i l.least l.greatest
