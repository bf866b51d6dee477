use Rattle.std.proofs.Common.{◌+◌, get_or}
use Rattle.vx_lists.specs.ListViews.CountBytes.{counts_of}
use Rattle.vx_lists.specs.ListViews.References.{AreBounds}
use Rattle.vx_lists.proofs.list_view.number_rows.typed_bounds.Given as goal

abbrev pub invariant-loop-row : goal.invariant-loop-row
invariant-loop-row g l = AreBounds (λ i. get_or (counts_of g.O.NativePType.PTYPE l.offsets) i 0) (λ i. get_or (counts_of g.O.NativePType.PTYPE l.offsets) i 0 + get_or (counts_of g.S.NativePType.PTYPE l.sizes) i 0) l.row l.least l.greatest
