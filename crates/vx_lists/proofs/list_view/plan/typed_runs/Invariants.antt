use Rattle.std.specs.List.{flat_map}
use Rattle.vx_base.specs.Selections.{run_positions}
use Rattle.vx_lists.specs.ListViews.CountBytes.{counts_of}
use Rattle.vx_lists.proofs.ListViews.PlannedRows.{ArePushed}
use Rattle.vx_lists.proofs.list_view.plan.typed_runs.Given as goal

abbrev pub invariant-loop-row : goal.invariant-loop-row
invariant-loop-row g l = ArePushed (counts_of g.O.NativePType.PTYPE l.offsets) (counts_of g.S.NativePType.PTYPE l.sizes) l.row (flat_map run_positions l.runs.items) l.start l.end
