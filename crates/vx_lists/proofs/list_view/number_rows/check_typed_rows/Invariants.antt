use Rattle.vx_tree.specs.Tree.{primitive, non_nullable}
use Rattle.vx_lists.proofs.ListViews.Faults.{AreChecked}
use Rattle.vx_lists.proofs.list_view.number_rows.check_typed_rows.Given as goal

abbrev pub invariant-loop-row : goal.invariant-loop-row
invariant-loop-row g l = AreChecked l.count (primitive g.O.NativePType.PTYPE l.offsets non_nullable) (primitive g.S.NativePType.PTYPE l.sizes non_nullable) l.row
