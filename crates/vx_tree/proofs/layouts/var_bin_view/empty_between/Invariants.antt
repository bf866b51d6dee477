use Rattle.std.proofs.Common.{take}
use Rattle.vx_tree.proofs.RunViews.{IsEmptied}
use Rattle.vx_tree.proofs.layouts.var_bin_view.empty_between.Given as goal

abbrev pub invariant-loop-run : goal.invariant-loop-run
invariant-loop-run l = IsEmptied l.at (take l.run-index l.runs) l.fn.views l.views
