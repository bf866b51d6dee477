use Rattle.std.proofs.Common.{take}
use Rattle.vx_c.specs.Runs.{AreColumns}
use Rattle.vx_c.proofs.running.columns_of.Given as goal

abbrev pub invariant-loop-i : goal.invariant-loop-i
invariant-loop-i l = AreColumns (take l.i l.tables) l.columns.items
