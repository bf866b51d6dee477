use Rattle.std.proofs.Common.{◌≡◌, take}
use Rattle.vx_structs.proofs.columns.names_and.Given as goal

abbrev pub invariant-loop-i : goal.invariant-loop-i
invariant-loop-i l = l.more.items ≡ take l.i l.names
