use Rattle.std.proofs.Common.{◌≡◌, ◌++◌, take}
use Rattle.vx_tree.proofs.read.append_each.Given as goal

abbrev pub invariant-loop-i : goal.invariant-loop-i
invariant-loop-i l = l.bits ≡ l.fn.bits ++ take l.i l.more.bits
