use Rattle.std.proofs.Common.{length}
use Rattle.vx_leaves.specs.Dictionaries.{AreNamed}
use Rattle.vx_leaves.proofs.code_scan.mark_rows.Given as goal

abbrev pub invariant-loop-row : goal.invariant-loop-row
invariant-loop-row l = AreNamed l.codes l.row (length l.out) l.referenced l.out
