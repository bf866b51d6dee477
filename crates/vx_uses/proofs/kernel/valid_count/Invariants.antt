use Rattle.std.proofs.Common.{◌≡◌, ◌≤◌, take}
use Rattle.std.specs.List.{count_by}
use Rattle.vx_base.specs.Rows.{is_present}
use Rattle.vx_tree.specs.Meaning.{rows}
use Rattle.vx_uses.proofs.kernel.valid_count.Given as goal

abbrev pub invariant-loop-i : goal.invariant-loop-i
invariant-loop-i l = record { counted : l.count ≡ count_by is_present (take l.i (rows l.column)); below : l.count ≤ l.i }
