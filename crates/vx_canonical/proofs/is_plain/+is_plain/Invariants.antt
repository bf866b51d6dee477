use Rattle.std.proofs.Common.{◌≡◌, true, take}
use Rattle.vx_tree.specs.Meaning.{trees_from}
use Rattle.vx_canonical.specs.PlainTests.{are_plain}
use Rattle.vx_canonical.proofs.is_plain.+is_plain.Given as goal

abbrev pub invariant-are_plain-loop-column : goal.invariant-are_plain-loop-column
invariant-are_plain-loop-column l = are_plain (trees_from (take l.column-index l.columns)) ≡ true
