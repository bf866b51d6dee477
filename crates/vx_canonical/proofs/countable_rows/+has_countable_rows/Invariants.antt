use Rattle.std.proofs.Common.{◌≡◌, drop}
use Rattle.vx_tree.specs.Meaning.{trees_from}
use Rattle.vx_canonical.specs.Counted.{columns_rows_overflow}
use Rattle.vx_canonical.proofs.countable_rows.+has_countable_rows.Given as goal

abbrev pub invariant-have_countable_rows-loop-array : goal.invariant-have_countable_rows-loop-array
invariant-have_countable_rows-loop-array l = columns_rows_overflow (trees_from (drop l.array-index l.arrays)) ≡ columns_rows_overflow (trees_from l.arrays)
