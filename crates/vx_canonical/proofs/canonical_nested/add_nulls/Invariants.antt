use Rattle.std.proofs.Common.{◌≡◌, ◌++◌, map, replicate}
use Rattle.vx_base.specs.Rows.{null}
use Rattle.vx_base.specs.ValueRows.{option_row}
use Rattle.vx_canonical.proofs.canonical_nested.add_nulls.Given as goal

abbrev pub invariant-loop-i : goal.invariant-loop-i
invariant-loop-i l = map option_row l.out.items ≡ map option_row l.fn.out.items ++ replicate l._i null
