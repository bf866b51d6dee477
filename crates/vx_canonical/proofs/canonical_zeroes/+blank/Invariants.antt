use Rattle.std.proofs.Common.{take}
use Rattle.vx_canonical.specs.Canonical.{AreBlankParts}
use Rattle.vx_canonical.proofs.canonical_zeroes.+blank.Given as goal

abbrev pub invariant-blank_columns-loop-column : goal.invariant-blank_columns-loop-column
invariant-blank_columns-loop-column l = AreBlankParts (take l.column-index l.columns) l.fn.len l.made.items
