use Rattle.std.proofs.Common.{◌∙◌, ◌+◌, ap, sym, drop, arith}
use Rattle.vx_base.specs.Refusals.{or_else}
use Rattle.vx_tree.specs.Meaning.{trees_from}
use Rattle.vx_tree.specs.Parts.{tree_of, valid_of}
use Rattle.vx_tree.proofs.Columns.{columns_below}
use Rattle.vx_canonical.specs.Counted.{columns_rows_overflow}
use Rattle.vx_canonical.proofs.Counted.{rows_from}
use Rattle.vx_canonical.proofs.countable_rows.+has_countable_rows.Goals as goal

pub has_countable_rows-have_countable_rows-requires : goal.has_countable_rows-have_countable_rows-requires
has_countable_rows-have_countable_rows-requires t c =
    let same = sym c.layout.ensures.parts ∙ ap tree_of c.in-Struct.is in
    let m = columns_below c.args.array.now c.in-Struct.names c.in-Struct.columns.items c.deref.result.now (valid_of c.in-Struct.validity) c.in-Struct.len same c.deref.ensures.value in
    (omega (arith, m, c.decreases), tt)

pub have_countable_rows-returns-then-not-has_countable_rows : goal.have_countable_rows-returns-then-not-has_countable_rows
have_countable_rows-returns-then-not-has_countable_rows t c =
    let ts = c.args.arrays.now in
    let i = c.loop-array.array-index in
    sym c.loop-array.invariant ∙ rows_from ts i c.array-item.result c.loop-array-test.true c.array-item.is
    ∙ ap (λ f. or_else f (columns_rows_overflow (trees_from (drop (i + 1) ts)))) (rw c.if-not-has_countable_rows.true at c.has_countable_rows.ensures)

pub have_countable_rows-loop-array-preserved : goal.have_countable_rows-loop-array-preserved
have_countable_rows-loop-array-preserved t c =
    let ts = c.args.arrays.now in
    let i = c.loop-array.array-index in
    sym (rows_from ts i c.array-item.result c.loop-array-test.true c.array-item.is
    ∙ ap (λ f. or_else f (columns_rows_overflow (trees_from (drop (i + 1) ts)))) (rw c.if-not-has_countable_rows.false at c.has_countable_rows.ensures))
    ∙ c.loop-array.invariant
