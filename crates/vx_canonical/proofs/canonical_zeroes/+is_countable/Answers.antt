use Rattle.std.proofs.Common.{◌≡◌, ◌∙◌, ◌+◌, sym, ap, drop, arith}
use Rattle.vx_base.specs.Codes.{kind_depth, kinds_depth}
use Rattle.vx_base.proofs.ValueFits.{field_depth, struct_depth}
use Rattle.vx_base.specs.DTypes.{dtype_meaning, kinds_of}
use Rattle.vx_base.specs.Refusals.{or_else}
use Rattle.vx_tree.specs.CanonicalFaults.{fields_overflow}
use Rattle.vx_canonical.proofs.PlainKinds.{fields_overflow-from}
use Rattle.vx_canonical.proofs.canonical_zeroes.+is_countable.Goals as goal

pub are_countable-returns-then-not-is_countable : goal.are_countable-returns-then-not-is_countable
are_countable-returns-then-not-is_countable t c =
    let here = fields_overflow-from c.args.dtypes.now c.args.len c.loop-dtype.dtype-index c.dtype-item.result c.loop-dtype-test.true c.dtype-item.is in
    sym c.loop-dtype.invariant ∙ here
    ∙ ap (λ f. or_else f (fields_overflow (kinds_of (drop (c.loop-dtype.dtype-index + 1) c.args.dtypes.now)) c.args.len)) (rw c.if-not-is_countable.true at c.is_countable.ensures)

pub are_countable-loop-dtype-preserved : goal.are_countable-loop-dtype-preserved
are_countable-loop-dtype-preserved t c =
    let here = fields_overflow-from c.args.dtypes.now c.args.len c.loop-dtype.dtype-index c.dtype-item.result c.loop-dtype-test.true c.dtype-item.is in
    sym (here ∙ ap (λ f. or_else f (fields_overflow (kinds_of (drop (c.loop-dtype.dtype-index + 1) c.args.dtypes.now)) c.args.len)) (rw c.if-not-is_countable.false at c.is_countable.ensures))
    ∙ c.loop-dtype.invariant

pub are_countable-is_countable-requires : goal.are_countable-is_countable-requires
are_countable-is_countable-requires t c =
    (omega (arith, field_depth c.args.dtypes.now c.loop-dtype.dtype-index c.dtype-item.result c.loop-dtype-test.true c.dtype-item.is, c.decreases), tt)

pub is_countable-are_countable-requires : goal.is_countable-are_countable-requires
is_countable-are_countable-requires t c =
    let ds = c.fields.result.now in
    let deep : kind_depth (dtype_meaning c.args.dtype.now) ≡ kinds_depth (kinds_of ds) + 1 = struct_depth c.args.dtype.now c.in-Struct.fields c.in-Struct.field-1 c.in-Struct.is ∙ ap (λ ks. kinds_depth ks + 1) (sym c.fields.ensures.kinds) in
    (omega (arith, deep, c.decreases), tt)
