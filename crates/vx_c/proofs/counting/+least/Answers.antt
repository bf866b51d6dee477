use Rattle.std.proofs.Common.{◌≡◌, ◌∙◌, ◌+◌, sym, ap, arith}
use Rattle.std.proofs.lemmas.Grind.{common_steps}
use Rattle.std.proofs.lemmas.List.{drop_all}
use Rattle.vx_base.specs.Codes.{kind_depth, kinds_depth}
use Rattle.vx_base.proofs.ValueFits.{field_depth, struct_depth}
use Rattle.vx_base.specs.DTypes.{dtype_meaning, kinds_of}
use Rattle.vx_c.specs.Unflagged.{least_count, least_counts}
use Rattle.vx_c.proofs.Counts.{least_count-struct}
use Rattle.vx_c.proofs.counting.+least.Goals as goal

pub left_by_kind-left_by_kinds-requires : goal.left_by_kind-left_by_kinds-requires
left_by_kind-left_by_kinds-requires t c =
    let deep : kind_depth (dtype_meaning c.args.dtype.now) ≡ kinds_depth (kinds_of c.fields.result.now) + 1 =
    struct_depth c.args.dtype.now c.in-Struct.fields c.in-Struct.field-1 c.in-Struct.is ∙ ap (λ ks. kinds_depth ks + 1) (sym c.fields.ensures.kinds) in
    (omega (arith, deep, c.decreases), tt)

pub left_by_kind-returns-in_ok-checked_sub-in-Struct : goal.left_by_kind-returns-in_ok-checked_sub-in-Struct
left_by_kind-returns-in_ok-checked_sub-in-Struct t c =
    let more : least_count (dtype_meaning c.args.dtype.now) ≡ least_counts (kinds_of c.fields.result.now) + 1 =
    least_count-struct c.args.dtype.now c.in-Struct.fields c.in-Struct.field-1 c.in-Struct.is ∙ ap (λ ks. least_counts ks + 1) (sym c.fields.ensures.kinds) in
    grind (arith, common_steps, more)

pub left_by_kinds-left_by_kind-requires : goal.left_by_kinds-left_by_kind-requires
left_by_kinds-left_by_kind-requires t c =
    (omega (arith, field_depth c.args.dtypes.now c.loop-dtype.dtype-index c.dtype-item.result c.loop-dtype-test.true c.dtype-item.is, c.decreases), tt)

pub left_by_kinds-returns : goal.left_by_kinds-returns
left_by_kinds-returns t c =
    let none = ap (λ ds. least_counts (kinds_of ds)) (drop_all c.loop-dtype.dtype-index c.args.dtypes.now c.loop-dtype-test.false) in
    (omega (arith, none, c.loop-dtype.invariant), omega (arith, none, c.loop-dtype.invariant))
