use Rattle.std.proofs.Common.{◌≡◌, ◌∙◌, ◌+◌, ap, map, subst, sym, arith}
use Rattle.std.proofs.lemmas.Result.{err_from_is_err_and}
use Rattle.vx_base.proofs.ValueFits.{field_depth, struct_depth}
use Rattle.vx_base.specs.Codes.{kind_depth, kinds_depth}
use Rattle.vx_base.specs.DTypes.{dtype_meaning, kinds_of}
use Rattle.vx_base.proofs.StructKinds.{struct_kind}
use Rattle.vx_base.specs.Refusals.{Refuses}
use Rattle.vx_canonical.specs.Concatenated.{extents_fault, fields_extents_fault}
use Rattle.vx_canonical.specs.Counted.{piece_extent}
use Rattle.vx_canonical.proofs.Counted.{columns_next, columns_refuse}
use Rattle.vx_canonical.proofs.extents.+pieces_fit.Goals as goal

pub pieces_fit-columns_fit-requires : goal.pieces_fit-columns_fit-requires
pieces_fit-columns_fit-requires t c =
    let ds = c.fields.result.now in
    let deep : kind_depth (dtype_meaning c.args.dtype.now) ≡ kinds_depth (kinds_of ds) + 1 = struct_depth c.args.dtype.now c.in-Struct.fields _ c.in-Struct.is ∙ ap (λ ks. kinds_depth ks + 1) (sym c.fields.ensures.kinds) in
    (omega (arith, deep, c.decreases), tt)

pub columns_fit-parts_fit-requires : goal.columns_fit-parts_fit-requires
columns_fit-parts_fit-requires t c =
    (omega (arith, field_depth c.args.dtypes.now c.loop-place.place c.index-dtypes-place.result c.loop-place-test.true c.index-dtypes-place.is, c.decreases), tt)

pub columns_fit-loop-place-preserved : goal.columns_fit-loop-place-preserved
columns_fit-loop-place-preserved t c =
    let ds = c.args.dtypes.now in
    let xs = map piece_extent c.args.pieces.now in
    columns_next ds c.loop-place.place c.index-dtypes-place.result c.args.len xs (fields_extents_fault (kinds_of ds) 0 c.args.len xs) c.loop-place.invariant c.loop-place-test.true c.index-dtypes-place.is
    c.in_ok-parts_fit.ensures

pub columns_fit-returns-in_err-parts_fit : goal.columns_fit-returns-in_err-parts_fit
columns_fit-returns-in_err-parts_fit t c =
    let ds = c.args.dtypes.now in
    let xs = map piece_extent c.args.pieces.now in
    let p = err_from_is_err_and c.from_residual.result c.from_residual.ensures.1 in
    rw (p.1, p.2) (columns_refuse ds c.loop-place.place c.index-dtypes-place.result c.args.len xs (fields_extents_fault (kinds_of ds) 0 c.args.len xs) c.in_err-parts_fit.field-0.0 c.loop-place.invariant c.loop-place-test.true
    c.index-dtypes-place.is c.in_err-parts_fit.ensures)

pub pieces_fit-returns-in-Struct : goal.pieces_fit-returns-in-Struct
pieces_fit-returns-in-Struct t c =
    let xs = map piece_extent c.args.pieces.now in
    subst (Refuses c.columns_fit.result)
    (ap (λ ks. fields_extents_fault ks 0 c.args.len xs) c.fields.ensures.kinds ∙ sym (ap (λ k. extents_fault k c.args.len xs) (struct_kind c.args.dtype.now c.in-Struct.fields _ c.in-Struct.is))) c.columns_fit.ensures
