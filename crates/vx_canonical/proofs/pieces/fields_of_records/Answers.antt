use Rattle.std.proofs.Common.{◌∙◌, ap, map, sym, arith}
use Rattle.std.proofs.lemmas.Bool.{ltb-true, ltb-false}
use Rattle.vx_base.proofs.StructKinds.{struct_kind}
use Rattle.vx_base.specs.DTypes.{dtype_meaning}
use Rattle.vx_base.specs.ValueRows.{option_row}
use Rattle.vx_tree.specs.Extents.{column_extent, extent_at, fields_extents, rows_extent}
use Rattle.vx_canonical.proofs.Counted.{field_extent, field_absent}
use Rattle.vx_canonical.proofs.pieces.fields_of_records.Goals as goal

pub returns-in_ok-fields_at-in-Some : goal.returns-in_ok-fields_at-in-Some
returns-in_ok-fields_at-in-Some c =
    let i = c.args.place in
    let rs = map option_row c.args.values.now in
    let here = c.in-Some.ensures.lookup in
    ap (rows_extent (dtype_meaning c.in-Some.field.now)) c.in_ok-fields_at-in-Some.ensures
    ∙ field_extent c.fields.result.now 0 i i c.in-Some.field.now rs (omega arith) (ltb-true i _ (sym here.0)) here.1
    ∙ ap (λ ks. extent_at i (fields_extents ks 0 rs)) c.fields.ensures.kinds
    ∙ sym (ap (λ k. column_extent i (rows_extent k rs)) (struct_kind c.args.dtype.now c.in-Struct.fields _ c.in-Struct.is))

pub returns-in-None : goal.returns-in-None
returns-in-None c =
    let i = c.args.place in
    let rs = map option_row c.args.values.now in
    field_absent c.fields.result.now 0 i rs (ltb-false i _ (sym c.in-None.ensures.lookup.0)) ∙ ap (λ ks. extent_at i (fields_extents ks 0 rs)) c.fields.ensures.kinds
    ∙ sym (ap (λ k. column_extent i (rows_extent k rs)) (struct_kind c.args.dtype.now c.in-Struct.fields _ c.in-Struct.is))
