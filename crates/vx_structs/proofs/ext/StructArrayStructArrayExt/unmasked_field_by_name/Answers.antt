use Rattle.std.proofs.Common.{◌<◌, length, sym, subst, ◌∙◌}
use Rattle.vx_tree.specs.Parts.{valid_of}
use Rattle.vx_structs.proofs.Structs.Parts.{place_of_column}
use Rattle.vx_structs.proofs.ext.StructArrayStructArrayExt.unmasked_field_by_name.Goals as goal

pub unmasked_field-requires : goal.unmasked_field-requires
unmasked_field-requires c =
    let parts = c.parts-parts.result in
    let inside = place_of_column parts.names.now parts.columns.now (valid_of parts.validity.now) parts.len c.args.name.now c.in_ok-place.place c.parts-parts.ensures.formed (sym c.find.ensures ∙ c.in_ok-place.ensures.ok_part) in
    subst (λ columns. c.in_ok-place.place < length columns) (sym c.parts-parts.ensures.columns) inside
