use Rattle.std.proofs.Common.{◌∙◌}
use Rattle.vx_tree.specs.Parts.{valid_of}
use Rattle.vx_structs.proofs.Structs.PushedNulls.{pushed_validity_fits, pushed_columns_are_formed, pushed_records}
use Rattle.vx_structs.proofs.array.StructArray.push_validity_into_children.Goals as goal

pub structure-requires-clause-fits : goal.structure-requires-clause-fits
structure-requires-clause-fits c =
    let parts = c.parts-parts.result in
    pushed_validity_fits c.args.self.now parts.names.now parts.columns.now (valid_of parts.validity.now) (valid_of c.in_ok-validity.validity) parts.len c.args.remove
    c.parts-parts.ensures.same c.parts-parts.ensures.formed c.in_ok-validity.ensures

pub structure-requires-clause-columns : goal.structure-requires-clause-columns
structure-requires-clause-columns c =
    let parts = c.parts-parts.result in
    pushed_columns_are_formed c.args.self.now parts.names.now c.in_ok-names.names parts.columns.now c.in_ok-columns.columns.items (valid_of parts.validity.now) parts.len
    c.parts-parts.ensures.same c.parts-parts.ensures.formed c.in_ok-columns.ensures c.in_ok-names.ensures

pub returns : goal.returns
returns c =
    let parts = c.parts-parts.result in
    pushed_records c.args.self.now c.from_array.result parts.names.now c.in_ok-names.names parts.columns.now c.in_ok-columns.columns.items (valid_of parts.validity.now) (valid_of c.in_ok-validity.validity) parts.len c.args.remove
    c.parts-parts.ensures.same c.parts-parts.ensures.formed c.in_ok-columns.ensures c.in_ok-names.ensures c.in_ok-validity.ensures (c.from_array.ensures ∙ c.in_ok-array.ensures)
