use Rattle.std.proofs.Common.{sym, ap, ◌∙◌}
use Rattle.vx_base.specs.DTypes.{dtype_meaning, field_names, field_kinds}
use Rattle.vx_base.specs.Kinds.{is_nullable_kind}
use Rattle.vx_tree.specs.Layouts.{is_struct}
use Rattle.vx_tree.specs.Meaning.{kind_of}
use Rattle.vx_structs.proofs.Structs.Parts.{field_kinds_are}
use Rattle.vx_structs.proofs.ext.StructArrayStructArrayExt.struct_fields.Goals as goal

pub returns-clause-kinds : goal.returns-clause-kinds
returns-clause-kinds c =
    let fields = c.as_struct_fields.result.now in
    let lent = sym c.as_array.ensures.value in
    field_kinds_are c.args.self.now (field_names fields) (field_kinds fields) (is_nullable_kind (dtype_meaning c.dtype.result.now)) (ap is_struct lent ∙ c.as_array.ensures.layout)
    (ap kind_of lent ∙ sym c.dtype.ensures ∙ c.as_struct_fields.ensures)
