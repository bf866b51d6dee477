use Rattle.std.proofs.Common.{ap, ◌∙◌}
use Rattle.vx_base.specs.Kinds.{kinds_from}
use Rattle.vx_base.specs.DTypes.{kinds_of}
use Rattle.vx_base.specs.Fields.{kinds_without}
use Rattle.vx_base.proofs.Fields.{kinds_without_of}
use Rattle.vx_base.proofs.struct_fields.StructFields.without_field.Goals as goal

pub returns-clause-kinds : goal.returns-clause-kinds
returns-clause-kinds c =
    c.new-2.ensures.kinds ∙ ap (λ v. kinds_of v.items) c.in_ok-dtypes.ensures.ok ∙ ap kinds_from c.in_ok-rest.ensures
    ∙ kinds_without_of c.fields.result.now c.args.i ∙ ap (kinds_without c.args.i) c.fields.ensures.kinds
