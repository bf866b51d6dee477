use Rattle.std.proofs.Common.{◌≡◌, map, take, ap, ◌∙◌}
use Rattle.std.proofs.lemmas.List.{take_all}
use Rattle.std.proofs.lemmas.Result.{IfOk-weaker}
use Rattle.vx_tree.specs.Tree.{non_nullable}
use Rattle.vx_structs.proofs.Structs.NamedColumns.{records_of_fields}
use Rattle.vx_structs.proofs.array.StructArray.from_fields.Goals as goal

pub returns-clause-parts : goal.returns-clause-parts
returns-clause-parts c =
    let fields = c.args.fields.now in
    let all : take c.loop-name.name-index fields ≡ fields = take_all c.loop-name.name-index fields c.loop-name-test.false in
    let names = c.deref.ensures.value ∙ c.loop-name.invariant.names ∙ ap (map (λ field. field.0)) all in
    let columns = c.loop-name.invariant.columns ∙ ap (map (λ field. field.1)) all in
    IfOk-weaker c.of_named.result _ _ (λ a same. same ∙ records_of_fields fields c.deref.result.now c.loop-name.columns.items non_nullable names columns) c.of_named.ensures.parts
