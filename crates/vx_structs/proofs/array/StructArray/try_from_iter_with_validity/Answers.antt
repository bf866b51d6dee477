use Rattle.std.proofs.Common.{◌≡◌, map, ap, subst, ◌∙◌, rules}
use Rattle.std.specs.Iterator.{Drains}
use Rattle.std.proofs.lemmas.Result.{IfOk-weaker}
use Rattle.vx_base.specs.Refusals.{Refuses}
use Rattle.vx_tree.specs.Parts.{valid_of}
use Rattle.vx_structs.specs.Structs.Faults.{first_fault_of}
use Rattle.vx_structs.specs.Structs.{first_len, named_columns, records_by}
use Rattle.vx_structs.proofs.Structs.NamedColumns.{records_of_fields}
use Rattle.vx_structs.proofs.Structs.Faults.{made_of_items, faulty_items}
use Rattle.vx_structs.proofs.array.StructArray.try_from_iter_with_validity.Goals as goal

pub returns-clause-ok : goal.returns-clause-ok
returns-clause-ok g c =
    let steps = g.I.Iterator.next_gives in
    let all = c.loop-name.yielded in
    let v = valid_of c.args.validity in
    let texts = map (λ name. name.now) c.deref.result.now in
    let cs = c.loop-name.columns.items in
    let came : Drains steps c.args.fields all = search rules in
    let kept = c.loop-name.invariant.validity in
    let names = c.deref.ensures.value ∙ c.loop-name.invariant.names in
    let columns = c.loop-name.invariant.columns in
    let is = IfOk-weaker c.of_named.result _ (λ a. a ≡ named_columns all v) (λ a same. same ∙ ap (λ w. records_by texts cs (valid_of w) (first_len cs)) kept ∙ records_of_fields all c.deref.result.now cs v names columns) c.of_named.ensures.parts in
    let refuses = subst (λ w. Refuses c.of_named.result (first_fault_of cs (valid_of w))) kept c.of_named.ensures.refuses in
    made_of_items steps c.args.fields (λ items. first_fault_of (map (λ field. field.1) items) v) (λ items a. a ≡ named_columns items v) all c.of_named.result came is
    (subst (λ xs. Refuses c.of_named.result (first_fault_of xs v)) columns refuses)

pub returns-clause-err : goal.returns-clause-err
returns-clause-err g c =
    let steps = g.I.Iterator.next_gives in
    let all = c.loop-name.yielded in
    let v = valid_of c.args.validity in
    let came : Drains steps c.args.fields all = search rules in
    let refuses = subst (λ w. Refuses c.of_named.result (first_fault_of c.loop-name.columns.items (valid_of w))) c.loop-name.invariant.validity c.of_named.ensures.refuses in
    faulty_items steps c.args.fields (λ items. first_fault_of (map (λ field. field.1) items) v) all c.of_named.result came
    (subst (λ xs. Refuses c.of_named.result (first_fault_of xs v)) c.loop-name.invariant.columns refuses)
