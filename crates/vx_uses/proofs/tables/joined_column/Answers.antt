use Rattle.std.proofs.Common.{◌≡◌, Some, sym, ◌∙◌, ap}
use Rattle.std.specs.Option.{option_map}
use Rattle.std.proofs.lemmas.Result.{IfOk-weaker}
use Rattle.vx_tree.specs.Meaning.{kind_of}
use Rattle.vx_structs.specs.Structs.{column_named}
use Rattle.vx_uses.proofs.JoinedTables.{of_first, of_second}
use Rattle.vx_uses.proofs.tables.joined_column.Goals as goal

pub returns-clause-first_kind : goal.returns-clause-first_kind
returns-clause-first_kind c =
    let b = c.in_ok-try_clone.field-0 in
    let d = c.in_ok-try_clone-2.field-0 in
    let named = column_named c.args.first.now c.args.name.now in
    let found : named ≡ Some b = c.in_ok-unmasked_field_by_name.ensures.found ∙ ap Some (sym c.in_ok-try_clone.ensures) in
    IfOk-weaker c.concat.result _ (λ a. option_map kind_of named ≡ Some (kind_of a))
    (λ a all. ap (option_map kind_of) found ∙ ap Some (of_first (λ t. kind_of t ≡ kind_of a) b d all)) c.concat.ensures.kind

pub returns-clause-second_kind : goal.returns-clause-second_kind
returns-clause-second_kind c =
    let b = c.in_ok-try_clone.field-0 in
    let d = c.in_ok-try_clone-2.field-0 in
    let named = column_named c.args.second.now c.args.name.now in
    let found : named ≡ Some d = c.in_ok-unmasked_field_by_name-2.ensures.found ∙ ap Some (sym c.in_ok-try_clone-2.ensures) in
    IfOk-weaker c.concat.result _ (λ a. option_map kind_of named ≡ Some (kind_of a))
    (λ a all. ap (option_map kind_of) found ∙ ap Some (of_second (λ t. kind_of t ≡ kind_of a) b d all)) c.concat.ensures.kind
