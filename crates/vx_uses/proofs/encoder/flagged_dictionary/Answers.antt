use Rattle.std.proofs.Common.{sym, ◌∙◌, ap, subst}
use Rattle.std.specs.Prelude.{◌↔◌, IsTrue}
use Rattle.vx_tree.specs.Formed.{ReferencesAll}
use Rattle.vx_tree.specs.Meaning.{rows}
use Rattle.vx_tree.specs.Tree.{dictionary}
use Rattle.vx_leaves.specs.Dictionaries.{codes_in, values_in, referenced_flag}
use Rattle.vx_uses.proofs.PickedValues.{dictionary_rows}
use Rattle.vx_uses.proofs.encoder.flagged_dictionary.Goals as goal

pub returns-clause-rows : goal.returns-clause-rows
returns-clause-rows c =
    let places = c.rows_stand_at_their_places.ensures in
    let in_use = c.in_ok-in_use.in_use in
    ap rows (c.in_ok-set_all_values_referenced.ensures ∙ ap (λ t. dictionary (codes_in t) (values_in t) in_use) c.in_ok-dictionary.ensures.parts)
    ∙ dictionary_rows c.first_fault_is_least.ensures places.len places.each c.args.codes c.args.values in_use c.in_ok-dictionary.ensures.refuses

pub returns-clause-flag : goal.returns-clause-flag
returns-clause-flag c =
    let in_use = c.in_ok-in_use.in_use in
    let codes = c.args.codes in
    let values = c.args.values in
    let iff = subst (λ t. IsTrue in_use ↔ ReferencesAll (codes_in t) (values_in t)) c.in_ok-dictionary.ensures.parts c.in_ok-in_use.ensures in
    subst (λ b. IsTrue b ↔ ReferencesAll codes values) (sym (ap referenced_flag c.in_ok-set_all_values_referenced.ensures)) iff
