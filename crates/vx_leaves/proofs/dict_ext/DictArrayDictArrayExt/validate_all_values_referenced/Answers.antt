use Rattle.std.specs.Prelude.{IsTrue}
use Rattle.vx_base.proofs.Refused.{Gives-weaker}
use Rattle.vx_tree.specs.Formed.{ReferencesAll}
use Rattle.vx_leaves.specs.Dictionaries.{codes_in, values_in, referenced_flag}
use Rattle.vx_leaves.proofs.NamedValues.{flag_holds}
use Rattle.vx_leaves.proofs.dict_ext.DictArrayDictArrayExt.validate_all_values_referenced.Goals as goal

pub returns : goal.returns
returns c =
    let t = c.args.self.now in
    let parts = c.parts.result in
    Gives-weaker c.validate.result (λ _. IsTrue parts.flag → ReferencesAll parts.codes.now parts.values.now) (λ _. IsTrue (referenced_flag t) → ReferencesAll (codes_in t) (values_in t))
    (λ _ holds. flag_holds t parts.codes.now parts.values.now parts.flag c.parts.ensures.same holds) c.validate.ensures
