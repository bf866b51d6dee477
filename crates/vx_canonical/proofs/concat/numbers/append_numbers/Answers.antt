use Rattle.std.proofs.Common.{◌≡◌, ◌++◌, ap, subst, sym, ◌∙◌, refl, pos}
use Rattle.std.specs.Option.{unwrap_or}
use Rattle.vx_base.specs.Integers.{Holds}
use Rattle.vx_base.specs.Rows.{number_in}
use Rattle.vx_base.proofs.Refused.{Gives-weaker}
use Rattle.vx_tree.specs.Tree.{primitive, constant}
use Rattle.vx_tree.specs.Parts.{tree_of, valid_of}
use Rattle.vx_tree.specs.Formed.{WellFormed, IsDictionary}
use Rattle.vx_canonical.specs.JoinedNumbers.{AreRepeated}
use Rattle.vx_canonical.proofs.CanonicalDictionaries.{dictionary_renamed}
use Rattle.vx_canonical.proofs.JoinedNumbers.{appended_more, plain_held, constant_number, constant_held, type_of_values, flagged_held}
use Rattle.vx_base.proofs.NumberBytes.{number_passed}
use Rattle.vx_canonical.proofs.concat.numbers.append_numbers.Goals as goal

pub returns-in_ok-extend_from_slice-in-Primitive : goal.returns-in_ok-extend_from_slice-in-Primitive
returns-in_ok-extend_from_slice-in-Primitive c =
    let parts = c.in-Primitive in
    let same = sym c.layout.ensures.parts ∙ ap tree_of parts.is in
    let formed : WellFormed (primitive parts.ptype parts.bytes (valid_of parts.validity)) = rw parts.is at c.layout.ensures.formed in
    record {
      bytes = parts.bytes;
      items = c.in_ok-extend_from_slice-in-Primitive.ensures.items ∙ ap (λ more. c.args.before.items ++ more) c.as_slice.ensures.value;
      holds = plain_held c.args.array.now c.args.ptype parts.ptype parts.bytes (valid_of parts.validity) same formed c.requires;
    }

pub append_number-requires : goal.append_number-requires
append_number-requires c =
    let s = c.in-Constant.scalar in
    let same = sym c.layout.ensures.parts ∙ ap tree_of c.in-Constant.is in
    let formed : WellFormed (constant s.kind s.row c.in-Constant.len) = rw c.in-Constant.is at c.layout.ensures.formed in
    let told : c.unwrap_or-number.result ≡ unwrap_or (number_in s.row) (pos 0) = c.unwrap_or-number.ensures ∙ ap (λ n. unwrap_or n (pos 0)) c.as_int.ensures in
    let held : Holds c.args.ptype c.unwrap_or-number.result = rw told (constant_number c.args.array.now c.args.ptype s.kind s.row c.in-Constant.len same formed c.requires) in
    rw (number_passed c.args.ptype c.unwrap_or-number.result held) held

pub returns-in-Constant : goal.returns-in-Constant
returns-in-Constant c =
    let s = c.in-Constant.scalar in
    let same = sym c.layout.ensures.parts ∙ ap tree_of c.in-Constant.is in
    let formed : WellFormed (constant s.kind s.row c.in-Constant.len) = rw c.in-Constant.is at c.layout.ensures.formed in
    let told : c.unwrap_or-number.result ≡ unwrap_or (number_in s.row) (pos 0) = c.unwrap_or-number.ensures ∙ ap (λ n. unwrap_or n (pos 0)) c.as_int.ensures in
    let held : Holds c.args.ptype c.unwrap_or-number.result = rw told (constant_number c.args.array.now c.args.ptype s.kind s.row c.in-Constant.len same formed c.requires) in
    Gives-weaker c.append_number.result _ _
    (λ x. appended_more c.args.before.items x.items
    (λ bs h.
    constant_held c.args.array.now c.args.ptype s.kind s.row c.in-Constant.len bs same formed c.requires
    (subst (λ z. AreRepeated c.args.ptype z c.in-Constant.len bs) (number_passed c.args.ptype c.unwrap_or-number.result held ∙ told) h)))
    c.append_number.ensures

pub append_named-requires-clause-kind : goal.append_named-requires-clause-kind
append_named-requires-clause-kind c =
    let parts = c.in-Dict in
    let same = sym c.layout.ensures.parts ∙ ap tree_of parts.is in
    type_of_values c.args.array.now parts.codes parts.values parts.flag c.args.ptype same c.requires

pub append_named-requires-clause-codes : goal.append_named-requires-clause-codes
append_named-requires-clause-codes c =
    let parts = c.in-Dict in
    let formed : IsDictionary parts.codes parts.values parts.flag = rw parts.is at c.layout.ensures.formed in
    dictionary_renamed parts.codes parts.values parts.values parts.flag formed refl

pub returns-in-Dict : goal.returns-in-Dict
returns-in-Dict c =
    let parts = c.in-Dict in
    let same = sym c.layout.ensures.parts ∙ ap tree_of parts.is in
    Gives-weaker c.append_named.result _ _
    (λ x. appended_more c.args.before.items x.items
    (λ bs. flagged_held c.args.array.now parts.codes parts.values parts.flag c.args.ptype bs same))
    c.append_named.ensures
