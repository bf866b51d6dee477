use Rattle.std.proofs.Common.{◌≡◌, ap, sym, ◌∙◌}
use Rattle.vx_base.specs.DTypes.{dtype_meaning}
use Rattle.vx_base.specs.Kinds.{integers, is_nullable_kind}
use Rattle.vx_base.proofs.Refused.{Gives-weaker}
use Rattle.vx_tree.specs.Parts.{valid_of}
use Rattle.vx_canonical.specs.PlainValues.{values_valid}
use Rattle.vx_canonical.proofs.PlainValues.{numbers_made, integers_kind}
use Rattle.vx_canonical.proofs.canonical_values.plain_numbers.Goals as goal

pub returns : goal.returns
returns c =
    let k = dtype_meaning c.args.dtype.now in
    let vs = c.args.values.now in
    let kind : k ≡ integers c.as_ptype-ptype.result (is_nullable_kind k) = integers_kind k c.requires.kind ∙ ap (λ p. integers p (is_nullable_kind k)) (sym c.as_ptype-ptype.ensures) in
    let valid : valid_of c.in_ok-validity.validity ≡ values_valid (is_nullable_kind k) vs = c.in_ok-validity.ensures ∙ ap (λ b. values_valid b vs) c.nullability.ensures in
    Gives-weaker c.primitive.result _ _
    (λ a e. numbers_made a k c.as_ptype-ptype.result c.in_ok-number_bytes.field-0 (valid_of c.in_ok-validity.validity) vs kind valid e c.in_ok-number_bytes.ensures.numbers)
    c.primitive.ensures
