use Rattle.std.proofs.Common.{◌≡◌, [], length, ap, ◌∙◌}
use Rattle.vx_base.specs.Integers.{numbers}
use Rattle.vx_base.proofs.NumberLists.{numbers_none}
use Rattle.vx_base.proofs.Refused.{Gives-weaker}
use Rattle.vx_tree.specs.Parts.{valid_of}
use Rattle.vx_tree.specs.Tree.{primitive}
use Rattle.vx_leaves.specs.Leaves.{IsPrimitive, plain_state}
use Rattle.vx_leaves.proofs.ValueRows.{is_primitive_of}
use Rattle.vx_leaves.proofs.primitive_array.PrimitiveArray.empty.Goals as goal

pub primitive_array-requires-clause-count : goal.primitive_array-requires-clause-count
primitive_array-requires-clause-count g c =
    ap (λ bs. length (numbers c.PTYPE.result bs)) c.in_ok-none.ensures ∙ ap length (numbers_none c.PTYPE.result)

pub returns : goal.returns
returns g c =
    let t = g.T.NativePType.PTYPE in
    Gives-weaker c.primitive_array.result (λ a. a ≡ primitive c.PTYPE.result c.in_ok-none.none (valid_of c.plain_validity.result)) (IsPrimitive t [] (plain_state c.args.nullability))
    (λ a e. is_primitive_of t c.PTYPE.result c.in_ok-none.none [] (valid_of c.plain_validity.result) (plain_state c.args.nullability) a e c.PTYPE.ensures c.plain_validity.ensures (ap (numbers t) c.in_ok-none.ensures ∙ numbers_none t))
    c.primitive_array.ensures
