use Rattle.vx_base.proofs.Refused.{Gives-weaker}
use Rattle.vx_tree.specs.Parts.{valid_of}
use Rattle.vx_canonical.proofs.Blanks.{nulls_may, nulls_made}
use Rattle.vx_canonical.proofs.canonical_zeroes.plain_nulls.Goals as goal

pub blank_like-requires-clause-nullable : goal.blank_like-requires-clause-nullable
blank_like-requires-clause-nullable c =
    nulls_may c.args.array.now (valid_of c.in_ok-own.own) (valid_of c.args.nulls.now) (valid_of c.in_ok-taken.taken) (valid_of c.in_ok-plain.plain) c.args.len c.in_ok-own.ensures c.in_ok-taken.ensures c.in_ok-plain.ensures

pub returns : goal.returns
returns c =
    Gives-weaker c.blank_like.result _ _
    (λ a h. nulls_made c.args.array.now a (valid_of c.in_ok-own.own) (valid_of c.args.nulls.now) (valid_of c.in_ok-taken.taken) (valid_of c.in_ok-plain.plain) c.args.len c.in_ok-own.ensures c.in_ok-taken.ensures c.in_ok-plain.ensures h)
    c.blank_like.ensures
