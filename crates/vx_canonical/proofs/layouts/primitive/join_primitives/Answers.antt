use Rattle.std.proofs.Common.{◌∙◌}
use Rattle.vx_base.proofs.Refused.{Gives-weaker, Gives-IfOk}
use Rattle.vx_tree.specs.Parts.{valid_of}
use Rattle.vx_canonical.proofs.JoinedLeaves.{primitives_joined}
use Rattle.vx_canonical.proofs.layouts.primitive.join_primitives.Goals as goal

pub joined_bytes-requires : goal.joined_bytes-requires
joined_bytes-requires c = λ k d l. (c.requires.numbers k d l).layout

pub primitive-requires : goal.primitive-requires
primitive-requires c =
    (primitives_joined c.args.ptype c.args.arrays.now (valid_of c.args.validity) c.in_ok-bytes.bytes c.requires.numbers (c.in_ok-bytes.ensures ∙ c.in_ok-joined_bytes.ensures) c.requires.valid).1

pub returns-clause-joined : goal.returns-clause-joined
returns-clause-joined c =
    let joined = (primitives_joined c.args.ptype c.args.arrays.now (valid_of c.args.validity) c.in_ok-bytes.bytes c.requires.numbers (c.in_ok-bytes.ensures ∙ c.in_ok-joined_bytes.ensures) c.requires.valid).0 in
    Gives-weaker c.primitive.result _ _ (λ a e. rw e joined) c.primitive.ensures

pub returns-clause-numbers : goal.returns-clause-numbers
returns-clause-numbers c = Gives-IfOk c.primitive.result _ _ (λ a e. rw e tt) c.primitive.ensures
