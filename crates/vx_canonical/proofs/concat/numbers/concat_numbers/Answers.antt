use Rattle.std.proofs.Common.{refl}
use Rattle.vx_base.specs.DTypes.{is_nullable}
use Rattle.vx_base.proofs.Refused.{Gives-weaker, Gives-IfOk}
use Rattle.vx_tree.specs.Parts.{valid_of}
use Rattle.vx_canonical.specs.Joined.{joined_len, joined_row}
use Rattle.vx_canonical.specs.JoinedNumbers.{HoldNumbers}
use Rattle.vx_canonical.proofs.JoinedNumbers.{numbers_are_joined}
use Rattle.vx_canonical.proofs.concat.numbers.concat_numbers.Goals as goal

pub primitive-requires : goal.primitive-requires
primitive-requires c =
    let held : HoldNumbers c.args.ptype (joined_len c.args.arrays.now) (joined_row c.args.arrays.now) c.in_ok-bytes.bytes = rw c.in_ok-bytes.ensures c.in_ok-joined_numbers.ensures in
    (numbers_are_joined c.args.ptype (is_nullable c.args.nullability) c.args.arrays.now (valid_of c.in_ok-validity.validity) c.in_ok-bytes.bytes held c.in_ok-validity.ensures).1

pub returns-clause-joined : goal.returns-clause-joined
returns-clause-joined c =
    let held : HoldNumbers c.args.ptype (joined_len c.args.arrays.now) (joined_row c.args.arrays.now) c.in_ok-bytes.bytes = rw c.in_ok-bytes.ensures c.in_ok-joined_numbers.ensures in
    let joined = (numbers_are_joined c.args.ptype (is_nullable c.args.nullability) c.args.arrays.now (valid_of c.in_ok-validity.validity) c.in_ok-bytes.bytes held c.in_ok-validity.ensures).0 in
    Gives-weaker c.primitive.result _ _ (λ a e. rw e joined) c.primitive.ensures

pub returns-clause-layout : goal.returns-clause-layout
returns-clause-layout c = Gives-IfOk c.primitive.result _ _ (λ a e. rw e refl) c.primitive.ensures
