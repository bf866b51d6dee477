use Rattle.vx_base.specs.Kinds.{booleans}
use Rattle.vx_base.proofs.Refused.{Gives-weaker, Gives-IfOk}
use Rattle.vx_tree.specs.Tree.{bools}
use Rattle.vx_tree.specs.Parts.{valid_of}
use Rattle.vx_tree.specs.Meaning.{nullable}
use Rattle.vx_canonical.specs.Joined.{IsJoined}
use Rattle.vx_canonical.proofs.JoinedLeaves.{bools_joined}
use Rattle.vx_canonical.proofs.layouts.bool.join_bools.Goals as goal

pub bools-requires : goal.bools-requires
bools-requires c =
    let v = valid_of c.args.validity in
    let bits = c.in_ok-bits.bits.bits in
    let joined : IsJoined (booleans (nullable v)) c.args.arrays.now (bools c.in_ok-bits.bits.offset bits v) = bools_joined c.args.arrays.now v bits c.requires.layout c.in_ok-bits.ensures c.requires.valid in
    rw joined.len c.requires.valid.fits

pub returns-clause-joined : goal.returns-clause-joined
returns-clause-joined c =
    let v = valid_of c.args.validity in
    let bits = c.in_ok-bits.bits.bits in
    let joined : IsJoined (booleans (nullable v)) c.args.arrays.now (bools c.in_ok-bits.bits.offset bits v) = bools_joined c.args.arrays.now v bits c.requires.layout c.in_ok-bits.ensures c.requires.valid in
    Gives-weaker c.bools.result _ _ (λ a e. rw e joined) c.bools.ensures

pub returns-clause-numbers : goal.returns-clause-numbers
returns-clause-numbers c = Gives-IfOk c.bools.result _ _ (λ a e. rw e tt) c.bools.ensures
