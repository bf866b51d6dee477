use Rattle.vx_base.proofs.Refused.{Gives-weaker, Gives-IfOk}
use Rattle.vx_tree.specs.Parts.{valid_of}
use Rattle.vx_canonical.proofs.JoinedLists.{fixed_lists_joined}
use Rattle.vx_canonical.proofs.layouts.fixed_size_list.join_fixed_lists.Goals as goal

pub fixed_size_list-requires : goal.fixed_size_list-requires
fixed_size_list-requires c =
    (fixed_lists_joined c.args.size c.args.len c.args.arrays.now c.args.elements (valid_of c.args.validity) c.requires.lists c.requires.elements c.requires.len c.requires.valid).1

pub returns-clause-joined : goal.returns-clause-joined
returns-clause-joined c =
    let joined = (fixed_lists_joined c.args.size c.args.len c.args.arrays.now c.args.elements (valid_of c.args.validity) c.requires.lists c.requires.elements c.requires.len c.requires.valid).0 in
    Gives-weaker c.fixed_size_list.result _ _ (λ a e. rw e joined) c.fixed_size_list.ensures

pub returns-clause-numbers : goal.returns-clause-numbers
returns-clause-numbers c = λ h. Gives-IfOk c.fixed_size_list.result _ _ (λ a e. rw e h) c.fixed_size_list.ensures
