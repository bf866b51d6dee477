use Rattle.vx_base.proofs.Refused.{Gives-weaker, Gives-IfOk}
use Rattle.vx_tree.specs.Parts.{valid_of}
use Rattle.vx_canonical.proofs.JoinedListViews.{list_views_joined}
use Rattle.vx_canonical.proofs.layouts.list_view.join_list_views.Goals as goal

pub list_view-requires : goal.list_view-requires
list_view-requires c =
    (list_views_joined c.args.arrays.now c.args.elements c.in_ok-offsets.offsets c.in_ok-sizes.sizes (valid_of c.args.validity) c.requires.lists c.requires.elements
    c.in_ok-offsets.ensures c.in_ok-sizes.ensures c.requires.valid).1

pub returns-clause-joined : goal.returns-clause-joined
returns-clause-joined c =
    let joined = (list_views_joined c.args.arrays.now c.args.elements c.in_ok-offsets.offsets c.in_ok-sizes.sizes (valid_of c.args.validity) c.requires.lists c.requires.elements
    c.in_ok-offsets.ensures c.in_ok-sizes.ensures c.requires.valid).0 in
    Gives-weaker c.list_view.result _ _ (λ a e. rw e joined) c.list_view.ensures

pub returns-clause-numbers : goal.returns-clause-numbers
returns-clause-numbers c = λ h. Gives-IfOk c.list_view.result _ _ (λ a e. rw e (c.in_ok-offsets.ensures, c.in_ok-sizes.ensures, h)) c.list_view.ensures
