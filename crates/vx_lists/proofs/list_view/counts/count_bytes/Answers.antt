use Rattle.std.proofs.Common.{◌≡◌, sym, subst, ◌∙◌, ap}
use Rattle.vx_base.specs.Kinds.{integer_type}
use Rattle.vx_tree.specs.Formed.{WellFormed}
use Rattle.vx_tree.specs.Meaning.{kind_of}
use Rattle.vx_tree.specs.Parts.{tree_of, valid_of}
use Rattle.vx_tree.specs.Tree.{primitive}
use Rattle.vx_lists.specs.ListViews.CountBytes.{HoldCounts}
use Rattle.vx_lists.specs.ListViews.{counts_in}
use Rattle.vx_lists.proofs.ListViews.CountArrays.{number_bytes_hold}
use Rattle.vx_lists.proofs.list_view.counts.count_bytes.Goals as goal

pub returns-in-Primitive : goal.returns-in-Primitive
returns-in-Primitive c =
    let a = c.args.array.now in
    let ptype = c.in-Primitive.ptype in
    let bytes = c.in-Primitive.bytes in
    let validity = valid_of c.in-Primitive.validity in
    let parts : a ≡ primitive ptype bytes validity = sym c.layout.ensures.parts ∙ ap tree_of c.in-Primitive.is in
    let formed : WellFormed (primitive ptype bytes validity) = subst WellFormed (ap tree_of c.in-Primitive.is) c.layout.ensures.formed in
    subst (λ bs. HoldCounts (integer_type (kind_of a)) bs (counts_in a)) (sym c.in_ok-try_clone.ensures) (number_bytes_hold a ptype bytes validity parts formed c.requires)
