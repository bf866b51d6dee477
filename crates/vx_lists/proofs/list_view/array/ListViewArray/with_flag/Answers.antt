use Rattle.std.proofs.Common.{subst}
use Rattle.vx_tree.specs.Parts.{valid_of}
use Rattle.vx_tree.specs.Tree.{Tree, list_view}
use Rattle.vx_tree.specs.Formed.{IsConsecutive, WellFormed}
use Rattle.vx_lists.specs.ListViews.{offsets_of, sizes_of}
use Rattle.vx_lists.proofs.ListViews.Plans.{flag_formed}
use Rattle.vx_lists.proofs.list_view.array.ListViewArray.with_flag.Goals as goal

pub list_view-requires : goal.list_view-requires
list_view-requires c =
    let parts = c.parts-parts.result in
    let formed : WellFormed (list_view parts.elements.now parts.offsets.now parts.sizes.now (valid_of parts.validity.now) c.args.flag) =
    flag_formed parts.elements.now parts.offsets.now parts.sizes.now (valid_of parts.validity.now) parts.flag c.args.flag c.parts-parts.ensures.formed (λ set. subst (λ (t : Tree). IsConsecutive (offsets_of t) (sizes_of t)) c.parts-parts.ensures.same (c.requires set)) in
    rw (c.in_ok-elements.ensures, c.in_ok-offsets.ensures, c.in_ok-sizes.ensures, c.in_ok-validity.ensures) formed
