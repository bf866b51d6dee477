use Rattle.std.proofs.Common.{◌≡◌, sym, ◌∙◌, ap}
use Rattle.vx_tree.specs.Meaning.{tree_len, valid_mask}
use Rattle.vx_tree.specs.Parts.{valid_of}
use Rattle.vx_lists.specs.ListViews.{mask_of}
use Rattle.vx_uses.proofs.ComparedLists.{mask_of_validity}
use Rattle.vx_uses.proofs.comparison.have_same_nulls.Goals as goal

pub returns : goal.returns
returns c =
    let masks = c.masks_stand_at_their_places.ensures in
    let n = c.len.result in
    let left : valid_mask (valid_of c.in_ok-mine.mine) n ≡ mask_of c.args.left.now =
    mask_of_validity masks.len masks.each c.as_array.result.now (valid_of c.in_ok-mine.mine) n c.as_array.ensures.layout c.in_ok-mine.ensures (c.len.ensures ∙ ap tree_len (sym c.as_array.ensures.value))
    ∙ ap mask_of c.as_array.ensures.value in
    let right : valid_mask (valid_of c.in_ok-theirs.theirs) n ≡ mask_of c.args.right.now =
    mask_of_validity masks.len masks.each c.as_array-2.result.now (valid_of c.in_ok-theirs.theirs) n c.as_array-2.ensures.layout c.in_ok-theirs.ensures (c.len.ensures ∙ c.requires ∙ ap tree_len (sym c.as_array-2.ensures.value))
    ∙ ap mask_of c.as_array-2.ensures.value in
    (λ same. sym left ∙ c.in_ok-mask_eq.ensures.ok.0 same ∙ right, λ same. c.in_ok-mask_eq.ensures.ok.1 (left ∙ same ∙ sym right))
