use Rattle.std.proofs.Common.{◌≡◌, ◌∙◌, [], ap, length, map, refl, sym}
use Rattle.std.specs.List.{range_with_len}
use Rattle.std.proofs.lemmas.List.{length-map}
use Rattle.vx_base.specs.DTypes.{dtype_meaning}
use Rattle.vx_base.specs.Selections.{item_of_position}
use Rattle.vx_base.proofs.Refused.{Gives-weaker}
use Rattle.vx_tree.specs.Tree.{view_array}
use Rattle.vx_tree.specs.Parts.{tree_of, valid_of}
use Rattle.vx_tree.specs.Meaning.{valid_mask}
use Rattle.vx_tree.specs.Formed.{WellFormed}
use Rattle.vx_tree.specs.Operations.{IsValidNulled, AreBelow, valid_view}
use Rattle.vx_tree.proofs.TakenViews.{views_taken}
use Rattle.vx_tree.proofs.array.ArrayRef.take_views.Goals as goal

pub nullable_views-requires-clause-fits : goal.nullable_views-requires-clause-fits
nullable_views-requires-clause-fits c =
    let views = c.in-VarBinView.views in
    let ps = c.args.selection.now in
    let picked : c.in-Ok.gathered ≡ map (item_of_position [] views) ps = rw c.as_slice.ensures at (c.in-Ok.ensures []) in
    let long : length c.in-Ok.gathered ≡ length ps = ap length picked ∙ length-map ps (item_of_position [] views) in
    let nulled : IsValidNulled (valid_of c.in_ok-selected.selected) (valid_of c.args.nulls.now) (length c.in-Ok.gathered) (valid_of c.in_ok-nulled.nulled) = rw (long, ← c.len.ensures) c.in_ok-nulled.ensures in
    nulled.fits

pub nullable_views-requires-clause-formed : goal.nullable_views-requires-clause-formed
nullable_views-requires-clause-formed c =
    let t = c.args.self.now in
    let views = c.in-VarBinView.views in
    let buffers = c.in-VarBinView.buffers.items in
    let k = dtype_meaning c.in-VarBinView.dtype in
    let v = valid_of c.in-VarBinView.validity in
    let s = valid_of c.in_ok-selected.selected in
    let u = valid_of c.args.nulls.now in
    let w = valid_of c.in_ok-nulled.nulled in
    let ps = c.args.selection.now in
    let gathered = c.in-Ok.gathered in
    let ws = map (valid_view gathered (valid_mask w (length gathered))) (range_with_len 0 (length gathered)) in
    let same = sym c.layout.ensures.parts ∙ ap tree_of c.in-VarBinView.is in
    let formed : WellFormed (view_array views buffers k v) = rw c.in-VarBinView.is at c.layout.ensures.formed in
    let below : AreBelow (length views) ps = rw same at c.requires.within in
    let picked : gathered ≡ map (item_of_position [] views) ps = rw c.as_slice.ensures at (c.in-Ok.ensures []) in
    let long : length gathered ≡ length ps = ap length picked ∙ length-map ps (item_of_position [] views) in
    let nulled : IsValidNulled s u (length gathered) w = rw (long, ← c.len.ensures) c.in_ok-nulled.ensures in
    rw c.deref.ensures.value (views_taken t t views buffers gathered ws k v s u w ps same formed below picked c.in_ok-selected.ensures nulled refl).formed

pub returns : goal.returns
returns c =
    let t = c.args.self.now in
    let views = c.in-VarBinView.views in
    let buffers = c.in-VarBinView.buffers.items in
    let k = dtype_meaning c.in-VarBinView.dtype in
    let v = valid_of c.in-VarBinView.validity in
    let s = valid_of c.in_ok-selected.selected in
    let u = valid_of c.args.nulls.now in
    let w = valid_of c.in_ok-nulled.nulled in
    let ps = c.args.selection.now in
    let gathered = c.in-Ok.gathered in
    let ws = map (valid_view gathered (valid_mask w (length gathered))) (range_with_len 0 (length gathered)) in
    let same = sym c.layout.ensures.parts ∙ ap tree_of c.in-VarBinView.is in
    let formed : WellFormed (view_array views buffers k v) = rw c.in-VarBinView.is at c.layout.ensures.formed in
    let below : AreBelow (length views) ps = rw same at c.requires.within in
    let picked : gathered ≡ map (item_of_position [] views) ps = rw c.as_slice.ensures at (c.in-Ok.ensures []) in
    let long : length gathered ≡ length ps = ap length picked ∙ length-map ps (item_of_position [] views) in
    let nulled : IsValidNulled s u (length gathered) w = rw (long, ← c.len.ensures) c.in_ok-nulled.ensures in
    Gives-weaker c.nullable_views.result _ _
    (λ a e. (views_taken t a views buffers gathered ws k v s u w ps same formed below picked c.in_ok-selected.ensures nulled refl).taken (rw c.deref.ensures.value at e))
    c.nullable_views.ensures
