use Rattle.std.proofs.Common.{length, map, refl, ap, sym, ◌∙◌}
use Rattle.std.specs.List.{range_with_len}
use Rattle.vx_base.specs.DTypes.{dtype_meaning}
use Rattle.vx_base.proofs.Refused.{Gives-weaker}
use Rattle.vx_tree.specs.Tree.{view_array}
use Rattle.vx_tree.specs.Parts.{tree_of, valid_of}
use Rattle.vx_tree.specs.Meaning.{valid_mask}
use Rattle.vx_tree.specs.Formed.{WellFormed}
use Rattle.vx_tree.specs.Operations.{IsValidNulled, valid_view}
use Rattle.vx_tree.proofs.ViewArrays.{valid_views_made, nulled_formed, views_nulled}
use Rattle.vx_tree.proofs.array.ArrayRef.nulled_views.Goals as goal

pub nullable_views-requires-clause-fits : goal.nullable_views-requires-clause-fits
nullable_views-requires-clause-fits c =
    let nulled : IsValidNulled (valid_of c.in-VarBinView.validity) (valid_of c.args.nulls.now) (length c.in-VarBinView.views) (valid_of c.in_ok-validity.validity) = rw c.len.ensures at c.in_ok-validity.ensures in
    rw c.in-Ok.ensures nulled.fits

pub nullable_views-requires-clause-formed : goal.nullable_views-requires-clause-formed
nullable_views-requires-clause-formed c =
    let views = c.in-VarBinView.views in
    let buffers = c.in-VarBinView.buffers.items in
    let k = dtype_meaning c.in-VarBinView.dtype in
    let v = valid_of c.in-VarBinView.validity in
    let u = valid_of c.args.nulls.now in
    let w = valid_of c.in_ok-validity.validity in
    let ws = map (valid_view views (valid_mask w (length views))) (range_with_len 0 (length views)) in
    let nulled : IsValidNulled v u (length views) w = rw c.len.ensures at c.in_ok-validity.ensures in
    let formed : WellFormed (view_array views buffers k v) = rw c.in-VarBinView.is at c.layout.ensures.formed in
    rw (c.in-Ok.ensures, c.deref.ensures.value) (nulled_formed views buffers ws k v u w formed nulled (valid_views_made views ws w refl))

pub returns : goal.returns
returns c =
    let views = c.in-VarBinView.views in
    let buffers = c.in-VarBinView.buffers.items in
    let k = dtype_meaning c.in-VarBinView.dtype in
    let v = valid_of c.in-VarBinView.validity in
    let u = valid_of c.args.nulls.now in
    let w = valid_of c.in_ok-validity.validity in
    let ws = map (valid_view views (valid_mask w (length views))) (range_with_len 0 (length views)) in
    let same = sym c.layout.ensures.parts ∙ ap tree_of c.in-VarBinView.is in
    let nulled : IsValidNulled v u (length views) w = rw c.len.ensures at c.in_ok-validity.ensures in
    Gives-weaker c.nullable_views.result _ _
    (λ a e. views_nulled c.args.self.now a views buffers ws k v u w same (rw (c.in-Ok.ensures, c.deref.ensures.value) at e) nulled (valid_views_made views ws w refl))
    c.nullable_views.ensures
