use Rattle.std.proofs.Common.{◌≡◌, length, ap, sym, subst, ◌∙◌}
use Rattle.vx_base.specs.DTypes.{dtype_meaning}
use Rattle.vx_base.proofs.Refused.{Gives-IfOk}
use Rattle.vx_tree.specs.Meaning.{valid_mask}
use Rattle.vx_tree.specs.Parts.{valid_of}
use Rattle.vx_tree.specs.Tree.{view_array}
use Rattle.vx_tree.proofs.Positions.{mask_long}
use Rattle.vx_text.specs.Texts.{HasValues, emptied_views}
use Rattle.vx_text.proofs.TextParts.{formed_of_parts, values_of_parts}
use Rattle.vx_text.proofs.var_bin_view.VarBinViewArray.new.Goals as goal

pub emptied-requires : goal.emptied-requires
emptied-requires c =
    let v = valid_of c.args.validity in
    mask_long v c.in_ok-mask.mask (length c.args.views) (c.in_ok-mask.ensures.mask ∙ ap (valid_mask v) c.len.ensures)

pub of_parts-requires : goal.of_parts-requires
of_parts-requires c =
    let v = valid_of c.args.validity in
    let made : c.in_ok-views.views ≡ emptied_views c.args.views (valid_mask v (length c.args.views)) =
    c.in_ok-views.ensures ∙ ap (emptied_views c.args.views) (c.in_ok-mask.ensures.mask ∙ ap (valid_mask v) c.len.ensures) in
    formed_of_parts c.args.views c.args.buffers.items c.in_ok-views.views (dtype_meaning c.args.dtype) v c.requires made

pub returns-clause-rows : goal.returns-clause-rows
returns-clause-rows c =
    let bs = c.args.buffers.items in
    let k = dtype_meaning c.args.dtype in
    let v = valid_of c.args.validity in
    let made : c.in_ok-views.views ≡ emptied_views c.args.views (valid_mask v (length c.args.views)) =
    c.in_ok-views.ensures ∙ ap (emptied_views c.args.views) (c.in_ok-mask.ensures.mask ∙ ap (valid_mask v) c.len.ensures) in
    Gives-IfOk c.of_parts.result (λ a. a ≡ view_array c.in_ok-views.views bs k v) (HasValues c.args.views bs k v)
    (λ a e. subst (HasValues c.args.views bs k v) (sym (e ∙ ap (λ ws. view_array ws bs k v) made)) (values_of_parts c.args.views bs k v)) c.of_parts.ensures
