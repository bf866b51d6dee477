use Rattle.std.proofs.Common.{◌≡◌, ap, sym, subst, ◌∙◌}
use Rattle.vx_base.specs.DTypes.{dtype_meaning}
use Rattle.vx_base.proofs.Refused.{Gives-IfOk}
use Rattle.vx_tree.specs.Parts.{valid_of}
use Rattle.vx_tree.specs.Tree.{view_array}
use Rattle.vx_text.specs.Texts.{AreViewParts, HasValues}
use Rattle.vx_text.proofs.TextParts.{formed_of_parts, values_of_parts}
use Rattle.vx_text.proofs.var_bin_view.VarBinViewArray.try_new.Goals as goal

pub of_parts-requires : goal.of_parts-requires
of_parts-requires c =
    let k = dtype_meaning c.args.dtype in
    let v = valid_of c.args.validity in
    let parts : AreViewParts c.args.views c.args.buffers.items k v = subst (λ bs. AreViewParts c.args.views bs k v) c.deref.ensures.value c.in_ok-views.ensures.parts in
    formed_of_parts c.args.views c.args.buffers.items c.in_ok-views.views k v parts c.in_ok-views.ensures.views

pub returns-clause-rows : goal.returns-clause-rows
returns-clause-rows c =
    let bs = c.args.buffers.items in
    let k = dtype_meaning c.args.dtype in
    let v = valid_of c.args.validity in
    Gives-IfOk c.of_parts.result (λ a. a ≡ view_array c.in_ok-views.views bs k v) (HasValues c.args.views bs k v)
    (λ a e. subst (HasValues c.args.views bs k v) (sym (e ∙ ap (λ ws. view_array ws bs k v) c.in_ok-views.ensures.views)) (values_of_parts c.args.views bs k v)) c.of_parts.ensures
