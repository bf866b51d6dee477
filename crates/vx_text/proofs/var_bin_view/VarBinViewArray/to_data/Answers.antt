use Rattle.vx_base.specs.DTypes.{dtype_meaning}
use Rattle.vx_tree.specs.Parts.{valid_of}
use Rattle.vx_text.proofs.TextParts.{resolved, resolved_data}
use Rattle.vx_text.proofs.var_bin_view.VarBinViewArray.to_data.Goals as goal

pub returns-in_err-try_clone-clause-resolve : goal.returns-in_err-try_clone-clause-resolve
returns-in_err-try_clone-clause-resolve c =
    let parts = c.parts-parts.result in
    resolved c.args.self.now parts.views.now parts.buffers.now (dtype_meaning parts.dtype.now) (valid_of parts.validity.now) c.parts-parts.ensures.same c.parts-parts.ensures.formed

pub returns-in_err-share_buffers-clause-resolve : goal.returns-in_err-share_buffers-clause-resolve
returns-in_err-share_buffers-clause-resolve c =
    let parts = c.parts-parts.result in
    resolved c.args.self.now parts.views.now parts.buffers.now (dtype_meaning parts.dtype.now) (valid_of parts.validity.now) c.parts-parts.ensures.same c.parts-parts.ensures.formed

pub invariant_of-result : goal.invariant_of-result
invariant_of-result c =
    let parts = c.parts-parts.result in
    resolved_data parts.views.now parts.buffers.now c.in_ok-try_clone.field-0 c.in_ok-share_buffers.field-0.items (dtype_meaning parts.dtype.now) (valid_of parts.validity.now) c.parts-parts.ensures.formed c.in_ok-try_clone.ensures
    c.in_ok-share_buffers.ensures

pub returns-clause-resolve : goal.returns-clause-resolve
returns-clause-resolve c =
    let parts = c.parts-parts.result in
    resolved c.args.self.now parts.views.now parts.buffers.now (dtype_meaning parts.dtype.now) (valid_of parts.validity.now) c.parts-parts.ensures.same c.parts-parts.ensures.formed
