use Rattle.std.proofs.Common.{◌≡◌, length, ap, sym, ◌∙◌, arith}
use Rattle.vx_tree.specs.Parts.{tree_of}
use Rattle.vx_canonical.specs.Joined.{buffers_in}
use Rattle.vx_canonical.proofs.JoinedViews.{counts-step}
use Rattle.vx_canonical.proofs.layouts.var_bin_view.buffer_count.Goals as goal

pub loop-array-preserved : goal.loop-array-preserved
loop-array-preserved c =
    let t = c.array-item.result in
    let same = sym c.layout.ensures.parts ∙ ap tree_of c.in-VarBinView.is in
    let long : c.len-count.result ≡ length (buffers_in t) = rw (ap buffers_in same) (omega (arith, c.len-count.ensures, c.in-VarBinView.buffers.ok.0)) in
    let step = counts-step c.args.arrays.now c.loop-array.array-index t c.loop-array-test.true c.array-item.is in
    omega (arith, step, long, c.loop-array.invariant, c.len-count.ensures)
