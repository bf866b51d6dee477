use Rattle.std.proofs.Common.{◌≡◌, ◌≤◌, ◌+◌, length, ap, sym, subst, ◌∙◌, arith}
use Rattle.vx_tree.specs.Parts.{tree_of}
use Rattle.vx_canonical.specs.Joined.{joined_buffers, views_in, buffers_in, AreResolved}
use Rattle.vx_canonical.proofs.JoinedViews.{counts-step, views-more, named-short}
use Rattle.std.proofs.lemmas.Grind.{common_steps}
use Rattle.vx_canonical.proofs.layouts.var_bin_view.joined_views.Goals as goal

pub add_views-requires-clause-few : goal.add_views-requires-clause-few
add_views-requires-clause-few c =
    let ts = c.args.arrays.now in
    let i = c.loop-array.array-index in
    let t = c.array-item.result in
    let same = sym c.layout.ensures.parts ∙ ap tree_of c.in-VarBinView.is in
    let resolved : AreResolved t = subst AreResolved (sym c.array-item.is) (c.requires.resolved i t c.loop-array-test.true) in
    let step = counts-step ts i t c.loop-array-test.true c.array-item.is in
    let within : c.loop-array.base + length (buffers_in t) ≤ length (joined_buffers ts) = omega (arith, step, c.loop-array.invariant.1) in
    let short = named-short t c.loop-array.base (length (joined_buffers ts)) resolved within c.requires.few in
    rw c.as_slice.ensures (rw (ap views_in same) at short)

pub loop-array-preserved : goal.loop-array-preserved
loop-array-preserved c =
    let ts = c.args.arrays.now in
    let i = c.loop-array.array-index in
    let t = c.array-item.result in
    let same = sym c.layout.ensures.parts ∙ ap tree_of c.in-VarBinView.is in
    let long : c.len-base.result ≡ length (buffers_in t) = rw (ap buffers_in same) (omega (arith, c.len-base.ensures, c.in-VarBinView.buffers.ok.0)) in
    let step = counts-step ts i t c.loop-array-test.true c.array-item.is in (
      views-more ts i t c.loop-array.base c.len-base.result c.as_slice.result.now c.loop-array.joined.items c.add_views.new.out.items c.loop-array-test.true c.array-item.is
          (c.as_slice.ensures ∙ sym (ap views_in same)) long c.loop-array.invariant.0 c.in_ok-add_views.ensures,
      omega (arith, step, long, c.loop-array.invariant.1),
    )

pub returns : goal.returns
returns c = grind (arith, common_steps)
