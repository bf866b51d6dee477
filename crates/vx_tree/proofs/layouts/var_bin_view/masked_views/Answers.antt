use Rattle.std.proofs.Common.{◌≡◌, ◌∙◌, ap, length, arith}
use Rattle.std.specs.Vec.{with_items}
use Rattle.std.proofs.lemmas.List.{with_items_is}
use Rattle.vx_tree.proofs.RunViews.{views_kept}
use Rattle.vx_tree.proofs.layouts.var_bin_view.masked_views.Goals as goal

pub returns : goal.returns
returns c =
    let views = c.args.views in
    let made = c.in_ok-made.made in
    let out = c.empty_between.new.views in
    let items : (with_items made out).items ≡ out = with_items_is made out (omega (arith, c.deref_mut.ensures.len, c.empty_between.ensures.len)) in
    let all : c.deref_mut.result.now ≡ views = c.deref_mut.ensures.value ∙ c.in_ok-made.ensures in
    items ∙ views_kept views out c.args.mask.now c.runs.result.now c.runs.ensures.apart c.runs.ensures.trues c.requires (c.empty_between.ensures.len ∙ ap length all) (rw all at c.empty_between.ensures.emptied)
