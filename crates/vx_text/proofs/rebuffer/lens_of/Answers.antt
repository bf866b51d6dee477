use Rattle.std.proofs.Common.{◌≡◌, ◌<◌, [], length, get_or, sym, ◌∙◌, ap, subst, arith}
use Rattle.std.proofs.lemmas.List.{get_or_default}
use Rattle.vx_views.specs.Views.{Resolves, view_value}
use Rattle.vx_views.proofs.SoundViews.{value-length}
use Rattle.vx_text.proofs.Rebuffering.{len_pushed}
use Rattle.vx_text.proofs.rebuffer.lens_of.Goals as goal

pub loop-row-preserved : goal.loop-row-preserved
loop-row-preserved c =
    let views = c.args.views.now in
    let bs = c.args.buffers.now in
    let row = c.loop-row.row in
    let kept = c.loop-row.invariant in
    let within : row < length views = omega arith in
    let view = c.index-views-row.result in
    let at : view ≡ get_or views row [] = c.index-views-row.is ∙ get_or_default views row view [] within in
    let long : c.len.result ≡ length (view_value bs (get_or views row [])) =
    c.len.ensures.size ∙ sym (value-length bs view c.len.ensures.formed (subst (Resolves bs) (sym at) (c.requires row within))) ∙ ap (λ w. length (view_value bs w)) at in
    record {
      counted = omega (arith, c.push_reserved.ensures.len, kept.counted);
      has_room = omega (arith, c.push_reserved.ensures.capacity, kept.has_room);
      lens = len_pushed (λ w. length (view_value bs w)) c.loop-row.lens.items _ views row c.len.result c.push_reserved.ensures.items kept.lens within long;
    }
