use Rattle.std.proofs.Common.{◌<◌, ◌∙◌, below_more, length, sym, arith}
use Rattle.vx_pack.proofs.StoredTexts.{stored_value_read}
use Rattle.vx_pack.proofs.same_leaves.same_values.Goals as goal

pub loop-i-preserved : goal.loop-i-preserved
loop-i-preserved c =
    let inside : c.loop-i.i < length c.args.a.views.now = c.loop-i-test.true in
    let first = stored_value_read c.args.a c.loop-i.i c.index-a-i.result c.value_in.result.now inside c.value_in.ensures in
    let second = stored_value_read c.args.b c.loop-i.i c.index-b-i.result c.value_in-in-loop-i.result.now
    (omega (arith, inside, c.requires.same_len)) c.value_in-in-loop-i.ensures in
    below_more _ _ c.loop-i.invariant (sym first ∙ c.same_value.ensures.0 c.if-not-same_value.false ∙ second)
