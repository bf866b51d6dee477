use Rattle.std.proofs.Common.{true, false, length, arith, ap, ◌∙◌}
use Rattle.vx_views.proofs.TextsAround.{open_bytes_more, open_bytes_all}
use Rattle.vx_views.proofs.texts_around.open_bytes.Goals.{then-not-texts-block, else-not-texts-block}
use Rattle.vx_views.proofs.texts_around.open_bytes.Goals as goal

pub loop-block-preserved : goal.loop-block-preserved
loop-block-preserved c = elim c.if-not-texts-block.branch [
  | then-not-texts-block w ↦
      let more = open_bytes_more c.args.texts.now c.args.buffers.now c.loop-block.block false c.index-buffers-block.result c.requires (omega arith) w.if-not-texts-block.true c.index-buffers-block.is in
      (omega (arith, more, w.count-is, ap length w.as_slice.ensures.value, c.loop-block.invariant.0), omega (arith, w.count-is, c.loop-block.invariant.1))
  | else-not-texts-block w ↦
      let more = open_bytes_more c.args.texts.now c.args.buffers.now c.loop-block.block true c.index-buffers-block.result c.requires (omega arith) w.if-not-texts-block.false c.index-buffers-block.is in
      (omega (arith, more, w.count-is, c.loop-block.invariant.0), omega (arith, w.count-is, c.loop-block.invariant.1))
]

pub returns : goal.returns
returns c = c.loop-block.invariant.0 ∙ open_bytes_all c.args.texts.now c.args.buffers.now c.loop-block.block c.requires (omega arith)
