use Rattle.std.proofs.Common.{arith, sym, ◌∙◌}
use Rattle.vx_views.proofs.AloneViews.{whole_texts-fits, whole_texts-long, whole_texts-all}
use Rattle.vx_views.proofs.view_checks.read_ahead.Goals.{then-bytes-left, else-bytes-left}
use Rattle.vx_views.proofs.view_checks.read_ahead.Goals as goal

pub loop-buffer-preserved : goal.loop-buffer-preserved
loop-buffer-preserved c =
    let bytes = c.as_slice-bytes.result.now in
    let at = rw (sym c.as_slice-bytes.ensures.value) at c.buffer-item.is in
    rw c.in_ok-push.ensures.items (elim c.if-bytes-left.branch [
      | then-bytes-left w ↦
          whole_texts-fits c.loop-buffer.texts.items c.loop-buffer.left c.args.buffers.now c.loop-buffer.buffer-index bytes (omega arith) at
          c.if-bytes-left.left c.if-bytes-left.is_text (omega arith) (omega (arith, w.left-is)) (rw w.is_text-is w.is_utf8-is_text.ensures)
          ∙ c.loop-buffer.invariant
      | else-bytes-left w ↦
          whole_texts-long c.loop-buffer.texts.items c.loop-buffer.left c.args.buffers.now c.loop-buffer.buffer-index bytes (omega arith) at
          c.if-bytes-left.left c.if-bytes-left.is_text (omega arith) w.left-is w.is_text-is
          ∙ c.loop-buffer.invariant
    ])

pub returns : goal.returns
returns c = whole_texts-all c.args.budget c.loop-buffer.left c.args.buffers.now c.loop-buffer.buffer-index c.loop-buffer.texts.items (omega arith) c.loop-buffer.invariant
