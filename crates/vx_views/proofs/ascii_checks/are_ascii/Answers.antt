use Rattle.std.proofs.Common.{◌≡◌, arith, sym, subst, length, replicate, true}
use Rattle.vx_views.specs.Alone.{whole_texts}
use Rattle.vx_views.proofs.AloneViews.{whole_texts-all}
use Rattle.vx_views.proofs.AsciiChecks.{reached_more, ascii_more}
use Rattle.vx_views.proofs.ascii_checks.are_ascii.Goals as goal

pub loop-buffer-preserved : goal.loop-buffer-preserved
loop-buffer-preserved c =
    let bytes = c.as_slice-bytes.result.now in
    let index = c.loop-buffer.buffer-index in
    let at = rw (sym c.as_slice-bytes.ensures.value) at c.buffer-item.is in
    let ascii = c.if-not-is_ascii.ensures.cases in
    record {
      reached = reached_more c.args.budget c.loop-buffer.left c.args.buffers.now index bytes (omega arith) at (omega arith) ascii c.loop-buffer.invariant.reached;
      ascii = ascii_more c.args.buffers.now index bytes (omega arith) at ascii c.loop-buffer.invariant.ascii;
    }

pub returns-clause-reached : goal.returns-clause-reached
returns-clause-reached c = λ told.
    let all : c.loop-buffer.buffer-index ≡ length c.args.buffers.now = omega arith in
    subst (λ n. whole_texts c.args.budget c.args.buffers.now ≡ replicate n true) all
    (sym (whole_texts-all c.args.budget c.loop-buffer.left c.args.buffers.now c.loop-buffer.buffer-index (replicate c.loop-buffer.buffer-index true) (omega arith) c.loop-buffer.invariant.reached))
