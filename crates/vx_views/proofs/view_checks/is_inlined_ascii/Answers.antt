use Rattle.vx_views.proofs.AsciiViews.{ascii_by_front}
use Rattle.vx_views.proofs.view_checks.is_inlined_ascii.Goals as goal

pub returns : goal.returns
returns c =
    rw c.len.ensures.size
    (ascii_by_front c.args.view.now c.requires c.ascii_len.result (rw c.to_bytes.ensures at c.ascii_len.ensures.before) (rw c.to_bytes.ensures at c.ascii_len.ensures.stop))
