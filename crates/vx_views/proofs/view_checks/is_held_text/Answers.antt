use Rattle.vx_views.proofs.view_checks.is_held_text.Goals as goal

pub returns-then-is_text_block : goal.returns-then-is_text_block
returns-then-is_text_block c = rw (c.to_bytes-bytes.ensures, c.len.ensures.size) at c.is_text_range.ensures
