use Rattle.std.proofs.Common.{arith}
use Rattle.simdutf8.proofs.StepsLemmas.{IsUtf8-append_ascii, IsAscii-replicate}
use Rattle.vx_views.proofs.view_checks.is_text_block.Goals as goal

pub returns : goal.returns
returns c =
    let bs = c.args.bytes in
    let said = c.finish.ensures _ (rw c.copy_from_slice.ensures.after at (c.step.ensures _ c.new.ensures)) in
    let pad = IsUtf8-append_ascii bs _ (IsAscii-replicate 48 0 (omega arith)) in
    (λ t. pad.0 (said.0 t), λ u. said.1 (pad.1 u))
