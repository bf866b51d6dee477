use Rattle.std.proofs.Common.{ap, ◌∙◌}
use Rattle.vx_base.specs.MaskRuns.{marked}
use Rattle.vx_base.proofs.MaskRuns.{marked_from_trues}
use Rattle.vx_base.proofs.mask_rows.MaskRows.new.Goals as goal

pub returns : goal.returns
returns c = ap (λ n. marked n c.runs.result.now) c.len.ensures ∙ marked_from_trues c.args.mask.now c.runs.result.now c.runs.ensures.apart c.runs.ensures.trues
