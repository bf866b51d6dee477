use Rattle.std.proofs.Common.{length, sym, ap, ◌∙◌}
use Rattle.vx_base.proofs.MaskRuns.{length-marked}
use Rattle.vx_base.proofs.mask_values.MaskValues.len.Goals as goal

pub returns : goal.returns
returns c = sym (length-marked c.self.inside.len c.self.inside.runs.items) ∙ ap length c.self.view_is
