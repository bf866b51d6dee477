use Rattle.std.proofs.Common.{◌≡◌, length, sym, ap, ◌∙◌}
use Rattle.vx_base.specs.Trues.{trues}
use Rattle.vx_base.proofs.MaskRuns.{length-marked, trues_of_runs}
use Rattle.vx_base.proofs.mask_values.MaskValues.runs.Goals as goal

pub returns-clause-apart : goal.returns-clause-apart
returns-clause-apart c =
    let long : length c.args.self.now ≡ c.self.inside.len = sym (ap length c.self.view_is) ∙ length-marked c.self.inside.len c.self.inside.runs.items in
    rw (c.deref.ensures.value, long) c.self.invariant.0

pub returns-clause-trues : goal.returns-clause-trues
returns-clause-trues c =
    rw (c.deref.ensures.value) (sym (trues_of_runs c.self.inside.len c.self.inside.runs.items c.self.invariant.0) ∙ ap trues c.self.view_is)
