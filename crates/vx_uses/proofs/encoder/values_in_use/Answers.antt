use Rattle.std.proofs.Common.{◌∙◌, ap₂}
use Rattle.vx_tree.specs.Meaning.{rows}
use Rattle.vx_tree.specs.Operations.{filtered}
use Rattle.vx_uses.proofs.encoder.values_in_use.Goals as goal

pub returns-clause-values : goal.returns-clause-values
returns-clause-values c = (
  c.in_ok-marks.marks.bits,
  c.in_ok-marks.ensures.bits,
  c.in_ok-values.ensures.rows ∙ ap₂ (λ mask vs. filtered mask (rows vs)) c.in_ok-used.ensures c.values.ensures,
)
