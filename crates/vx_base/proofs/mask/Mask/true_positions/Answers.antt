use Rattle.std.proofs.Common.{length, sym, ap, ◌∙◌}
use Rattle.vx_base.proofs.TrueRuns.{length_trues}
use Rattle.vx_base.proofs.mask.Mask.true_positions.Goals as goal

pub positions_of_runs-requires : goal.positions_of_runs-requires
positions_of_runs-requires c = c.true_count.ensures ∙ sym (length_trues c.args.self.now) ∙ ap length (sym c.runs.ensures.trues)
