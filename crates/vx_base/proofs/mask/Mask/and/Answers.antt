use Rattle.std.proofs.Common.{◌≡◌, length, sym, ap, ◌∙◌}
use Rattle.vx_base.specs.MaskRuns.{marked, AreRuns}
use Rattle.vx_base.proofs.MaskRuns.{marked_from_trues}
use Rattle.vx_base.proofs.SharedRuns.{both_by_runs}
use Rattle.vx_base.proofs.mask.Mask.and.Goals as goal

pub runs_of_both-requires-clause-left : goal.runs_of_both-requires-clause-left
runs_of_both-requires-clause-left c = rw c.len-len.ensures c.runs.ensures.apart

pub runs_of_both-requires-clause-right : goal.runs_of_both-requires-clause-right
runs_of_both-requires-clause-right c = rw (c.len-len.ensures, c.requires) c.runs-2.ensures.apart

pub returns : goal.returns
returns c =
    let mine = c.args.self.now in
    let theirs = c.args.other.now in
    let m = c.from_runs.result in
    let runs = c.in_ok-runs.runs.items in
    let long : length m ≡ length mine = c.from_runs.ensures.len ∙ c.len-len.ensures in
    let apart : AreRuns (length m) runs = rw c.from_runs.ensures.len c.in_ok-runs.ensures.apart in
    both_by_runs mine theirs m c.runs.result.now c.runs-2.result.now runs c.requires (marked_from_trues mine c.runs.result.now c.runs.ensures.apart c.runs.ensures.trues)
    (marked_from_trues theirs c.runs-2.result.now c.runs-2.ensures.apart c.runs-2.ensures.trues) c.in_ok-runs.ensures.rows
    (sym (marked_from_trues m runs apart (sym c.from_runs.ensures.trues)) ∙ ap (λ n. marked n runs) long)
