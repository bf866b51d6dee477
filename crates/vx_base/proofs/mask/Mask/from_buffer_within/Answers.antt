use Rattle.std.proofs.Common.{◌≡◌, length, sym, ap, ◌∙◌}
use Rattle.vx_base.specs.MaskRuns.{marked, AreRuns}
use Rattle.vx_base.proofs.MaskRuns.{marked_from_trues}
use Rattle.vx_base.proofs.Edges.{both_within}
use Rattle.vx_base.proofs.mask.Mask.from_buffer_within.Goals as goal

pub returns : goal.returns
returns c =
    let bits = c.args.bits.now.bits in
    let valid = c.args.valid.now in
    let m = c.from_runs.result in
    let runs = c.in_ok-runs.runs.items in
    let long : length m ≡ length bits = c.from_runs.ensures.len ∙ c.len.ensures in
    let apart : AreRuns (length m) runs = rw long c.in_ok-runs.ensures.apart in
    both_within bits valid m c.runs.result.now runs c.requires (marked_from_trues valid c.runs.result.now c.runs.ensures.apart c.runs.ensures.trues) c.in_ok-runs.ensures.rows
    (sym (marked_from_trues m runs apart (sym c.from_runs.ensures.trues)) ∙ ap (λ n. marked n runs) long)
