use Rattle.std.proofs.Common.{◌≡◌, ◌+◌, ◌-◌, ◌*◌, ◌<◌, ◌≤◌, ◌^◌, ℕ, List, length, get_or, sum, refl, sym, ap, ◌∙◌, arith}
use Rattle.std.specs.Prelude.{slice_range}
use Rattle.vx_lists.specs.ListViews.CountBytes.{counts_of}
use Rattle.vx_lists.proofs.ListViews.CountBytes.{length-counts_of}
use Rattle.vx_lists.proofs.ListViews.ValidRuns.{counts_of-part, length-counts_part, counts_few, IsRunsTotal-more, IsRunsTotal-small, IsRunsTotal-all}
use Rattle.vx_lists.proofs.list_view.plan.typed_total.Goals as goal

pub overflow_add-total : goal.overflow_add-total
overflow_add-total g c =
    let s = g.S.NativePType.PTYPE in
    let ss : List ℕ = counts_of s c.args.sizes.now in
    let runs : List (ℕ × ℕ) = c.runs-runs.result.now in
    let i : ℕ = c.loop-run.run-index in
    let run : ℕ × ℕ = get_or runs i (0, 0) in
    let inside : i < length runs = c.loop-run-test.true in
    let filled : run.0 < run.1 = c.runs-runs.ensures.apart.filled i (0, 0) inside in
    let within : run.1 ≤ length c.args.mask.now = c.runs-runs.ensures.apart.within i (0, 0) inside in
    let rows : length c.args.mask.now ≡ length ss = c.requires.same_len ∙ sym (length-counts_of s c.args.sizes.now) in
    let part_len = length-counts_part s c.args.sizes.now c.bytes_of_run.result.now run.0 run.1 c.bytes_of_run.ensures (omega arith) (omega (arith, c.requires.same_len)) in
    let here : c.sum_counts-total.result ≡ sum (slice_range ss run.0 run.1) = c.sum_counts-total.ensures.sum ∙ ap sum (counts_of-part s c.args.sizes.now c.bytes_of_run.result.now run.0 run.1 c.bytes_of_run.ensures) in
    let more = IsRunsTotal-more ss runs i run.0 run.1 c.loop-run.total c.sum_counts-total.result (c.loop-run.total + c.sum_counts-total.result) inside refl (omega arith) (omega (arith, rows)) c.loop-run.invariant here (omega (arith, c.sum_counts-total.ensures.bounded, part_len)) refl in
    let small : c.loop-run.total + c.sum_counts-total.result ≤ (2 ^ 64 - 1) * length c.args.mask.now = IsRunsTotal-small ss c.args.mask.now runs (i + 1) (c.loop-run.total + c.sum_counts-total.result) c.runs-runs.ensures.trues more in
    omega (arith, small, c.requires.same_len, counts_few s c.args.sizes.now)

pub loop-run-preserved : goal.loop-run-preserved
loop-run-preserved g c =
    let s = g.S.NativePType.PTYPE in
    let ss : List ℕ = counts_of s c.args.sizes.now in
    let runs : List (ℕ × ℕ) = c.runs-runs.result.now in
    let i : ℕ = c.loop-run.run-index in
    let run : ℕ × ℕ = get_or runs i (0, 0) in
    let inside : i < length runs = c.loop-run-test.true in
    let filled : run.0 < run.1 = c.runs-runs.ensures.apart.filled i (0, 0) inside in
    let within : run.1 ≤ length c.args.mask.now = c.runs-runs.ensures.apart.within i (0, 0) inside in
    let rows : length c.args.mask.now ≡ length ss = c.requires.same_len ∙ sym (length-counts_of s c.args.sizes.now) in
    let part_len = length-counts_part s c.args.sizes.now c.bytes_of_run.result.now run.0 run.1 c.bytes_of_run.ensures (omega arith) (omega (arith, c.requires.same_len)) in
    let here : c.sum_counts-total.result ≡ sum (slice_range ss run.0 run.1) = c.sum_counts-total.ensures.sum ∙ ap sum (counts_of-part s c.args.sizes.now c.bytes_of_run.result.now run.0 run.1 c.bytes_of_run.ensures) in
    IsRunsTotal-more ss runs i run.0 run.1 c.loop-run.total c.sum_counts-total.result (c.loop-run.total + c.sum_counts-total.result) inside refl (omega arith) (omega (arith, rows)) c.loop-run.invariant here (omega (arith, c.sum_counts-total.ensures.bounded, part_len)) refl

pub returns : goal.returns
returns g c =
    let s = g.S.NativePType.PTYPE in
    let ss : List ℕ = counts_of s c.args.sizes.now in
    let rows : length c.args.mask.now ≡ length ss = c.requires.same_len ∙ sym (length-counts_of s c.args.sizes.now) in
    let all : length c.runs-runs.result.now ≤ c.loop-run.run-index = omega arith in
    IsRunsTotal-all ss c.args.mask.now c.runs-runs.result.now c.loop-run.run-index c.loop-run.total rows c.runs-runs.ensures.trues all c.loop-run.invariant
