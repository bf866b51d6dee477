use Rattle.std.proofs.Common.{◌≡◌, ◌*◌, ◌<◌, ◌≤◌, ℕ, List, length, get_or, refl, sym, ap, subst, ◌∙◌, arith}
use Rattle.std.specs.Prelude.{pos, slice_range}
use Rattle.std.specs.List.{All}
use Rattle.vx_base.specs.Integers.{byte_width, Holds}
use Rattle.vx_lists.specs.ListViews.CountBytes.{counts_of, HoldCounts}
use Rattle.vx_lists.proofs.ListViews.CountBytes.{length-counts_of}
use Rattle.vx_lists.proofs.ListViews.ValidRuns.{counts_of-part, length-counts_part, sizes_held, run_room, length-run, run_put, HoldCounts-zeroes, HoldCounts-all}
use Rattle.vx_lists.proofs.list_view.plan.put_valid_sizes.Goals as goal

pub loop-run-init : goal.loop-run-init
loop-run-init g c =
    let s = g.S.NativePType.PTYPE in
    let t = g.N.NativePType.PTYPE in
    let ss : List ℕ = counts_of s c.args.sizes.now in
    let rows : length c.args.mask.now ≡ length ss = c.requires.same_len ∙ sym (length-counts_of s c.args.sizes.now) in
    HoldCounts-zeroes t ss c.args.out.now (length c.args.mask.now) rows (rw c.requires.same_len c.requires.zeroed)

pub overflow_mul-start : goal.overflow_mul-start
overflow_mul-start g c =
    let s = g.S.NativePType.PTYPE in
    let ss : List ℕ = counts_of s c.args.sizes.now in
    let rows : length c.args.mask.now ≡ length ss = c.requires.same_len ∙ sym (length-counts_of s c.args.sizes.now) in
    let wide : c.byte_width-width.result ≡ byte_width g.N.NativePType.PTYPE = c.byte_width-width.ensures ∙ ap byte_width c.PTYPE.ensures in
    let room = run_room g.N.NativePType.PTYPE ss c.loop-run.out c.args.mask.now c.runs-runs.result.now c.loop-run.run-index c.byte_width-width.result wide rows c.runs-runs.ensures.apart c.loop-run-test.true c.loop-run.invariant in
    omega (arith, room.0, room.1)

pub overflow_mul-end : goal.overflow_mul-end
overflow_mul-end g c =
    let s = g.S.NativePType.PTYPE in
    let ss : List ℕ = counts_of s c.args.sizes.now in
    let rows : length c.args.mask.now ≡ length ss = c.requires.same_len ∙ sym (length-counts_of s c.args.sizes.now) in
    let wide : c.byte_width-width.result ≡ byte_width g.N.NativePType.PTYPE = c.byte_width-width.ensures ∙ ap byte_width c.PTYPE.ensures in
    let room = run_room g.N.NativePType.PTYPE ss c.loop-run.out c.args.mask.now c.runs-runs.result.now c.loop-run.run-index c.byte_width-width.result wide rows c.runs-runs.ensures.apart c.loop-run-test.true c.loop-run.invariant in
    omega (arith, room.1)

pub slice_bounds-put_counts-count : goal.slice_bounds-put_counts-count
slice_bounds-put_counts-count g c =
    let s = g.S.NativePType.PTYPE in
    let ss : List ℕ = counts_of s c.args.sizes.now in
    let rows : length c.args.mask.now ≡ length ss = c.requires.same_len ∙ sym (length-counts_of s c.args.sizes.now) in
    let wide : c.byte_width-width.result ≡ byte_width g.N.NativePType.PTYPE = c.byte_width-width.ensures ∙ ap byte_width c.PTYPE.ensures in
    (run_room g.N.NativePType.PTYPE ss c.loop-run.out c.args.mask.now c.runs-runs.result.now c.loop-run.run-index c.byte_width-width.result wide rows c.runs-runs.ensures.apart c.loop-run-test.true c.loop-run.invariant).0

pub slice_bounds-put_counts-start : goal.slice_bounds-put_counts-start
slice_bounds-put_counts-start g c =
    let s = g.S.NativePType.PTYPE in
    let ss : List ℕ = counts_of s c.args.sizes.now in
    let rows : length c.args.mask.now ≡ length ss = c.requires.same_len ∙ sym (length-counts_of s c.args.sizes.now) in
    let wide : c.byte_width-width.result ≡ byte_width g.N.NativePType.PTYPE = c.byte_width-width.ensures ∙ ap byte_width c.PTYPE.ensures in
    (run_room g.N.NativePType.PTYPE ss c.loop-run.out c.args.mask.now c.runs-runs.result.now c.loop-run.run-index c.byte_width-width.result wide rows c.runs-runs.ensures.apart c.loop-run-test.true c.loop-run.invariant).0

pub slice_bounds-put_counts-end : goal.slice_bounds-put_counts-end
slice_bounds-put_counts-end g c =
    let s = g.S.NativePType.PTYPE in
    let ss : List ℕ = counts_of s c.args.sizes.now in
    let rows : length c.args.mask.now ≡ length ss = c.requires.same_len ∙ sym (length-counts_of s c.args.sizes.now) in
    let wide : c.byte_width-width.result ≡ byte_width g.N.NativePType.PTYPE = c.byte_width-width.ensures ∙ ap byte_width c.PTYPE.ensures in
    (run_room g.N.NativePType.PTYPE ss c.loop-run.out c.args.mask.now c.runs-runs.result.now c.loop-run.run-index c.byte_width-width.result wide rows c.runs-runs.ensures.apart c.loop-run-test.true c.loop-run.invariant).1

pub put_counts-requires-clause-held : goal.put_counts-requires-clause-held
put_counts-requires-clause-held g c =
    let s = g.S.NativePType.PTYPE in
    let t = g.N.NativePType.PTYPE in
    let ss : List ℕ = counts_of s c.args.sizes.now in
    let i : ℕ = c.loop-run.run-index in
    let run : ℕ × ℕ = get_or c.runs-runs.result.now i (0, 0) in
    let filled : run.0 < run.1 = c.runs-runs.ensures.apart.filled i (0, 0) c.loop-run-test.true in
    let within : run.1 ≤ length c.args.mask.now = c.runs-runs.ensures.apart.within i (0, 0) c.loop-run-test.true in
    let rows : length c.args.mask.now ≡ length ss = c.requires.same_len ∙ sym (length-counts_of s c.args.sizes.now) in
    let held = sizes_held t ss c.args.mask.now c.runs-runs.result.now i run.0 run.1 rows c.runs-runs.ensures.trues c.loop-run-test.true refl (omega arith) (omega (arith, rows)) c.requires.holds.1 in
    subst (All (λ n. Holds t (pos n))) (sym (counts_of-part s c.args.sizes.now c.bytes_of_run-present.result.now run.0 run.1 c.bytes_of_run-present.ensures)) held

pub put_counts-requires-clause-room : goal.put_counts-requires-clause-room
put_counts-requires-clause-room g c =
    let s = g.S.NativePType.PTYPE in
    let t = g.N.NativePType.PTYPE in
    let ss : List ℕ = counts_of s c.args.sizes.now in
    let i : ℕ = c.loop-run.run-index in
    let run : ℕ × ℕ = get_or c.runs-runs.result.now i (0, 0) in
    let filled : run.0 < run.1 = c.runs-runs.ensures.apart.filled i (0, 0) c.loop-run-test.true in
    let within : run.1 ≤ length c.args.mask.now = c.runs-runs.ensures.apart.within i (0, 0) c.loop-run-test.true in
    let rows : length c.args.mask.now ≡ length ss = c.requires.same_len ∙ sym (length-counts_of s c.args.sizes.now) in
    let wide : c.byte_width-width.result ≡ byte_width t = c.byte_width-width.ensures ∙ ap byte_width c.PTYPE.ensures in
    let part_len = length-counts_part s c.args.sizes.now c.bytes_of_run-present.result.now run.0 run.1 c.bytes_of_run-present.ensures (omega arith) (omega (arith, c.requires.same_len)) in
    length-run t ss c.loop-run.out c.args.mask.now c.runs-runs.result.now i c.byte_width-width.result wide rows c.runs-runs.ensures.apart c.loop-run-test.true c.loop-run.invariant
    ∙ ap (λ n. n * byte_width t) (sym part_len)

pub loop-run-preserved : goal.loop-run-preserved
loop-run-preserved g c =
    let s = g.S.NativePType.PTYPE in
    let t = g.N.NativePType.PTYPE in
    let ss : List ℕ = counts_of s c.args.sizes.now in
    let i : ℕ = c.loop-run.run-index in
    let run : ℕ × ℕ = get_or c.runs-runs.result.now i (0, 0) in
    let rows : length c.args.mask.now ≡ length ss = c.requires.same_len ∙ sym (length-counts_of s c.args.sizes.now) in
    let wide : c.byte_width-width.result ≡ byte_width t = c.byte_width-width.ensures ∙ ap byte_width c.PTYPE.ensures in
    let part : HoldCounts t c.put_counts.new.out (slice_range ss run.0 run.1) = subst (HoldCounts t c.put_counts.new.out) (counts_of-part s c.args.sizes.now c.bytes_of_run-present.result.now run.0 run.1 c.bytes_of_run-present.ensures) c.put_counts.ensures in
    run_put t ss c.loop-run.out c.args.mask.now c.runs-runs.result.now i c.byte_width-width.result wide rows c.runs-runs.ensures.apart c.loop-run-test.true c.loop-run.invariant c.put_counts.new.out part

pub returns : goal.returns
returns g c =
    let ss : List ℕ = counts_of g.S.NativePType.PTYPE c.args.sizes.now in
    let all : length c.runs-runs.result.now ≤ c.loop-run.run-index = omega arith in
    HoldCounts-all g.N.NativePType.PTYPE ss c.loop-run.out c.args.mask.now c.runs-runs.result.now c.loop-run.run-index c.runs-runs.ensures.apart c.runs-runs.ensures.trues all c.loop-run.invariant
