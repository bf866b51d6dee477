use Rattle.std.proofs.Common.{◌<◌, ◌≡◌, ◌+◌, ◌-◌, [], ◌∷◌, ◌++◌, length, get_or, ap, ◌∙◌, pos, unsigned_abs, slice_range, arith, rules}
use Rattle.vx_views.specs.BuildFaults.{lengths_of, negative_at, too_long_at}
use Rattle.vx_base.specs.Integers.{number_nth}
use Rattle.vx_views.specs.Views.{view_of}
use Rattle.vx_views.proofs.CutPlaces.{HasRoom, HasRoom-kept, HasRoom-closed, IsCutting-pushed, AreDone, AreDone-close, AreDone-empty}
use Rattle.vx_views.proofs.CutStops.{stop-negative, stop-fits_not, stop-number}
use Rattle.vx_base.proofs.FirstFaults.{first_fault-next}
use Rattle.vx_views.proofs.NoFaults.{not_negative_at, not_too_long_at, length_at, length-lengths_of}
use Rattle.vx_views.proofs.build.cut_heap.Given.{Over}
use Rattle.vx_views.proofs.build.cut_heap.Goals as goal
use Rattle.vx_views.proofs.build.cut_heap.Goals.{then-limit-size-via-then-limit-size, then-limit-size-via-else-limit-size+then-bytes-at, then-limit-at+else-number+in_ok-slice+in_ok-push, else-limit-at, then-begin-at+in_ok-slice-2+in_ok-push-3, else-begin-at}

pub returns-in_default-clause-stopped : goal.returns-in_default-clause-stopped
returns-in_default-clause-stopped g c =
    stop-negative c.args.start c.args.limit (length c.args.heap.now) (g.L.Lengths.numbers c.args.lengths.now) c.loop-row.row (omega arith) c.in_default.ensures.negative

pub returns-then-limit-size-clause-stopped : goal.returns-then-limit-size-clause-stopped
returns-then-limit-size-clause-stopped g c =
    elim c.then-limit-size.branch [
      | then-limit-size-via-then-limit-size w ↦ stop-fits_not c.args.start c.args.limit (length c.args.heap.now) (g.L.Lengths.numbers c.args.lengths.now) c.loop-row.row c.loop-row.at c.in-Some.size (omega arith) c.in-Some.ensures.length c.loop-row.invariant.cutting.at_is (λ fits ends. omega arith)
      | then-limit-size-via-else-limit-size+then-bytes-at w ↦ stop-fits_not c.args.start c.args.limit (length c.args.heap.now) (g.L.Lengths.numbers c.args.lengths.now) c.loop-row.row c.loop-row.at c.in-Some.size (omega arith) c.in-Some.ensures.length c.loop-row.invariant.cutting.at_is (λ fits ends. omega (arith, ap length c.as_slice-bytes.ensures.value))
    ]

pub returns-then-number-clause-stopped : goal.returns-then-number-clause-stopped
returns-then-number-clause-stopped g c = λ _.
    stop-number c.args.start c.args.limit c.args.heap.now (g.L.Lengths.numbers c.args.lengths.now) c.loop-row.row c.loop-row.buffers.items c.loop-row.views.items c.loop-row.number c.loop-row.begin c.loop-row.at c.in-Some.size c.loop-row.invariant.cutting (omega arith) c.in-Some.ensures.length (omega arith) (omega arith) (omega arith)

pub loop-row-preserved : goal.loop-row-preserved
loop-row-preserved g c =
    let row_in : c.loop-row.row < length (g.L.Lengths.numbers c.args.lengths.now) = omega arith in
    let k_in : c.loop-row.row < length (lengths_of (g.L.Lengths.numbers c.args.lengths.now)) = omega (arith, length-lengths_of (g.L.Lengths.numbers c.args.lengths.now)) in
    let is : number_nth (g.L.Lengths.numbers c.args.lengths.now) c.loop-row.row ≡ pos c.in-Some.size = c.in-Some.ensures.length in
    let len : get_or (lengths_of (g.L.Lengths.numbers c.args.lengths.now)) c.loop-row.row 0 ≡ c.in-Some.size = length_at (g.L.Lengths.numbers c.args.lengths.now) c.loop-row.row row_in ∙ ap unsigned_abs is in
    let room : HasRoom c.args.start c.args.limit c.args.heap.now (lengths_of (g.L.Lengths.numbers c.args.lengths.now)) c.loop-row.row c.if-limit-at.buffers.items c.loop-row.views.items c.if-limit-at.number c.if-limit-at.begin =
    elim c.if-limit-at.branch [
      | then-limit-at+else-number+in_ok-slice+in_ok-push w ↦ HasRoom-closed _ _ _ _ _ c.in-Some.size c.loop-row.buffers.items _ _ c.loop-row.number _ c.loop-row.begin _ c.loop-row.at (search rules) (search rules) (search rules) len k_in (omega arith) w.if-limit-at.true c.loop-row.invariant.cutting
      | else-limit-at w ↦ HasRoom-kept _ _ _ _ _ c.in-Some.size c.loop-row.buffers.items _ _ c.loop-row.number _ c.loop-row.begin _ c.loop-row.at (search rules) (search rules) (search rules) len k_in w.if-limit-at.false c.loop-row.invariant.cutting
    ] in
    record {
      cutting = IsCutting-pushed _ _ _ _ _ c.in-Some.size _ c.loop-row.views.items _ _ _ c.loop-row.at c.make_view.result (c.make_view.ensures ∙ ap (λ bytes. view_of (slice_range bytes c.loop-row.at (c.loop-row.at + c.in-Some.size)) c.if-limit-at.number (c.loop-row.at - c.if-limit-at.begin)) c.as_slice-bytes.ensures.value) (search rules) len k_in c.loop-row.invariant.cutting.at_is room;
      none_negative = first_fault-next (negative_at (g.L.Lengths.numbers c.args.lengths.now)) c.loop-row.row c.loop-row.invariant.none_negative (not_negative_at (g.L.Lengths.numbers c.args.lengths.now) c.loop-row.row c.in-Some.size is);
      none_too_long = first_fault-next (too_long_at c.args.limit (g.L.Lengths.numbers c.args.lengths.now)) c.loop-row.row c.loop-row.invariant.none_too_long (not_too_long_at c.args.limit (g.L.Lengths.numbers c.args.lengths.now) c.loop-row.row c.in-Some.size is (omega arith));
      within = omega (arith, ap length c.as_slice-bytes.ensures.value);
    }

done : (g : Over) (c : goal.Joined-begin-at g) → AreDone c.args.start c.args.limit c.args.heap.now (lengths_of (g.L.Lengths.numbers c.args.lengths.now)) c.if-begin-at.buffers.items c.loop-row.views.items
done g c =
    let numbers = g.L.Lengths.numbers c.args.lengths.now in
    let all : length (lengths_of numbers) ≡ c.loop-row.row = omega (arith, length-lengths_of numbers) in
    let whole : length c.args.heap.now ≡ c.loop-row.at = omega (arith, ap length c.as_slice-bytes.ensures.value) in
    elim c.if-begin-at.branch [
      | then-begin-at+in_ok-slice-2+in_ok-push-3 w ↦ let e : c.if-begin-at.buffers.items ≡ c.loop-row.buffers.items ++ slice_range c.args.heap.now c.loop-row.begin c.loop-row.at ∷ [] = search rules in rw e (AreDone-close c.args.start c.args.limit c.args.heap.now (lengths_of numbers) c.loop-row.row c.loop-row.buffers.items c.loop-row.views.items c.loop-row.number c.loop-row.begin c.loop-row.at c.loop-row.invariant.cutting all whole w.if-begin-at.true (omega arith) (omega arith))
      | else-begin-at w ↦ let e : c.if-begin-at.buffers.items ≡ c.loop-row.buffers.items = search rules in rw e (AreDone-empty c.args.start c.args.limit c.args.heap.now (lengths_of numbers) c.loop-row.row c.loop-row.buffers.items c.loop-row.views.items c.loop-row.number c.loop-row.begin c.loop-row.at c.loop-row.invariant.cutting all whole w.if-begin-at.false (omega arith) (omega arith))
    ]

pub returns-clause-built : goal.returns-clause-built
returns-clause-built g c = (done g c).built

pub returns-clause-read_back : goal.returns-clause-read_back
returns-clause-read_back g c = (done g c).read_back
