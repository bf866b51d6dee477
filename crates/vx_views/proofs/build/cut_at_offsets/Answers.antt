use Rattle.std.proofs.Common.{◌≡◌, ◌<◌, ◌+◌, ◌-◌, ◌^◌, ℕ, List, None, map, length, sym, ap, ◌∙◌, subst}
use Rattle.vx_views.specs.Cut.{IsCut}
use Rattle.vx_views.specs.BuildFaults.{lengths_of, differences, lengths_fault, offsets_fault, IsUsedRange}
use Rattle.vx_views.proofs.BuildRefusals.{made-weaker, stopped-weaker, length-used}
use Rattle.vx_views.proofs.OffsetFacts.{lengths_fault-sound, offsets_fault-sound}
use Rattle.vx_views.proofs.build.cut_at_offsets.Goals as goal

pub returns-in_ok-heap-in-Some-clause-faultless : goal.returns-in_ok-heap-in-Some-clause-faultless
returns-in_ok-heap-in-Some-clause-faultless g c =
    let offsets = map g.P.Number.value c.args.offsets.now in
    let range : IsUsedRange (length c.args.bytes.now) offsets c.in-Some.first c.in-Some.last = subst (λ n. IsUsedRange n offsets c.in-Some.first c.in-Some.last) c.len.ensures.value c.in-Some.ensures.some in
    let long : length c.in_ok-heap-in-Some.heap ≡ c.in-Some.last - c.in-Some.first = ap length c.in_ok-heap-in-Some.ensures ∙ length-used c.args.bytes.now c.in-Some.first c.in-Some.last range.in_order range.within in
    made-weaker (λ _. lengths_fault c.args.limit (length c.in_ok-heap-in-Some.heap) (differences offsets) ≡ None) (λ _. offsets_fault c.args.limit (length c.args.bytes.now) offsets ≡ None) c.cut_heap.result
    (λ _ e. offsets_fault-sound c.args.limit (length c.args.bytes.now) offsets c.in-Some.first c.in-Some.last range (ap (λ n. lengths_fault c.args.limit n (differences offsets)) (sym long) ∙ e)) c.cut_heap.ensures.faultless

pub returns-in_ok-heap-in-Some-clause-stopped : goal.returns-in_ok-heap-in-Some-clause-stopped
returns-in_ok-heap-in-Some-clause-stopped g c =
    let offsets = map g.P.Number.value c.args.offsets.now in
    let range : IsUsedRange (length c.args.bytes.now) offsets c.in-Some.first c.in-Some.last = subst (λ n. IsUsedRange n offsets c.in-Some.first c.in-Some.last) c.len.ensures.value c.in-Some.ensures.some in
    let long : length c.in_ok-heap-in-Some.heap ≡ c.in-Some.last - c.in-Some.first = ap length c.in_ok-heap-in-Some.ensures ∙ length-used c.args.bytes.now c.in-Some.first c.in-Some.last range.in_order range.within in
    let past = (ends : List ℕ) → IsCut c.args.limit (lengths_of (differences offsets)) ends → 2 ^ 32 < c.args.start + length ends in
    stopped-weaker (lengths_fault c.args.limit (length c.in_ok-heap-in-Some.heap) (differences offsets) ≡ None → past) (offsets_fault c.args.limit (length c.args.bytes.now) offsets ≡ None → past) c.cut_heap.result
    (λ h e. h (ap (λ n. lengths_fault c.args.limit n (differences offsets)) long ∙ lengths_fault-sound c.args.limit (length c.args.bytes.now) offsets c.in-Some.first c.in-Some.last range e)) c.cut_heap.ensures.stopped
