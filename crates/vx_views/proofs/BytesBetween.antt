-- The values of a heap that is cut at offsets: each is the bytes between its two offsets.
use Rattle.std.proofs.Common.{◌≡◌, ℕ, ℤ, ◌+◌, ◌<◌, ◌≤◌, None, List, length, get_or, slice_range, unsigned_abs, ◌∙◌, ap, arith}
use Rattle.std.proofs.lemmas.List.Sums.{sum_by-take-le}
use Rattle.vx_views.specs.BuildFaults.{lengths_of, differences, first_offset, last_offset, used_part, bytes_between, offsets_fault}
use Rattle.vx_base.specs.Integers.{number_nth}
use Rattle.vx_views.specs.Places.{place_of, value_at, AreBuilt, ReadBack}
use Rattle.vx_views.proofs.CutOpen.{sum_more}
use Rattle.vx_views.proofs.CutPlaces.{slice_slice}
use Rattle.vx_views.proofs.Differences.{length_differences}
use Rattle.vx_views.proofs.NoFaults.{length-lengths_of}
use Rattle.vx_views.proofs.OffsetFacts.{AreFaultlessOffsets, AreFaultlessOffsets-none, sum_differences-part, sum_differences}

value-between : (limit : ℕ) (heap : List ℕ) (offsets : List ℤ) → AreFaultlessOffsets limit (length heap) offsets → (row : ℕ) → row + 1 < length offsets
    → value_at (used_part heap offsets) (lengths_of (differences offsets)) row ≡ bytes_between heap offsets row
value-between limit heap offsets sound row h =
    let lens = lengths_of (differences offsets) in
    let row_in : row < length lens = omega (arith, length_differences offsets, length-lengths_of (differences offsets)) in
    let more : place_of lens (row + 1) ≡ place_of lens row + get_or lens row 0 = omega (arith, sum_more lens row row_in) in
    let low : first_offset offsets + place_of lens row ≡ unsigned_abs (number_nth offsets row) = omega (arith, sum_differences-part offsets sound.ordered row (omega arith)) in
    let high : first_offset offsets + place_of lens row + get_or lens row 0 ≡ unsigned_abs (number_nth offsets (row + 1)) = omega (arith, more, sum_differences-part offsets sound.ordered (row + 1) h) in
    let fits : first_offset offsets + place_of lens row + get_or lens row 0 ≤ last_offset offsets = omega (arith, more, sum_differences offsets sound.ordered sound.some, sum_by-take-le (λ (x : ℕ). x) lens (row + 1)) in
    ap (λ end. slice_range (used_part heap offsets) (place_of lens row) end) more
    ∙ slice_slice heap (first_offset offsets) (last_offset offsets) (place_of lens row) (get_or lens row 0) fits
    ∙ ap (λ begin. slice_range heap begin (first_offset offsets + place_of lens row + get_or lens row 0)) low
    ∙ ap (slice_range heap (unsigned_abs (number_nth offsets row))) high

pub ReadBack-between : (start limit : ℕ) (heap : List ℕ) (offsets : List ℤ) (buffers views : List (List ℕ)) → offsets_fault limit (length heap) offsets ≡ None
    → AreBuilt start limit (used_part heap offsets) (lengths_of (differences offsets)) buffers views
    → ReadBack start (value_at (used_part heap offsets) (lengths_of (differences offsets))) buffers views → ReadBack start (bytes_between heap offsets) buffers views
ReadBack-between start limit heap offsets buffers views none built back =
    let sound = AreFaultlessOffsets-none limit (length heap) offsets none in
    record {
      resolve = back.resolve;
      read = λ before row there row_in.
          back.read before row there row_in
          ∙ value-between limit heap offsets sound row (omega (arith, built.one_each, length_differences offsets, length-lengths_of (differences offsets)));
    }
