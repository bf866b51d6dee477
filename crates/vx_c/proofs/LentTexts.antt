-- Texts between offsets, in bytes that are a text.
use Rattle.std.proofs.Common.{◌≡◌, ℕ, ℤ, pos, ◌+◌, ◌-◌, ◌<◌, ◌≤◌, List, length, take, drop, ap, sym, subst, inl, inr, arith, unsigned_abs, IsUtf8}
use Rattle.std.specs.Prelude.{slice_range}
use Rattle.std.proofs.lemmas.Bool.{cases_lt}
use Rattle.std.proofs.lemmas.Str.{IsUtf8-nil}
use Rattle.vx_views.specs.Utf8.{IsBoundary}
use Rattle.vx_views.proofs.Utf8Ranges.{boundaries_decide}
use Rattle.vx_c.specs.Spans.{past_first, between}

abbrev pub AreTextsBefore : List ℤ → List ℕ → ℕ → Type 0
AreTextsBefore offsets heap row = (i : ℕ) → i + 1 < row → IsUtf8 (between offsets heap i)

-- from one boundary of a text to another
text_between : (heap : List ℕ) (start end : ℕ) → IsUtf8 heap → start ≤ end → end ≤ length heap → IsBoundary heap start → IsBoundary heap end → IsUtf8 (slice_range heap start end)
text_between heap start end text order within starts ends =
    elim (cases_lt start end) [
      | inl some ↦ (boundaries_decide heap text start end some within).1 (starts, ends)
      | inr none ↦
          let zero : end - start ≡ 0 = omega arith in
          subst IsUtf8 (ap (λ n. take n (drop start heap)) (sym zero)) IsUtf8-nil
    ]

-- one text more
pub texts_more : (offsets : List ℤ) (heap : List ℕ) (row start end : ℕ) → IsUtf8 heap → 0 < row → past_first offsets (row - 1) ≡ pos start
    → past_first offsets row ≡ pos end → start ≤ end → end ≤ length heap → IsBoundary heap start → IsBoundary heap end
    → AreTextsBefore offsets heap row → AreTextsBefore offsets heap (row + 1)
texts_more offsets heap row start end text some starts ends order within first last before i l =
    elim (cases_lt (i + 1) row) [
      | inl less ↦ before i less
      | inr here ↦
          let same : row - 1 ≡ i = omega arith in
          let next : row ≡ i + 1 = omega arith in
          let from : start ≡ unsigned_abs (past_first offsets i) = ap unsigned_abs (sym (subst (λ k. past_first offsets k ≡ pos start) same starts)) in
          let to : end ≡ unsigned_abs (past_first offsets (i + 1)) = ap unsigned_abs (sym (subst (λ k. past_first offsets k ≡ pos end) next ends)) in
          subst (λ e. IsUtf8 (slice_range heap (unsigned_abs (past_first offsets i)) e)) to
          (subst (λ s. IsUtf8 (slice_range heap s end)) from (text_between heap start end text order within first last))
    ]
