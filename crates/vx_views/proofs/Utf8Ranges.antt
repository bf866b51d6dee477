-- In UTF-8 bytes the ranges that are UTF-8 begin and end at boundaries.
use Rattle.std.proofs.Common.{◌≡◌, ℕ, ◌+◌, ◌-◌, ◌<◌, ◌≤◌, List, length, get_or, take, drop, IsUtf8, IsCharBoundary, subst, ap, sym, ◌∙◌, inl, inr, arith, length-take, length-drop}
use Rattle.std.proofs.lemmas.Bool.{cases_lt}
use Rattle.std.proofs.lemmas.List.{get_or-take, get_or-drop}
use Rattle.std.proofs.lemmas.Str.{IsUtf8-between, IsUtf8-drop, IsCharBoundary-start, IsCharBoundary-from_take, IsCharBoundary-from_rest}
use Rattle.vx_views.specs.Utf8.{IsBoundary, BoundariesDecideRanges}

boundary_as_std : (bytes : List ℕ) (p : ℕ) → IsBoundary bytes p → IsCharBoundary bytes p
boundary_as_std bytes p (inl e) = (omega arith, λ within. absurd (omega arith))
boundary_as_std bytes p (inr (within, not)) = (omega arith, λ _ high. elim (cases_lt (get_or bytes p 0) 192) [ inl low ↦ absurd (not (omega arith, omega arith)) | inr h ↦ h ])

boundary_from_std : (bytes : List ℕ) (p : ℕ) → IsCharBoundary bytes p → IsBoundary bytes p
boundary_from_std bytes p at = elim (cases_lt p (length bytes)) [ inl within ↦ inr (within, λ r. let high = at.1 within r.0 in omega arith) | inr past ↦ inl (omega arith) ]

module _ (bytes : List ℕ) (text : IsUtf8 bytes) (start end : ℕ) (order : start < end) (within : end ≤ length bytes) where
  starts : IsUtf8 (take (end - start) (drop start bytes)) → IsCharBoundary bytes start
  starts part =
      let first = IsCharBoundary-start _ part in
      let at : start + 0 ≡ start = omega arith in
      let same : get_or (take (end - start) (drop start bytes)) 0 0 ≡ get_or bytes start 0 =
      get_or-take (end - start) (drop start bytes) 0 0 (omega arith) ∙ get_or-drop start bytes 0 0 ∙ ap (λ (i : ℕ). get_or bytes i 0) at in
      (omega arith, λ _ high. subst (λ (b : ℕ). 192 ≤ b) same (first.1 (omega (arith, length-take (end - start) (drop start bytes), length-drop start bytes)) (subst (λ (b : ℕ). 128 ≤ b) (sym same) high)))

  ends : IsUtf8 (take (end - start) (drop start bytes)) → IsCharBoundary bytes end
  ends part =
      let at : start + (end - start) ≡ end = omega arith in
      subst (IsCharBoundary bytes) at
      (IsCharBoundary-from_rest bytes start (end - start) (omega arith)
      (IsCharBoundary-from_take (drop start bytes) (end - start) (IsUtf8-drop bytes start text (starts part)) (omega (arith, length-drop start bytes)) part))

pub boundaries_decide : (bytes : List ℕ) → IsUtf8 bytes → BoundariesDecideRanges bytes
boundaries_decide bytes text start end order within = (
  λ part. (boundary_from_std bytes start (starts bytes text start end order within part), boundary_from_std bytes end (ends bytes text start end order within part)),
  λ at. IsUtf8-between bytes start end text (omega arith) (boundary_as_std bytes start at.0) (boundary_as_std bytes end at.1),
)
