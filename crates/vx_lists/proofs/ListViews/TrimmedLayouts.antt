-- The layout of lists over just the elements that they lie in.
use Rattle.std.proofs.Common.{◌≡◌, ℕ, suc, ◌+◌, ◌-◌, ◌<◌, ◌≤◌, Bool, true, false, List, [], ◌∷◌, length, take, drop, map, get_or, refl, sym, ◌∙◌, ap, arith}
use Rattle.std.specs.Prelude.{slice_range}
use Rattle.std.proofs.lemmas.List.{length-map, get_or-map, drop-take, take-take, drop-drop}
use Rattle.vx_base.proofs.ListParts.{length_part}
use Rattle.vx_lists.specs.ListViews.Layout.{ListLayout, layout, lists_at, rows_of, IsWellFormed, IsTidy, LieEndToEnd, canonical}
use Rattle.vx_lists.proofs.ListViews.TidyLayouts.{AreNullsEmpty, tidy_same}

module _ {X : Type 0} (elements : List X) (start end : ℕ) where
  -- a list within the part is a list of the part, so much lower
  list_kept : (offset size : ℕ) → start ≤ offset → offset + size ≤ end → take size (drop (offset - start) (slice_range elements start end)) ≡ take size (drop offset elements)
  list_kept offset size low high =
      let whole : end - start ≡ (offset - start) + (end - offset) = omega arith in
      let place : start + (offset - start) ≡ offset = omega arith in
      let rest : drop (offset - start) (take ((offset - start) + (end - offset)) (drop start elements)) ≡ take (end - offset) (drop (offset - start) (drop start elements)) = drop-take (offset - start) (end - offset) (drop start elements) in
      let moved : drop (offset - start) (drop start elements) ≡ drop offset elements = drop-drop (offset - start) start elements ∙ ap (λ k. drop k elements) place in
      ap (λ n. take size (drop (offset - start) (take n (drop start elements)))) whole
      ∙ ap (take size) (rest ∙ ap (take (end - offset)) moved)
      ∙ take-take size (end - offset) (drop offset elements) (omega arith)

  lists_at-trimmed : (offsets sizes : List ℕ) (mask : List Bool) → length sizes ≡ length offsets → length mask ≡ length offsets → ((i : ℕ) → i < length offsets → start ≤ get_or offsets i 0) → ((i : ℕ) → i < length offsets → get_or offsets i 0 + get_or sizes i 0 ≤ end) → lists_at (slice_range elements start end) (map (λ n. n - start) offsets) sizes mask ≡ lists_at elements offsets sizes mask
  lists_at-trimmed [] sizes mask sizes_len mask_len below above = refl
  lists_at-trimmed (offset ∷ offsets) [] mask sizes_len mask_len below above = absurd (omega arith)
  lists_at-trimmed (offset ∷ offsets) (size ∷ sizes) [] sizes_len mask_len below above = absurd (omega arith)
  lists_at-trimmed (offset ∷ offsets) (size ∷ sizes) (true ∷ mask) sizes_len mask_len below above =
      let first = list_kept offset size (below 0 (omega arith)) (above 0 (omega arith)) in
      let rest = lists_at-trimmed offsets sizes mask (omega arith) (omega arith) (λ i inside. below (suc i) (omega arith)) (λ i inside. above (suc i) (omega arith)) in
      cc
  lists_at-trimmed (offset ∷ offsets) (size ∷ sizes) (false ∷ mask) sizes_len mask_len below above =
      let rest = lists_at-trimmed offsets sizes mask (omega arith) (omega arith) (λ i inside. below (suc i) (omega arith)) (λ i inside. above (suc i) (omega arith)) in
      cc

module _ {X : Type 0} (l : ListLayout X) (well : IsWellFormed l) (start end : ℕ) (below : (i : ℕ) → i < length l.offsets → start ≤ get_or l.offsets i 0) (above : (i : ℕ) → i < length l.offsets → get_or l.offsets i 0 + get_or l.sizes i 0 ≤ end) (ordered : start ≤ end) (inside : end ≤ length l.elements) where
  abbrev trimmed : ListLayout X
  trimmed = layout (map (λ n. n - start) l.offsets) l.sizes l.mask (slice_range l.elements start end)

  rows_of-trimmed : rows_of trimmed ≡ rows_of l
  rows_of-trimmed = lists_at-trimmed l.elements start end l.offsets l.sizes l.mask well.sizes_len well.mask_len below above

  offsets_len : length trimmed.offsets ≡ length l.offsets
  offsets_len = length-map l.offsets (λ n. n - start)

  elements_len : length trimmed.elements ≡ end - start
  elements_len = length_part l.elements start end ordered inside

  lowered_at : (i : ℕ) → i < length l.offsets → get_or trimmed.offsets i 0 ≡ get_or l.offsets i 0 - start
  lowered_at i within = get_or-map (λ n. n - start) l.offsets i 0 0 within

  trimmed_well_formed : IsWellFormed trimmed
  trimmed_well_formed = record {
    sizes_len = well.sizes_len ∙ sym offsets_len;
    mask_len = well.mask_len ∙ sym offsets_len;
    within = λ i within. let here : i < length l.offsets = omega (arith, offsets_len) in omega (arith, lowered_at i here, below i here, above i here, elements_len);
  }

  -- where it starts with the first list and ends with the last one
  module _ (some : 0 < length l.offsets) (consecutive : LieEndToEnd l.offsets l.sizes) (nulls : AreNullsEmpty l.sizes l.mask) (first : get_or l.offsets 0 0 ≤ start) (last : end ≤ get_or l.offsets (length l.offsets - 1) 0 + get_or l.sizes (length l.offsets - 1) 0) where
    trimmed_tidy : IsTidy trimmed
    trimmed_tidy = record {
      first = omega (arith, lowered_at 0 some);
      consecutive = λ i within.
          let next : i + 1 < length l.offsets = omega (arith, offsets_len) in
          omega (arith, lowered_at i (omega arith), lowered_at (i + 1) next, below i (omega arith), consecutive i next);
      nulls_empty = nulls;
      none_past =
          let k : ℕ = length l.offsets - 1 in
          let here : length trimmed.offsets - 1 ≡ k = ap (λ n. n - 1) offsets_len in
          let ended : length trimmed.elements ≡ get_or trimmed.offsets k 0 + get_or l.sizes k 0 = omega (arith, elements_len, lowered_at k (omega arith), below k (omega arith), above k (omega arith)) in
          ended ∙ ap (λ n. get_or trimmed.offsets n 0 + get_or l.sizes n 0) (sym here);
    }

    pub trimmed_canonical : trimmed ≡ canonical (rows_of l)
    trimmed_canonical = tidy_same trimmed trimmed_well_formed trimmed_tidy ∙ ap canonical rows_of-trimmed
