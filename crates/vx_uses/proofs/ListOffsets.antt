-- Offsets between which lists lie, of flagged list views.
use Rattle.std.proofs.Common.{◌≡◌, ℕ, zero, suc, ◌+◌, ◌-◌, ◌<◌, ◌≤◌, Bool, true, false, cond, List, [], ◌∷◌, ◌++◌, length, take, drop, get_or, refl, sym, ◌∙◌, ap, subst, inl, inr, arith}
use Rattle.std.specs.Prelude.{◌≢◌, Some, None, slice_range}
use Rattle.std.proofs.lemmas.Bool.{cases_eq, cases_Bool}
use Rattle.std.proofs.lemmas.List.{get_or_append_left, get_or_at, get_or-map, length_push}
use Rattle.vx_base.specs.Rows.{Row, null, is_present, list_in, count_in}
use Rattle.vx_tree.specs.Tree.{Tree, Valid, bools, primitive, constant, dictionary, fixed_list, list_view, structure, view_array}
use Rattle.vx_tree.specs.Formed.{IsConsecutive}
use Rattle.vx_tree.specs.Meaning.{tree_len, row_at, rows, valid_mask, is_valid_at}
use Rattle.vx_lists.specs.ListViews.Layout.{lists_at, list_at, StandsFor}
use Rattle.vx_lists.specs.ListViews.{elements_of, offsets_of, sizes_of, validity_of, flag_of, with_flag, counts_in, mask_of, list_layout_of, list_rows, IsRebuilt}
use Rattle.vx_uses.specs.Uses.{AreListOffsets, first_start, list_offsets}
use Rattle.vx_uses.proofs.SummedOffsets.{are_list_offsets}

-- a rebuilt list view is flagged
pub rebuilt_flag : (t r : Tree) → (tree_len t ≡ 0 → r ≡ with_flag true t) → (flag_of t ≡ true → r ≡ t) → (tree_len t ≢ 0 → flag_of t ≡ false → IsRebuilt t r) → flag_of r ≡ true
rebuilt_flag t r empty flagged rebuilt =
    elim (cases_eq (tree_len t) 0) [
      | inl none ↦ ap flag_of (empty none)
      | inr some ↦ elim (cases_Bool (flag_of t)) [
        | inl set ↦ ap flag_of (flagged set) ∙ set
        | inr unset ↦ (rebuilt some unset).flag
      ]
    ]

-- ---- the lists

-- the list of a row in a layout
list_at_place : (es : List Row) (os ss : List ℕ) (ms : List Bool) (i : ℕ) → i < length os → length ss ≡ length os → length ms ≡ length os
    → get_or (lists_at es os ss ms) i None ≡ list_at es (get_or os i 0) (get_or ss i 0) (get_or ms i false)
list_at_place es [] ss ms i inside sizes masks = absurd (omega arith)
list_at_place es (o ∷ os) [] ms i inside sizes masks = absurd (omega arith)
list_at_place es (o ∷ os) (s ∷ ss) [] i inside sizes masks = absurd (omega arith)
list_at_place es (o ∷ os) (s ∷ ss) (m ∷ ms) zero inside sizes masks = refl
list_at_place es (o ∷ os) (s ∷ ss) (m ∷ ms) (suc i) inside sizes masks = list_at_place es os ss ms i (omega arith) (omega arith) (omega arith)

present_where : (b : Bool) (r : Row) → is_present (cond b r null) ≡ true → b ≡ true
present_where true r present = refl
present_where false r present = cc

-- a row that is present is valid
present_valid : (t : Tree) (i : ℕ) → is_present (row_at t i) ≡ true → is_valid_at (validity_of t) i ≡ true
present_valid (bools b bits v) i present = present_where (is_valid_at v i) _ present
present_valid (primitive t bs v) i present = present_where (is_valid_at v i) _ present
present_valid (constant k r n) i present = refl
present_valid (dictionary c v f) i present = refl
present_valid (fixed_list e k v n) i present = present_where (is_valid_at v i) _ present
present_valid (list_view e o s v f) i present = present_where (is_valid_at v i) _ present
present_valid (structure ns ts v n) i present = present_where (is_valid_at v i) _ present
present_valid (view_array vs bs k v) i present = present_where (is_valid_at v i) _ present

part_at : (es : List Row) (start size : ℕ) (present : Bool) → present ≡ true → list_at es start size present ≡ Some (slice_range es start (start + size))
part_at es start size true is =
    let n : size ≡ start + size - start = omega arith in ap (λ k. Some (take k (drop start es))) n
part_at es start size false is = cc

-- the laws of the places of rows, counts and masks
pub record HavePlaces : Type 0 where
  pub rows_len : (t : Tree) → length (rows t) ≡ tree_len t
  pub rows_each : (t : Tree) (i : ℕ) (d : Row) → i < tree_len t → get_or (rows t) i d ≡ row_at t i
  pub counts_len : (t : Tree) → length (counts_in t) ≡ tree_len t
  pub counts_each : (t : Tree) (i : ℕ) → i < tree_len t → get_or (counts_in t) i 0 ≡ count_in (row_at t i)
  pub mask_len : (v : Valid) (n : ℕ) → length (valid_mask v n) ≡ n
  pub mask_each : (v : Valid) (n i : ℕ) (d : Bool) → i < n → get_or (valid_mask v n) i d ≡ is_valid_at v i

module _ (places : HavePlaces) (t : Tree) (len : tree_len (offsets_of t) ≡ tree_len t) (stands : StandsFor (list_layout_of t) (list_rows t)) (follows : IsConsecutive (offsets_of t) (sizes_of t)) where
  abbrev starts : List ℕ
  starts = counts_in (offsets_of t)

  abbrev sizes : List ℕ
  sizes = counts_in (sizes_of t)

  sizes_len : tree_len (sizes_of t) ≡ tree_len t
  sizes_len = sym (places.counts_len (sizes_of t)) ∙ stands.well_formed.sizes_len ∙ places.counts_len (offsets_of t) ∙ len

  -- a row that is present is the elements from its start on, as many as its size
  list_of_row : (i : ℕ) → i < tree_len t → is_present (row_at t i) ≡ true
      → list_in (row_at t i) ≡ Some (slice_range (rows (elements_of t)) (get_or starts i 0) (get_or starts i 0 + get_or sizes i 0))
  list_of_row i inside present =
      let in_rows : i < length (rows t) = omega (arith, places.rows_len t) in
      let in_starts : i < length starts = omega (arith, places.counts_len (offsets_of t), len) in
      let valid : get_or (mask_of t) i false ≡ true = places.mask_each (validity_of t) (tree_len t) i false inside ∙ present_valid t i present in
      ap list_in (sym (places.rows_each t i null inside))
      ∙ sym (get_or-map list_in (rows t) i null None in_rows)
      ∙ ap (λ ls. get_or ls i None) (sym stands.same)
      ∙ list_at_place (rows (elements_of t)) starts sizes (mask_of t) i in_starts stands.well_formed.sizes_len stands.well_formed.mask_len
      ∙ part_at (rows (elements_of t)) (get_or starts i 0) (get_or sizes i 0) (get_or (mask_of t) i false) valid

  -- one list further, its end is the last one
  pub last_end : (i : ℕ) → i < tree_len t → (start size : ℕ) → start ≡ count_in (row_at (offsets_of t) i) → size ≡ count_in (row_at (sizes_of t) i)
      → (k : ℕ) → k + 1 ≡ i + 1 → start + size ≡ get_or starts k 0 + get_or sizes k 0
  last_end i inside start size start_is size_is k same =
      let here : k ≡ i = omega arith in
      let first = places.counts_each (offsets_of t) i (omega (arith, len)) in
      let second = places.counts_each (sizes_of t) i (omega (arith, sizes_len)) in
      let sums : start + size ≡ get_or starts i 0 + get_or sizes i 0 = omega (arith, first, second, start_is, size_is) in
      sums ∙ ap (λ n. get_or starts n 0 + get_or sizes n 0) (sym here)

  -- the starts, and after them the end of the last list, are sums of the sizes
  pub offsets_are : (end : ℕ) (offsets : List ℕ) → offsets ≡ starts ++ end ∷ [] → ((i : ℕ) → i + 1 ≡ tree_len t → end ≡ get_or starts i 0 + get_or sizes i 0) → (tree_len t ≡ 0 → end ≡ 0)
      → offsets ≡ list_offsets (first_start t) sizes
  offsets_are end offsets are last none =
      let count : length starts ≡ tree_len t = places.counts_len (offsets_of t) ∙ len in
      are ∙ are_list_offsets starts sizes end stands.well_formed.sizes_len
      (λ i inside.
      let here = places.counts_each (offsets_of t) i (omega (arith, len, count)) in
      let next = places.counts_each (offsets_of t) (i + 1) (omega (arith, len, count)) in
      let size = places.counts_each (sizes_of t) i (omega (arith, sizes_len, count)) in
      omega (arith, here, next, size, follows i (omega (arith, len, count))))
      (λ i is. last i (is ∙ count)) (λ is. none (sym count ∙ is))

  -- and between them lie the lists
  pub are_offsets : (end : ℕ) (offsets : List ℕ) → offsets ≡ starts ++ end ∷ [] → ((i : ℕ) → i + 1 ≡ tree_len t → end ≡ get_or starts i 0 + get_or sizes i 0) → (tree_len t ≡ 0 → end ≡ 0)
      → AreListOffsets t (rows (elements_of t)) offsets
  are_offsets end offsets are last none = subst (AreListOffsets t (rows (elements_of t))) (sym are) (record {
    len = length_push starts end ∙ ap (λ n. n + 1) (places.counts_len (offsets_of t) ∙ len);
    rising = λ i inside. omega (arith, start_at i inside, next_at i inside);
    within = below (tree_len t) refl;
    each = λ i inside present. list_of_row i inside present ∙ part i (start_at i inside) (next_at i inside);
  })
    where
      count : length starts ≡ tree_len t
      count = places.counts_len (offsets_of t) ∙ len

      start_at : (i : ℕ) → i < tree_len t → get_or (starts ++ end ∷ []) i 0 ≡ get_or starts i 0
      start_at i inside = get_or_append_left starts (end ∷ []) 0 i (omega (arith, count))

      next_start : (i : ℕ) → i + 1 < tree_len t → get_or starts (i + 1) 0 ≡ get_or starts i 0 + get_or sizes i 0
      next_start i inside =
          let here = places.counts_each (offsets_of t) i (omega (arith, len)) in
          let next = places.counts_each (offsets_of t) (i + 1) (omega (arith, len)) in
          let size = places.counts_each (sizes_of t) i (omega (arith, sizes_len)) in
          let end_is = follows i (omega (arith, len)) in
          omega (arith, here, next, size, end_is)

      next_at : (i : ℕ) → i < tree_len t → get_or (starts ++ end ∷ []) (i + 1) 0 ≡ get_or starts i 0 + get_or sizes i 0
      next_at i inside = elim (cases_eq (i + 1) (tree_len t)) [
        | inl is_last ↦ get_or_at starts end [] 0 (i + 1) (count ∙ sym is_last) ∙ last i is_last
        | inr more ↦ (let later : i + 1 < tree_len t = omega arith in start_at (i + 1) later ∙ next_start i later)
      ]

      below : (n : ℕ) → tree_len t ≡ n → get_or (starts ++ end ∷ []) (tree_len t) 0 ≤ length (rows (elements_of t))
      below zero is = omega (arith, get_or_at starts end [] 0 (tree_len t) count, none is)
      below (suc n) is =
          let inside : n < tree_len t = omega arith in
          let at_last : n + 1 ≡ tree_len t = omega arith in
          let fits = stands.well_formed.within n (omega (arith, count)) in
          omega (arith, get_or_at starts end [] 0 (tree_len t) count, last n at_last, fits)

      part : (i : ℕ) {from to : ℕ} → from ≡ get_or starts i 0 → to ≡ get_or starts i 0 + get_or sizes i 0
          → Some (slice_range (rows (elements_of t)) (get_or starts i 0) (get_or starts i 0 + get_or sizes i 0)) ≡ Some (slice_range (rows (elements_of t)) from to)
      part i from_is to_is = λ j. Some (slice_range (rows (elements_of t)) (sym from_is j) (sym to_is j))

-- ---- of another list view with the same rows

pub same_offsets : (t r : Tree) (elements : List Row) (offsets : List ℕ) → (tree_len r ≡ tree_len t) × ((i : ℕ) → i < tree_len r → row_at r i ≡ row_at t i)
    → AreListOffsets r elements offsets → AreListOffsets t elements offsets
same_offsets t r elements offsets same are = record {
  len = are.len ∙ ap (λ n. n + 1) same.0;
  rising = λ i inside. are.rising i (omega (arith, same.0));
  within = subst (λ n. get_or offsets n 0 ≤ length elements) same.0 are.within;
  each = λ i inside present.
      let inside_r : i < tree_len r = omega (arith, same.0) in
      let is = same.1 i inside_r in
      ap list_in (sym is) ∙ are.each i inside_r (ap is_present is ∙ present);
}
