-- Offsets of lists that lie one after another, as sums of their sizes.
use Rattle.std.proofs.Common.{◌≡◌, ℕ, zero, suc, ◌+◌, ◌<◌, List, [], ◌∷◌, ◌++◌, length, map, get_or, sum, true, false, refl, sym, ◌∙◌, ap, ap₂, inl, inr, arith}
use Rattle.std.specs.Prelude.{◌≢◌}
use Rattle.std.proofs.lemmas.Bool.{cases_eq, cases_Bool}
use Rattle.std.proofs.lemmas.List.{length-map}
use Rattle.std.proofs.lemmas.List.Sums.{sum_by-cons}
use Rattle.vx_base.specs.Rows.{list_in}
use Rattle.vx_tree.specs.Tree.{Tree}
use Rattle.vx_tree.specs.Meaning.{tree_len, kind_of, rows}
use Rattle.vx_lists.specs.ListViews.Layout.{size_of, starts_from}
use Rattle.vx_lists.specs.ListViews.{is_list_view, offsets_of, sizes_of, flag_of, with_flag, counts_in, list_rows, IsRebuilt}
use Rattle.vx_uses.specs.Uses.{list_offsets, first_start, offsets_by}
use Rattle.vx_uses.proofs.EndToEnd.{rebuilt_offsets, rebuilt_sizes}
use Rattle.vx_uses.proofs.ListFlags.{kind_under_flag}

sum-cons : (x : ℕ) (xs : List ℕ) → sum (x ∷ xs) ≡ x + sum xs
sum-cons x xs = sum_by-cons (λ (n : ℕ). n) x xs

-- each of these sizes leads from one offset to the next
abbrev Follow : List ℕ → List ℕ → Type 0
Follow os ss = (i : ℕ) → suc i < length os → get_or os i 0 + get_or ss i 0 ≡ get_or os (suc i) 0

-- then each offset is where its list starts
starts_follow : (os ss : List ℕ) → length ss ≡ length os → Follow os ss → os ≡ starts_from (get_or os 0 0) ss
starts_follow [] [] len follows = refl
starts_follow [] (s ∷ ss) len follows = absurd (omega arith)
starts_follow (o ∷ os) [] len follows = absurd (omega arith)
starts_follow (o ∷ []) (s ∷ []) len follows = refl
starts_follow (o ∷ []) (s ∷ t ∷ ss) len follows = absurd (omega arith)
starts_follow (o ∷ p ∷ os) (s ∷ []) len follows = absurd (omega arith)
starts_follow (o ∷ p ∷ os) (s ∷ t ∷ ss) len follows =
    let rest = starts_follow (p ∷ os) (t ∷ ss) (omega arith) (λ i inside. follows (suc i) (omega arith)) in
    ap (λ xs. o ∷ xs) (rest ∙ ap (λ k. starts_from k (t ∷ ss)) (sym (follows 0 (omega arith))))

-- and the last list ends where the sizes sum to
last_of_sum : (os ss : List ℕ) → length ss ≡ length os → Follow os ss → (i : ℕ) → suc i ≡ length os → get_or os i 0 + get_or ss i 0 ≡ get_or os 0 0 + sum ss
last_of_sum [] ss len follows i last = absurd (omega arith)
last_of_sum (o ∷ os) [] len follows i last = absurd (omega arith)
last_of_sum (o ∷ []) (s ∷ []) len follows zero last = omega (arith, sum-cons s [])
last_of_sum (o ∷ []) (s ∷ []) len follows (suc i) last = absurd (omega arith)
last_of_sum (o ∷ []) (s ∷ t ∷ ss) len follows i last = absurd (omega arith)
last_of_sum (o ∷ p ∷ os) (s ∷ []) len follows i last = absurd (omega arith)
last_of_sum (o ∷ p ∷ os) (s ∷ t ∷ ss) len follows zero last = absurd (omega arith)
last_of_sum (o ∷ p ∷ os) (s ∷ t ∷ ss) len follows (suc i) last =
    let rest = last_of_sum (p ∷ os) (t ∷ ss) (omega arith) (λ k inside. follows (suc k) (omega arith)) i (omega arith) in
    omega (arith, rest, follows 0 (omega arith), sum-cons s (t ∷ ss))

-- offsets, and after them the end of the last list
pub are_list_offsets : (os ss : List ℕ) (end : ℕ) → length ss ≡ length os → ((i : ℕ) → i + 1 < length os → get_or os i 0 + get_or ss i 0 ≡ get_or os (i + 1) 0)
    → ((i : ℕ) → i + 1 ≡ length os → end ≡ get_or os i 0 + get_or ss i 0) → (length os ≡ 0 → end ≡ 0) → os ++ end ∷ [] ≡ list_offsets (get_or os 0 0) ss
are_list_offsets [] [] end len follows last none = ap (λ n. n ∷ []) (none refl)
are_list_offsets [] (s ∷ ss) end len follows last none = absurd (omega arith)
are_list_offsets (o ∷ os) ss end len follows last none =
    let follow : Follow (o ∷ os) ss = λ i inside. follows i (omega arith) ∙ ap (λ k. get_or (o ∷ os) k 0) {x = i + 1} {y = suc i} (omega arith) in
    let starts = starts_follow (o ∷ os) ss len follow in
    let at_end = last (length os) (omega arith) ∙ last_of_sum (o ∷ os) ss len follow (length os) (omega arith) in
    ap₂ (λ xs n. xs ++ n ∷ []) starts at_end

-- ---- of a list view that was laid end to end, by whether it was flagged

no_items : {A : Type 0} (xs : List A) → length xs ≡ 0 → xs ≡ []
no_items [] none = refl
no_items (x ∷ xs) none = absurd (omega arith)

first-starts_from : (sizes : List ℕ) → get_or (starts_from 0 sizes) 0 0 ≡ 0
first-starts_from [] = refl
first-starts_from (size ∷ sizes) = refl

abbrev own_offsets : Tree → List ℕ
own_offsets t = list_offsets (first_start t) (counts_in (sizes_of t))

-- by the laws that rows and counts are as many as the array is long
module _ (rows_len : (t : Tree) → length (rows t) ≡ tree_len t) (counts_len : (t : Tree) → length (counts_in t) ≡ tree_len t) (t r : Tree) (empty : tree_len t ≡ 0 → r ≡ with_flag true t) (flagged : flag_of t ≡ true → r ≡ t) (rebuilt : tree_len t ≢ 0 → flag_of t ≡ false → IsRebuilt t r) where
  pub rebuilt_list_offsets : tree_len (offsets_of t) ≡ tree_len t → tree_len (sizes_of t) ≡ tree_len t → own_offsets r ≡ offsets_by (flag_of t) t
  rebuilt_list_offsets offsets_len sizes_len = elim (cases_Bool (flag_of t)) [
    | inl set ↦ ap own_offsets (flagged set) ∙ ap (λ f. offsets_by f t) (sym set)
    | inr unset ↦ elim (cases_eq (tree_len t) 0) [
      | inl none ↦
          let no_offsets : counts_in (offsets_of t) ≡ [] = no_items (counts_in (offsets_of t)) (counts_len (offsets_of t) ∙ offsets_len ∙ none) in
          let no_sizes : counts_in (sizes_of t) ≡ [] = no_items (counts_in (sizes_of t)) (counts_len (sizes_of t) ∙ sizes_len ∙ none) in
          let no_lists : list_rows t ≡ [] = no_items (list_rows t) (length-map (rows t) list_in ∙ rows_len t ∙ none) in
          ap own_offsets (empty none) ∙ ap₂ (λ os ss. list_offsets (get_or os 0 0) ss) no_offsets no_sizes ∙ ap (λ ls. list_offsets 0 (map size_of ls)) (sym no_lists) ∙ ap (λ f. offsets_by f t) (sym unset)
      | inr some ↦
          let is = rebuilt some unset in
          ap₂ (λ os ss. list_offsets (get_or os 0 0) ss) (rebuilt_offsets t r is) (rebuilt_sizes t r is)
          ∙ ap (λ n. list_offsets n (map size_of (list_rows t))) (first-starts_from (map size_of (list_rows t))) ∙ ap (λ f. offsets_by f t) (sym unset)
    ]
  ]

  pub rebuilt_kind : is_list_view t ≡ true → kind_of r ≡ kind_of t
  rebuilt_kind is_view = elim (cases_Bool (flag_of t)) [
    | inl set ↦ ap kind_of (flagged set)
    | inr unset ↦ elim (cases_eq (tree_len t) 0) [
      | inl none ↦ ap kind_of (empty none) ∙ kind_under_flag true t is_view
      | inr some ↦ (rebuilt some unset).kind
    ]
  ]
