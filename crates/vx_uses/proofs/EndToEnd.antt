-- The numbers of a rebuilt list view, by the rows that it has.
use Rattle.std.proofs.Common.{◌≡◌, ℕ, ◌+◌, ◌<◌, ◌≤◌, List, [], ◌∷◌, ◌++◌, length, take, map, get_or, sum, Option, true, refl, sym, ◌∙◌, ap, subst, arith}
use Rattle.std.proofs.lemmas.List.{take_more, take_all}
use Rattle.vx_base.specs.Rows.{Row, count_in}
use Rattle.std.specs.List.{flat_map}
use Rattle.vx_base.specs.Kinds.{lists, is_nullable_kind}
use Rattle.vx_tree.specs.Tree.{Tree, bools, primitive, constant, dictionary, fixed_list, list_view, structure, view_array}
use Rattle.vx_tree.specs.Meaning.{tree_len, kind_of, row_at, rows}
use Rattle.vx_lists.specs.ListViews.Layout.{items_of, size_of, starts_from}
use Rattle.vx_lists.specs.ListViews.{is_list_view, elements_of, offsets_of, sizes_of, counts_in, list_rows, IsRebuilt}

pub rebuilt_offsets : (t r : Tree) → IsRebuilt t r → counts_in (offsets_of r) ≡ starts_from 0 (map size_of (list_rows t))
rebuilt_offsets t r is = ap (λ l. l.offsets) is.canonical_layout

pub rebuilt_sizes : (t r : Tree) → IsRebuilt t r → counts_in (sizes_of r) ≡ map size_of (list_rows t)
rebuilt_sizes t r is = ap (λ l. l.sizes) is.canonical_layout

pub rebuilt_elements : (t r : Tree) → IsRebuilt t r → rows (elements_of r) ≡ flat_map items_of (list_rows t)
rebuilt_elements t r is = ap (λ l. l.elements) is.canonical_layout

-- by the laws that each row has its place, and that joined lists have all elements
pub rebuilt_count : ((t : Tree) → length (rows t) ≡ tree_len t) → ((ls : List (Option (List Row))) → length (flat_map items_of ls) ≡ sum (map size_of ls))
    → (t r : Tree) → IsRebuilt t r → tree_len (elements_of r) ≡ sum (map size_of (list_rows t))
rebuilt_count row_count joined t r is = sym (row_count (elements_of r)) ∙ ap length (rebuilt_elements t r is) ∙ joined (list_rows t)

-- lists are of the kind of their elements
pub list_kind : (r : Tree) → is_list_view r ≡ true → kind_of r ≡ lists (kind_of (elements_of r)) (is_nullable_kind (kind_of r))
list_kind (list_view e o s v f) is = refl
list_kind (bools b bits v) is = cc
list_kind (primitive t bs v) is = cc
list_kind (constant k r n) is = cc
list_kind (dictionary c v f) is = cc
list_kind (fixed_list e k v n) is = cc
list_kind (structure ns ts v n) is = cc
list_kind (view_array vs bs k v) is = cc

-- ---- the offsets, one after another

module _ (count_len : (t : Tree) → length (counts_in t) ≡ tree_len t) (count_each : (t : Tree) (i : ℕ) → i < tree_len t → get_or (counts_in t) i 0 ≡ count_in (row_at t i)) (r t : Tree) (same : r ≡ t) where
  pub one_more : (i n : ℕ) (before now : List ℕ) → i < tree_len (offsets_of t) → before ≡ take i (counts_in (offsets_of r)) → now ≡ before ++ n ∷ [] → n ≡ count_in (row_at (offsets_of t) i) → now ≡ take (i + 1) (counts_in (offsets_of r))
  one_more i n before now inside were pushed read =
      let count : get_or (counts_in (offsets_of r)) i 0 ≡ n = ap (λ x. get_or (counts_in (offsets_of x)) i 0) same ∙ count_each (offsets_of t) i inside ∙ sym read in
      let enough : i < length (counts_in (offsets_of r)) = subst (λ x. i < length (counts_in (offsets_of x))) (sym same) (omega (arith, count_len (offsets_of t))) in
      pushed ∙ ap (λ xs. xs ++ n ∷ []) were ∙ ap (λ k. take i (counts_in (offsets_of r)) ++ k ∷ []) (sym count)
      ∙ sym (take_more (counts_in (offsets_of r)) i 0 enough)

  pub all_read : (i : ℕ) (read : List ℕ) → tree_len (offsets_of t) ≤ i → read ≡ take i (counts_in (offsets_of r)) → read ≡ counts_in (offsets_of t)
  all_read i read done were =
      let len : length (counts_in (offsets_of t)) ≤ i = omega (arith, count_len (offsets_of t)) in
      were ∙ ap (λ x. take i (counts_in (offsets_of x))) same ∙ take_all i (counts_in (offsets_of t)) len
