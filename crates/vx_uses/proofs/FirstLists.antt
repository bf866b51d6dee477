-- The lists [3, 4], [1], [2, 3] over the elements 1 to 4, rebuilt.
use Rattle.std.proofs.Common.{◌≡◌, ℕ, ◌+◌, ◌<◌, Bool, true, false, List, [], ◌∷◌, length, map, get_or, Option, Some, sym, ◌∙◌, ap, arith}
use Rattle.std.specs.Prelude.{◌≢◌, ℤ, pos, slice_range}
use Rattle.std.specs.List.{range_with_len, flat_map}
use Rattle.vx_base.specs.Rows.{Row, null, items, whole, count_in, list_in}
use Rattle.vx_base.specs.declared.ptypes.PType.TheVariants.{I32, U32}
use Rattle.vx_base.specs.Kinds.{Kind, integers, lists, is_integers}
use Rattle.vx_tree.specs.Tree.{Tree, bools, primitive, constant, dictionary, fixed_list, list_view, structure, view_array, non_nullable}
use Rattle.vx_base.specs.Integers.{number_nth}
use Rattle.vx_tree.specs.Meaning.{tree_len, kind_of, row_at, rows, rows_range}
use Rattle.vx_leaves.specs.Leaves.{IsPrimitive}
use Rattle.vx_lists.specs.ListViews.Layout.{items_of, size_of, starts_from}
use Rattle.vx_lists.specs.ListViews.{is_list_view, counts_in, elements_of, offsets_of, sizes_of, flag_of, list_rows, IsRebuilt}
use Rattle.vx_uses.proofs.EndToEnd.{rebuilt_offsets, rebuilt_elements}

abbrev pub elements : List ℤ
elements = pos 1 ∷ pos 2 ∷ pos 3 ∷ pos 4 ∷ []

abbrev pub offsets : List ℤ
offsets = pos 2 ∷ pos 0 ∷ pos 1 ∷ []

abbrev pub sizes : List ℤ
sizes = pos 2 ∷ pos 1 ∷ pos 2 ∷ []

abbrev pub counts : List ℕ → List Row
counts [] = []
counts (n ∷ ns) = whole (pos n) ∷ counts ns

-- the lists of these sizes from these offsets on, as rows
abbrev lists_over : List ℤ → List ℤ → List ℤ → List (Option (List Row))
lists_over es os ss =
    map list_in (map (λ i. items (rows_range (λ k. whole (number_nth es k)) (count_in (whole (number_nth os i))) (count_in (whole (number_nth ss i))))) (range_with_len 0 (length os)))

-- the kind of the items of lists
abbrev item_kind : Kind → Kind
item_kind (lists k n) = k
item_kind k = k

-- the elements of a list view of lists have the kind of their items
elements_kind : (r : Tree) (k : Kind) (n : Bool) → is_list_view r ≡ true → kind_of r ≡ lists k n → kind_of (elements_of r) ≡ k
elements_kind (list_view e o s v f) k n is p = ap item_kind p
elements_kind (bools b bits v) k n is p = cc
elements_kind (primitive t bs v) k n is p = cc
elements_kind (constant j r m) k n is p = cc
elements_kind (dictionary c v f) k n is p = cc
elements_kind (fixed_list e j v m) k n is p = cc
elements_kind (structure ns ts v m) k n is p = cc
elements_kind (view_array vs bs j v) k n is p = cc

-- what is known of the rebuilt lists
pub record IsFirst (r : Tree) : Type 0 where
  pub len : tree_len r ≡ 3
  pub start : count_in (row_at (offsets_of r) 2) ≡ 3
  pub size : count_in (row_at (sizes_of r) 2) ≡ 2
  pub elements : rows (elements_of r) ≡ counts (3 ∷ 4 ∷ 1 ∷ 2 ∷ 3 ∷ [])

-- the laws that rows and counts stand at their places
pub record ArePlaced : Type 0 where
  pub rows_len : (t : Tree) → length (rows t) ≡ tree_len t
  pub rows_each : (t : Tree) (i : ℕ) (d : Row) → i < tree_len t → get_or (rows t) i d ≡ row_at t i
  pub counts_len : (t : Tree) → length (counts_in t) ≡ tree_len t
  pub counts_each : (t : Tree) (i : ℕ) → i < tree_len t → get_or (counts_in t) i 0 ≡ count_in (row_at t i)

module _ (law : ArePlaced) (e o s t r : Tree) (e_is : IsPrimitive I32 elements non_nullable e) (o_is : IsPrimitive U32 offsets non_nullable o) (s_is : IsPrimitive U32 sizes non_nullable s) (t_is : t ≡ list_view e o s non_nullable false) where
  lists_are : list_rows t ≡ Some (counts (3 ∷ 4 ∷ [])) ∷ Some (counts (1 ∷ [])) ∷ Some (counts (2 ∷ 3 ∷ [])) ∷ []
  lists_are =
      ap list_rows t_is
      ∙ (λ i. list_rows (list_view (e_is.tree i) (o_is.tree i) (s_is.tree i) non_nullable false))
      ∙ (λ i. lists_over (e_is.same i) (o_is.same i) (s_is.same i))

  three_lists : tree_len t ≡ 3
  three_lists = ap tree_len t_is ∙ ap tree_len o_is.tree ∙ ap length o_is.same

  pub first_rebuilt : (tree_len t ≢ 0 → flag_of t ≡ false → IsRebuilt t r) → IsFirst r
  first_rebuilt rebuild =
      let is : IsRebuilt t r = rebuild (λ none. omega (arith, three_lists)) (ap flag_of t_is) in
      let starts : counts_in (offsets_of r) ≡ 0 ∷ 2 ∷ 3 ∷ [] = rebuilt_offsets t r is ∙ ap (λ ls. starts_from 0 (map size_of ls)) lists_are in
      let lens : counts_in (sizes_of r) ≡ 2 ∷ 1 ∷ 2 ∷ [] = ap (λ l. l.sizes) is.canonical_layout ∙ ap (map size_of) lists_are in
      let offset_count : tree_len (offsets_of r) ≡ 3 = sym (law.counts_len (offsets_of r)) ∙ ap length starts in
      let size_count : tree_len (sizes_of r) ≡ 3 = sym (law.counts_len (sizes_of r)) ∙ ap length lens in
      record {
        len = sym (law.rows_len r) ∙ ap length is.same_rows ∙ law.rows_len t ∙ three_lists;
        start = sym (law.counts_each (offsets_of r) 2 (omega arith)) ∙ ap (λ ns. get_or ns 2 0) starts;
        size = sym (law.counts_each (sizes_of r) 2 (omega arith)) ∙ ap (λ ns. get_or ns 2 0) lens;
        elements = rebuilt_elements t r is ∙ ap (flat_map items_of) lists_are;
      }

  pub first_integers : (tree_len t ≢ 0 → flag_of t ≡ false → IsRebuilt t r) → is_integers (kind_of (elements_of r)) ≡ true
  first_integers rebuild =
      let is : IsRebuilt t r = rebuild (λ none. omega (arith, three_lists)) (ap flag_of t_is) in
      let kind : kind_of r ≡ lists (integers I32 false) false = is.kind ∙ ap kind_of t_is ∙ ap (λ x. lists (kind_of x) false) e_is.tree in
      ap is_integers (elements_kind r (integers I32 false) false is.is_view kind)

-- the third of them
pub record IsThird (a : Tree) : Type 0 where
  pub len : tree_len a ≡ 2
  pub first : row_at a 0 ≡ whole (pos 2)

pub third_read : ArePlaced → (r a : Tree) → IsFirst r →
    (let start = count_in (row_at (offsets_of r) 2) in rows a ≡ slice_range (rows (elements_of r)) start (start + count_in (row_at (sizes_of r) 2))) → IsThird a
third_read law r a is read =
    let are : rows a ≡ counts (2 ∷ 3 ∷ []) = read ∙ (λ i. slice_range (is.elements i) (is.start i) (is.start i + is.size i)) in
    let count : tree_len a ≡ 2 = sym (law.rows_len a) ∙ ap length are in
    record { len = count; first = sym (law.rows_each a 0 null (omega arith)) ∙ ap (λ rs. get_or rs 0 null) are }
