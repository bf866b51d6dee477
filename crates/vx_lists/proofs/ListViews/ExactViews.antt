-- A flagged list view without elements in its null rows has the canonical layout once it is trimmed.
use Rattle.std.proofs.Common.{◌≡◌, ℕ, ◌+◌, ◌-◌, ◌<◌, ◌≤◌, Bool, true, false, cond, length, get_or, sym, ◌∙◌, ap, subst, arith}
use Rattle.vx_base.specs.Rows.{Row, null, items, count_in, is_present}
use Rattle.vx_tree.proofs.RowLists.{length-rows, length-valid_mask, get_or-valid_mask}
use Rattle.vx_tree.specs.Tree.{Tree, bools, primitive, constant, dictionary, fixed_list, list_view, structure, view_array, Valid}
use Rattle.vx_tree.specs.Meaning.{tree_len, kind_of, row_at, rows, rows_range, is_valid_at, valid_mask}
use Rattle.vx_tree.specs.Formed.{IsListView, WellFormed}
use Rattle.vx_lists.specs.ListViews.Layout.{ListLayout, canonical, LieEndToEnd}
use Rattle.vx_lists.specs.ListViews.References.{start_of, end_of, AreBounds, IsTrimmedToBounds}
use Rattle.vx_lists.specs.ListViews.{flag_of, counts_in, validity_of, list_layout_of}
use Rattle.vx_lists.specs.ListViews.Modes.{HasEmptyNulls, IsExact}
use Rattle.vx_lists.proofs.ListViews.ReferencedElements.{AreBounds-consecutive}
use Rattle.vx_lists.proofs.ListViews.TidyLayouts.{AreNullsEmpty, same_layouts}
use Rattle.vx_lists.proofs.ListViews.TrimmedLayouts.{trimmed_canonical}
use Rattle.vx_lists.proofs.ListViews.ViewLayouts.{length-counts_in, get_or-counts_in, layout_well_formed, rows_of-list_layout_of}

-- a trimmed view has as many rows as before
pub trimmed_len : (t r : Tree) → rows r ≡ rows t → tree_len r ≡ tree_len t
trimmed_len t r same = sym (length-rows r) ∙ ap length same ∙ length-rows t

module _ (e o s : Tree) (v : Valid) (f : Bool) (formed : WellFormed (list_view e o s v f)) (set : f ≡ true) (nulls : HasEmptyNulls (list_view e o s v f)) (r : Tree) (found : IsTrimmedToBounds (list_view e o s v f) r) where
  abbrev t : Tree
  t = list_view e o s v f

  abbrev start : ℕ
  start = found.0

  abbrev end : ℕ
  end = found.1

  good : IsListView e o s f
  good = formed.1

  bounds : AreBounds (start_of t) (end_of t) (tree_len o) start end
  bounds = found.2

  offset_is : (i : ℕ) → i < tree_len o → get_or (counts_in o) i 0 ≡ start_of t i
  offset_is i inside = get_or-counts_in o i inside

  size_is : (i : ℕ) → i < tree_len o → get_or (counts_in s) i 0 ≡ count_in (row_at s i)
  size_is i inside = get_or-counts_in s i (omega (arith, good.same_len))

  end_is : (i : ℕ) → i < tree_len o → get_or (counts_in o) i 0 + get_or (counts_in s) i 0 ≡ end_of t i
  end_is i inside = omega (arith, offset_is i inside, size_is i inside)

  below : (i : ℕ) → i < length (counts_in o) → start ≤ get_or (counts_in o) i 0
  below i inside =
      let here : i < tree_len o = omega (arith, length-counts_in o) in
      omega (arith, offset_is i here, bounds.below i here)

  above : (i : ℕ) → i < length (counts_in o) → get_or (counts_in o) i 0 + get_or (counts_in s) i 0 ≤ end
  above i inside =
      let here : i < tree_len o = omega (arith, length-counts_in o) in
      omega (arith, end_is i here, bounds.above i here)

  some : 0 < tree_len o
  some = let least = bounds.least_is in let inside : least.0 < tree_len o = least.1 in omega arith

  ordered : start ≤ end
  ordered =
      let low : start ≤ start_of t 0 = bounds.below 0 some in
      let high : start_of t 0 + count_in (row_at s 0) ≤ end = bounds.above 0 some in
      omega arith

  inside_elements : end ≤ length (rows e)
  inside_elements =
      let greatest = bounds.greatest_is in
      let inside : greatest.0 < tree_len o = greatest.1 in
      let last : end_of t greatest.0 ≡ end = greatest.2 in
      let fits : end_of t greatest.0 ≤ tree_len e = good.within greatest.0 inside in
      omega (arith, length-rows e)

  consecutive : LieEndToEnd (counts_in o) (counts_in s)
  consecutive i inside =
      let next : i + 1 < tree_len o = omega (arith, length-counts_in o) in
      omega (arith, end_is i (omega arith), offset_is (i + 1) next, good.follows set i next)

  -- the first list starts at the least start, the last one ends at the greatest end
  outer : AreBounds (start_of t) (end_of t) (tree_len o) (start_of t 0) (end_of t (tree_len o - 1))
  outer =
      let count : tree_len o - 1 + 1 ≡ tree_len o = omega (arith, some) in
      let all = AreBounds-consecutive (start_of t) (end_of t) (tree_len o - 1) (λ i. omega arith) (λ i inside. good.follows set i (omega arith)) in
      subst (λ n. AreBounds (start_of t) (end_of t) n (start_of t 0) (end_of t (tree_len o - 1))) count all

  first : get_or (counts_in o) 0 0 ≤ start
  first =
      let least = bounds.least_is in
      let inside : least.0 < tree_len o = least.1 in
      let here : start_of t least.0 ≡ start = least.2 in
      let low : start_of t 0 ≤ start_of t least.0 = outer.below least.0 inside in
      omega (arith, offset_is 0 some)

  last : end ≤ get_or (counts_in o) (length (counts_in o) - 1) 0 + get_or (counts_in s) (length (counts_in o) - 1) 0
  last =
      let greatest = bounds.greatest_is in
      let inside : greatest.0 < tree_len o = greatest.1 in
      let here : end_of t greatest.0 ≡ end = greatest.2 in
      let high : end_of t greatest.0 ≤ end_of t (tree_len o - 1) = outer.above greatest.0 inside in
      let at_end : end ≤ get_or (counts_in o) (tree_len o - 1) 0 + get_or (counts_in s) (tree_len o - 1) 0 = omega (arith, end_is (tree_len o - 1) (omega (arith, some))) in
      subst (λ n. end ≤ get_or (counts_in o) (n - 1) 0 + get_or (counts_in s) (n - 1) 0) (sym (length-counts_in o)) at_end

  empty_nulls : AreNullsEmpty (counts_in s) (valid_mask v (tree_len o))
  empty_nulls i inside null_at =
      let here : i < tree_len o = omega (arith, length-valid_mask v (tree_len o)) in
      let invalid : is_valid_at v i ≡ false = sym (get_or-valid_mask v (tree_len o) i false here) ∙ null_at in
      let absent : is_present (row_at t i) ≡ false = ap (λ b. is_present (cond b (items (rows_range (row_at e) (count_in (row_at o i)) (count_in (row_at s i)))) null)) invalid in
      size_is i here ∙ nulls i here absent

  exact_view : IsExact t r
  exact_view =
      let is = found.3 in
      let l : ListLayout Row = list_layout_of t in
      let masks : valid_mask (validity_of r) (tree_len r) ≡ valid_mask v (tree_len o) = ap (λ w. valid_mask w (tree_len r)) is.validity ∙ ap (valid_mask v) (trimmed_len t r is.same_rows) in
      let exact = trimmed_canonical l (layout_well_formed e o s v f good) start end below above ordered inside_elements (omega (arith, some, length-counts_in o)) consecutive empty_nulls first last in
      record {
        canonical_layout = same_layouts (list_layout_of r) _ is.offsets (ap counts_in is.sizes) masks is.elements ∙ exact ∙ ap canonical (rows_of-list_layout_of e o s v f good);
        flag = is.flag ∙ set;
        offsets_kind = is.offsets_kind;
        sizes_kind = ap kind_of is.sizes;
      }

pub exact : (t : Tree) → WellFormed t → (q : Tree) → flag_of t ≡ true → HasEmptyNulls t → IsTrimmedToBounds t q → IsExact t q
exact (list_view e o s v f) formed q set nulls found = exact_view e o s v f formed set nulls q found
exact (bools b bits v) formed q set nulls found = cc
exact (primitive p bs v) formed q set nulls found = cc
exact (constant k r n) formed q set nulls found = cc
exact (dictionary c v f) formed q set nulls found = cc
exact (fixed_list e k v n) formed q set nulls found = cc
exact (structure ns ts v n) formed q set nulls found = cc
exact (view_array vs bs k v) formed q set nulls found = cc
