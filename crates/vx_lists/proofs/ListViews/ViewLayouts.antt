-- What a list view stands for is what its layout of offsets, sizes, mask and elements has.
use Rattle.std.proofs.Common.{◌≡◌, ℕ, zero, suc, ◌+◌, ◌-◌, ◌<◌, ◌≤◌, Bool, true, false, cond, List, [], ◌∷◌, length, take, drop, map, get_or, Option, Some, None, refl, sym, ◌∙◌, ap, subst, zero-add, add-one, arith}
use Rattle.std.specs.Prelude.{slice_range}
use Rattle.std.specs.List.{range_with_len}
use Rattle.std.proofs.lemmas.List.{length-map, take-map, drop-map, get_or-map}
use Rattle.std.proofs.lemmas.Simd.{map-map}
use Rattle.std.proofs.lemmas.List.FromFn.{fill_by_all}
use Rattle.vx_base.proofs.ListParts.{map_range_same}
use Rattle.vx_base.specs.Rows.{Row, null, items, Rows, no_rows, row, list_from, rows_from, list_in, count_in, is_present}
use Rattle.vx_tree.proofs.RowLists.{length-rows, get_or-rows, length-valid_mask, get_or-valid_mask}
use Rattle.vx_tree.specs.Tree.{Tree, bools, primitive, constant, dictionary, fixed_list, list_view, structure, view_array, Valid}
use Rattle.vx_tree.specs.Layouts.{is_list_view}
use Rattle.vx_tree.specs.Meaning.{tree_len, row_at, rows, rows_range, is_valid_at, valid_mask}
use Rattle.vx_tree.specs.Formed.{IsListView, WellFormed}
use Rattle.vx_lists.specs.ListViews.Layout.{list_at, lists_at, rows_of, IsWellFormed, StandsFor}
use Rattle.vx_lists.specs.ListViews.{counts_in, list_layout_of, list_rows}
use Rattle.vx_lists.proofs.ListViews.MappedLayouts.{take-drop-range_with_len}

-- ---- the lists over the rows of an array

pub length-counts_in : (t : Tree) → length (counts_in t) ≡ tree_len t
length-counts_in t = length-map (rows t) count_in ∙ length-rows t

pub get_or-counts_in : (t : Tree) (i : ℕ) → i < tree_len t → get_or (counts_in t) i 0 ≡ count_in (row_at t i)
get_or-counts_in t i inside = get_or-map count_in (rows t) i null 0 (omega (arith, length-rows t)) ∙ ap count_in (get_or-rows t i null inside)

-- the rows of an array from a start on, as a list
list_from-rows_range : (f : ℕ → Row) (start n : ℕ) → list_from (rows_range f start n) ≡ map f (range_with_len start n)
list_from-rows_range f start zero = refl
list_from-rows_range f start (suc n) = ap (λ rest. f start ∷ rest) (list_from-rows_range f (suc start) n ∙ ap (λ k. map f (range_with_len k n)) (sym (add-one start)))

pub take-drop-rows : (t : Tree) (offset size : ℕ) → offset + size ≤ tree_len t → take size (drop offset (rows t)) ≡ list_from (rows_range (row_at t) offset size)
take-drop-rows t offset size fits =
    ap (take size) (drop-map (row_at t) offset (range_with_len 0 (tree_len t)))
    ∙ take-map (row_at t) size (drop offset (range_with_len 0 (tree_len t)))
    ∙ ap (map (row_at t)) (take-drop-range_with_len offset size 0 (tree_len t) fits ∙ ap (λ k. range_with_len k size) (zero-add offset))
    ∙ sym (list_from-rows_range (row_at t) offset size)

list_in-cond : (b : Bool) (rs : Rows) → list_in (cond b (items rs) null) ≡ cond b (Some (list_from rs)) None
list_in-cond true rs = refl
list_in-cond false rs = refl

-- ---- lists by their offsets, sizes and mask

length-lists_at : {X : Type 0} (elements : List X) (offsets sizes : List ℕ) (mask : List Bool) → length sizes ≡ length offsets → length mask ≡ length offsets → length (lists_at elements offsets sizes mask) ≡ length offsets
length-lists_at elements [] sizes mask sizes_len mask_len = refl
length-lists_at elements (offset ∷ offsets) [] mask sizes_len mask_len = absurd (omega arith)
length-lists_at elements (offset ∷ offsets) (size ∷ sizes) [] sizes_len mask_len = absurd (omega arith)
length-lists_at elements (offset ∷ offsets) (size ∷ sizes) (present ∷ mask) sizes_len mask_len = ap suc (length-lists_at elements offsets sizes mask (omega arith) (omega arith))

get_or-lists_at : {X : Type 0} (elements : List X) (offsets sizes : List ℕ) (mask : List Bool) (i : ℕ) → length sizes ≡ length offsets → length mask ≡ length offsets → i < length offsets → get_or (lists_at elements offsets sizes mask) i None ≡ list_at elements (get_or offsets i 0) (get_or sizes i 0) (get_or mask i false)
get_or-lists_at elements [] sizes mask i sizes_len mask_len inside = absurd (omega arith)
get_or-lists_at elements (offset ∷ offsets) [] mask i sizes_len mask_len inside = absurd (omega arith)
get_or-lists_at elements (offset ∷ offsets) (size ∷ sizes) [] i sizes_len mask_len inside = absurd (omega arith)
get_or-lists_at elements (offset ∷ offsets) (size ∷ sizes) (present ∷ mask) zero sizes_len mask_len inside = refl
get_or-lists_at elements (offset ∷ offsets) (size ∷ sizes) (present ∷ mask) (suc i) sizes_len mask_len inside = get_or-lists_at elements offsets sizes mask i (omega arith) (omega arith) (omega arith)

-- ---- a list view of these parts

module _ (e o s : Tree) (v : Valid) (f : Bool) (good : IsListView e o s f) where
  pub layout_well_formed : IsWellFormed (list_layout_of (list_view e o s v f))
  layout_well_formed = record {
    sizes_len = length-counts_in s ∙ good.same_len ∙ sym (length-counts_in o);
    mask_len = length-valid_mask v (tree_len o) ∙ sym (length-counts_in o);
    within = λ i inside.
        let inside_offsets : i < tree_len o = omega (arith, length-counts_in o) in
        let inside_sizes : i < tree_len s = omega (arith, good.same_len) in
        omega (arith, get_or-counts_in o i inside_offsets, get_or-counts_in s i inside_sizes, good.within i inside_offsets, length-rows e);
  }

  pub rows_of-list_layout_of : rows_of (list_layout_of (list_view e o s v f)) ≡ list_rows (list_view e o s v f)
  rows_of-list_layout_of =
      let well = layout_well_formed in
      let count : length (rows_of (list_layout_of (list_view e o s v f))) ≡ tree_len o = length-lists_at (rows e) (counts_in o) (counts_in s) (valid_mask v (tree_len o)) well.sizes_len well.mask_len ∙ length-counts_in o in
      let each : (i : ℕ) → i < tree_len o → get_or (rows_of (list_layout_of (list_view e o s v f))) i None ≡ list_in (row_at (list_view e o s v f) i) =
      λ i inside.
      let inside_sizes : i < tree_len s = omega (arith, good.same_len) in
      let fits : count_in (row_at o i) + count_in (row_at s i) ≤ tree_len e = good.within i inside in
      get_or-lists_at (rows e) (counts_in o) (counts_in s) (valid_mask v (tree_len o)) i well.sizes_len well.mask_len (omega (arith, length-counts_in o))
      ∙ ap (λ n. list_at (rows e) n (get_or (counts_in s) i 0) (get_or (valid_mask v (tree_len o)) i false)) (get_or-counts_in o i inside)
      ∙ ap (λ n. list_at (rows e) (count_in (row_at o i)) n (get_or (valid_mask v (tree_len o)) i false)) (get_or-counts_in s i inside_sizes)
      ∙ ap (list_at (rows e) (count_in (row_at o i)) (count_in (row_at s i))) (get_or-valid_mask v (tree_len o) i false inside)
      ∙ ap (λ xs. cond (is_valid_at v i) (Some xs) None) (take-drop-rows e (count_in (row_at o i)) (count_in (row_at s i)) fits)
      ∙ sym (list_in-cond (is_valid_at v i) (rows_range (row_at e) (count_in (row_at o i)) (count_in (row_at s i)))) in
      fill_by_all (λ i. list_in (row_at (list_view e o s v f) i)) (rows_of (list_layout_of (list_view e o s v f))) (tree_len o) None count each
      ∙ sym (map-map list_in (row_at (list_view e o s v f)) (range_with_len 0 (tree_len o)))

-- it stands for its lists
pub stands_for_lists : (t : Tree) → WellFormed t → is_list_view t ≡ true → StandsFor (list_layout_of t) (list_rows t)
stands_for_lists (list_view e o s v f) formed is = record { well_formed = layout_well_formed e o s v f formed.1; same = rows_of-list_layout_of e o s v f formed.1 }
stands_for_lists (bools b bits v) formed is = cc
stands_for_lists (primitive t bs v) formed is = cc
stands_for_lists (constant k r n) formed is = cc
stands_for_lists (dictionary c v f) formed is = cc
stands_for_lists (fixed_list e k v n) formed is = cc
stands_for_lists (structure ns ts v n) formed is = cc
stands_for_lists (view_array vs bs k v) formed is = cc

-- ---- one list

pub list_in_present : (b : Bool) (rs : Rows) (xs : List Row) → xs ≡ list_from rs → list_in (cond b (items rs) null) ≡ cond (is_present (cond b (items rs) null)) (Some xs) None
list_in_present true rs xs same = ap Some (sym same)
list_in_present false rs xs same = refl

-- where row i is present, it is the list of the element rows at its place
pub list_of_elements : (t e o s : Tree) (v : Valid) (f : Bool) (i : ℕ) (xs : List Row) → t ≡ list_view e o s v f → WellFormed (list_view e o s v f) → i < tree_len t
    → (let start = count_in (row_at o i) in xs ≡ slice_range (rows e) start (start + count_in (row_at s i)))
    → list_in (row_at t i) ≡ cond (is_present (row_at t i)) (Some xs) None
list_of_elements t e o s v f i xs same formed inside read =
    let start = count_in (row_at o i) in
    let size = count_in (row_at s i) in
    let fits : start + size ≤ tree_len e = formed.1.within i (let here : i < tree_len (list_view e o s v f) = rw same at inside in here) in
    let counted : start + size - start ≡ size = omega arith in
    let listed : xs ≡ list_from (rows_range (row_at e) start size) = read ∙ ap (λ n. take n (drop start (rows e))) counted ∙ take-drop-rows e start size fits in
    let one : list_in (row_at (list_view e o s v f) i) ≡ cond (is_present (row_at (list_view e o s v f) i)) (Some xs) None = list_in_present (is_valid_at v i) (rows_range (row_at e) start size) xs listed in
    subst (λ x. list_in (row_at x i) ≡ cond (is_present (row_at x i)) (Some xs) None) (sym same) one

-- ---- a list view has the rows that its lists are

abbrev pub row_of_list : Option (List Row) → Row
row_of_list None = null
row_of_list (Some xs) = items (rows_from xs)

rows_from-list_from : (rs : Rows) → rows_from (list_from rs) ≡ rs
rows_from-list_from no_rows = refl
rows_from-list_from (row r rs) = ap (row r) (rows_from-list_from rs)

row_of_list-list_in : (b : Bool) (rs : Rows) → row_of_list (list_in (cond b (items rs) null)) ≡ cond b (items rs) null
row_of_list-list_in true rs = ap items (rows_from-list_from rs)
row_of_list-list_in false rs = refl

rows-by_lists : (e o s : Tree) (v : Valid) (f : Bool) → rows (list_view e o s v f) ≡ map row_of_list (list_rows (list_view e o s v f))
rows-by_lists e o s v f =
    let t : Tree = list_view e o s v f in
    map_range_same (row_at t) (λ i. row_of_list (list_in (row_at t i))) 0 0 (tree_len o) (λ i inside. sym (row_of_list-list_in (is_valid_at v (0 + i)) (rows_range (row_at e) (count_in (row_at o (0 + i))) (count_in (row_at s (0 + i))))))
    ∙ sym (map-map row_of_list (λ i. list_in (row_at t i)) (range_with_len 0 (tree_len o)))
    ∙ ap (map row_of_list) (sym (map-map list_in (row_at t) (range_with_len 0 (tree_len o))))

pub same_rows_by_lists : (e o s : Tree) (v : Valid) (f : Bool) (e' o' s' : Tree) (v' : Valid) (f' : Bool) → list_rows (list_view e o s v f) ≡ list_rows (list_view e' o' s' v' f') → rows (list_view e o s v f) ≡ rows (list_view e' o' s' v' f')
same_rows_by_lists e o s v f e' o' s' v' f' same = rows-by_lists e o s v f ∙ ap (map row_of_list) same ∙ sym (rows-by_lists e' o' s' v' f')

pub rows-by_list_rows : (t : Tree) → is_list_view t ≡ true → rows t ≡ map row_of_list (list_rows t)
rows-by_list_rows (bools b bits v) is_view = cc
rows-by_list_rows (primitive t bs v) is_view = cc
rows-by_list_rows (constant k r n) is_view = cc
rows-by_list_rows (dictionary c v f) is_view = cc
rows-by_list_rows (fixed_list e k v n) is_view = cc
rows-by_list_rows (list_view e o s v f) is_view = rows-by_lists e o s v f
rows-by_list_rows (structure ns ts v n) is_view = cc
rows-by_list_rows (view_array vs bs k v) is_view = cc
