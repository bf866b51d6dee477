-- A list view that is made by a plan is the rebuilt one.
use Rattle.std.proofs.Common.{◌≡◌, ℕ, suc, ◌+◌, ◌<◌, ◌≤◌, Bool, true, false, List, [], ◌∷◌, length, map, get_or, sum, refl, sym, ◌∙◌, ap, subst, arith}
use Rattle.std.specs.List.{All, flat_map, range_with_len}
use Rattle.std.proofs.lemmas.List.{length-map, get_or-map}
use Rattle.std.proofs.lemmas.List.Elements.{All-nil, All-append, All-get_or}
use Rattle.std.proofs.lemmas.List.FromFn.{fill_by_all, length-range_with_len, get_or-range_with_len}
use Rattle.vx_base.specs.declared.ptypes.PType.{PType}
use Rattle.vx_base.specs.Rows.{Row, null}
use Rattle.vx_base.specs.Kinds.{Kind, booleans, integers, texts, binaries, lists, fixed_lists, records, is_plain_integers, integer_type}
use Rattle.vx_tree.specs.Tree.{Tree, list_view, Valid}
use Rattle.vx_tree.specs.Meaning.{tree_len, kind_of, rows, valid_mask, nullable}
use Rattle.vx_tree.specs.Formed.{IsListView, ValidFits, WellFormed}
use Rattle.vx_tree.specs.Operations.{IsSelected, AreBelow}
use Rattle.vx_lists.specs.ListViews.Layout.{ListLayout, layout, rows_of, IsWellFormed, IsTidy, items_of, size_of, canonical, position_rows, valid_total, IsPlan}
use Rattle.vx_lists.specs.ListViews.{counts_in, list_layout_of, list_rows, rebuilt_ptype, IsCountArray, IsRebuilt}
use Rattle.vx_lists.proofs.ListViews.CanonicalRows.{canonical_well_formed, rows_of-canonical, length-flat_map-items_of, length-starts_from}
use Rattle.vx_lists.proofs.ListViews.TidyLayouts.{canonical_tidy}
use Rattle.vx_lists.proofs.ListViews.PlannedNumbers.{planned_is_canonical, map-size_of-position_rows}
use Rattle.vx_lists.proofs.ListViews.PlannedRows.{length-valid_sizes}
use Rattle.vx_tree.proofs.RowLists.{length-rows, get_or-rows}
use Rattle.vx_lists.proofs.ListViews.ViewLayouts.{length-counts_in, get_or-counts_in, layout_well_formed, rows_of-list_layout_of, same_rows_by_lists}

-- ---- the positions of a plan

range_below : (offset size n : ℕ) → offset + size ≤ n → All (λ k. k < n) (range_with_len offset size)
range_below offset size n fits = λ i d inside.
    let here : i < size = omega (arith, length-range_with_len offset size) in
    omega (arith, get_or-range_with_len offset size i d here)

positions_below : (n : ℕ) (offsets sizes : List ℕ) (mask : List Bool) → length sizes ≡ length offsets → length mask ≡ length offsets → ((i : ℕ) → i < length offsets → get_or offsets i 0 + get_or sizes i 0 ≤ n) → All (λ k. k < n) (flat_map items_of (position_rows offsets sizes mask))
positions_below n [] sizes mask sizes_len mask_len within = All-nil (λ k. k < n)
positions_below n (offset ∷ offsets) [] mask sizes_len mask_len within = absurd (omega arith)
positions_below n (offset ∷ offsets) (size ∷ sizes) [] sizes_len mask_len within = absurd (omega arith)
positions_below n (offset ∷ offsets) (size ∷ sizes) (true ∷ mask) sizes_len mask_len within =
    All-append (λ k. k < n) (range_with_len offset size) (flat_map items_of (position_rows offsets sizes mask))
    (range_below offset size n (within 0 (omega arith)))
    (positions_below n offsets sizes mask (omega arith) (omega arith) (λ i inside. within (suc i) (omega arith)))
positions_below n (offset ∷ offsets) (size ∷ sizes) (false ∷ mask) sizes_len mask_len within =
    positions_below n offsets sizes mask (omega arith) (omega arith) (λ i inside. within (suc i) (omega arith))

module _ (offsets sizes : List ℕ) (mask : List Bool) (new_offsets new_sizes positions : List ℕ) (plan : IsPlan (position_rows offsets sizes mask) new_offsets new_sizes positions) (sizes_len : length sizes ≡ length offsets) (mask_len : length mask ≡ length offsets) where
  pub planned_below : (n : ℕ) → ((i : ℕ) → i < length offsets → get_or offsets i 0 + get_or sizes i 0 ≤ n) → AreBelow n positions
  planned_below n within = subst (All (λ k. k < n)) (sym plan.positions_are) (positions_below n offsets sizes mask sizes_len mask_len within)

  pub length-planned : length positions ≡ valid_total sizes mask
  length-planned =
      ap length plan.positions_are ∙ length-flat_map-items_of (position_rows offsets sizes mask)
      ∙ ap sum (map-size_of-position_rows offsets sizes mask sizes_len mask_len)

  pub length-planned_offsets : length new_offsets ≡ length offsets
  length-planned_offsets =
      ap length plan.offsets_are ∙ length-starts_from 0 (map size_of (position_rows offsets sizes mask))
      ∙ ap length (map-size_of-position_rows offsets sizes mask sizes_len mask_len) ∙ length-valid_sizes sizes mask (mask_len ∙ sym sizes_len) ∙ sizes_len

-- ---- the elements that are taken

rows-selected : (e : Tree) (ps : List ℕ) (r : Tree) → AreBelow (tree_len e) ps → IsSelected e ps r → rows r ≡ map (λ i. get_or (rows e) i null) ps
rows-selected e ps r below selected =
    let f : ℕ → Row = λ i. get_or (rows e) i null in
    let each : (i : ℕ) → i < length ps → get_or (rows r) i null ≡ get_or (map f ps) i null =
    λ i inside.
    get_or-rows r i null (omega (arith, selected.len)) ∙ selected.rows i inside
    ∙ sym (get_or-map f ps i 0 null inside ∙ get_or-rows e (get_or ps i 0) null (All-get_or (λ k. k < tree_len e) ps i 0 inside below)) in
    let g : ℕ → Row = λ i. get_or (map f ps) i null in
    fill_by_all g (rows r) (length ps) null (length-rows r ∙ selected.len) each
    ∙ sym (fill_by_all g (map f ps) (length ps) null (length-map ps f) (λ i inside. refl))

pub plain_kind : (k : Kind) → is_plain_integers k ≡ true → k ≡ integers (integer_type k) false
plain_kind (booleans n) plain = cc
plain_kind (integers t true) plain = cc
plain_kind (integers t false) plain = refl
plain_kind (texts n) plain = cc
plain_kind (binaries n) plain = cc
plain_kind (lists k n) plain = cc
plain_kind (fixed_lists k size n) plain = cc
plain_kind (records names ks n) plain = cc

-- ---- the new list view

module _ (e o s : Tree) (v : Valid) (f : Bool) (good : IsListView e o s f) (fits : ValidFits v (tree_len o)) (new_offsets new_sizes positions : List ℕ) (plan : IsPlan (position_rows (counts_in o) (counts_in s) (valid_mask v (tree_len o))) new_offsets new_sizes positions) (e' o' s' : Tree) (taken : IsSelected e positions e') (t_o t_s : PType) (o_is : IsCountArray t_o new_offsets o') (s_is : IsCountArray t_s new_sizes s') where
  same_len : tree_len o' ≡ tree_len o
  same_len =
      let well = layout_well_formed e o s v f good in
      sym (length-counts_in o') ∙ ap length o_is.counts_are ∙ length-planned_offsets (counts_in o) (counts_in s) (valid_mask v (tree_len o)) new_offsets new_sizes positions plan well.sizes_len well.mask_len ∙ length-counts_in o

  pub rebuilt_layout : list_layout_of (list_view e' o' s' v true) ≡ canonical (list_rows (list_view e o s v f))
  rebuilt_layout =
      let old : ListLayout Row = list_layout_of (list_view e o s v f) in
      let well = layout_well_formed e o s v f good in
      let within = planned_below (counts_in o) (counts_in s) (valid_mask v (tree_len o)) new_offsets new_sizes positions plan well.sizes_len well.mask_len (tree_len e) (λ i inside. omega (arith, well.within i inside, length-rows e)) in
      let planned = planned_is_canonical old null new_offsets new_sizes positions (rows e') well plan (rows-selected e positions e' within taken) in
      ap (λ os. layout os (counts_in s') (valid_mask v (tree_len o')) (rows e')) o_is.counts_are
      ∙ ap (λ ss. layout new_offsets ss (valid_mask v (tree_len o')) (rows e')) s_is.counts_are
      ∙ ap (λ n. layout new_offsets new_sizes (valid_mask v n) (rows e')) same_len
      ∙ planned ∙ ap canonical (rows_of-list_layout_of e o s v f good)

  pub rebuilt_formed : WellFormed (list_view e' o' s' v true)
  rebuilt_formed =
      let lists_are = list_rows (list_view e o s v f) in
      let well : IsWellFormed (list_layout_of (list_view e' o' s' v true)) = subst IsWellFormed (sym rebuilt_layout) (canonical_well_formed lists_are) in
      let tidy : IsTidy (list_layout_of (list_view e' o' s' v true)) = subst IsTidy (sym rebuilt_layout) (canonical_tidy lists_are) in
      let sizes_len : tree_len s' ≡ tree_len o' = sym (length-counts_in s') ∙ well.sizes_len ∙ length-counts_in o' in (
        subst (ValidFits v) (sym same_len) fits,
        record {
          offsets = o_is.are_counts;
          sizes = s_is.are_counts;
          same_len = sizes_len;
          within = λ i inside. omega (arith, well.within i (omega (arith, length-counts_in o')), get_or-counts_in o' i inside, get_or-counts_in s' i (omega arith), length-rows e');
          follows = λ set i inside.
              let inside_now : i < tree_len o' = omega arith in
              let next = tidy.consecutive i (omega (arith, length-counts_in o')) in
              omega (arith, next, get_or-counts_in o' i inside_now, get_or-counts_in s' i (omega arith), get_or-counts_in o' (i + 1) inside);
        },
      )

  pub rebuilt_view : t_o ≡ rebuilt_ptype (integer_type (kind_of o)) → t_s ≡ rebuilt_ptype (integer_type (kind_of s)) → IsRebuilt (list_view e o s v f) (list_view e' o' s' v true)
  rebuilt_view offset_type size_type =
      let formed = rebuilt_formed in
      let same_lists : list_rows (list_view e' o' s' v true) ≡ list_rows (list_view e o s v f) =
      sym (rows_of-list_layout_of e' o' s' v true formed.1) ∙ ap rows_of rebuilt_layout ∙ rows_of-canonical (list_rows (list_view e o s v f)) in
      record {
        is_view = refl;
        canonical_layout = rebuilt_layout;
        flag = refl;
        offsets_kind = o_is.kind ∙ ap (λ t. integers t false) offset_type;
        sizes_kind = s_is.kind ∙ ap (λ t. integers t false) size_type;
        kind = ap (λ k. lists k (nullable v)) taken.kind;
        state = refl;
        elements_shape = taken.shape;
        elements_need = taken.needs;
        same_rows = same_rows_by_lists e' o' s' v true e o s v f same_lists;
      }
