-- What a list view is rebuilt from, and what that gives.
use Rattle.std.proofs.Common.{◌≡◌, ℕ, ◌+◌, ◌^◌, ◌<◌, ◌≤◌, Bool, true, List, length, map, sum, get_or, cond, false, Option, None, sym, ◌∙◌, ap, subst, Result, Ok, Err, arith}
use Rattle.std.specs.Prelude.{pos, ◌≤ℤ◌, int_le, IsTrue, OnOk}
use Rattle.std.proofs.lemmas.Float.{T_from_true}
use lib.Signed.{le_z_yes}
use Rattle.vx_base.specs.declared.ptypes.PType.{PType}
use Rattle.vx_base.specs.Integers.{Holds, greatest, numbers}
use Rattle.vx_base.specs.Kinds.{integer_type}
use Rattle.vx_base.specs.Refusals.{Refusal}
use Rattle.vx_tree.specs.Tree.{Tree, list_view, primitive, Valid, non_nullable}
use Rattle.vx_tree.specs.Meaning.{tree_len, kind_of, valid_mask}
use Rattle.vx_tree.specs.Formed.{IsConsecutive, WellFormed}
use Rattle.vx_tree.specs.Faults.{take_overflow}
use Rattle.vx_tree.specs.Operations.{IsSelected, AreBelow}
use Rattle.vx_lists.specs.ListViews.Layout.{valid_sizes, valid_total, position_rows, joined_positions, starts_from, IsPlan}
use Rattle.vx_lists.specs.ListViews.CountBytes.{counts_of, AreCountBytes, HoldCounts}
use Rattle.vx_lists.specs.ListViews.PlannedRuns.{AreListBytes, AreElementsToTake}
use Rattle.vx_lists.specs.ListViews.{counts_in, elements_of, mask_of, offsets_of, sizes_of, rebuilt_ptype, total_of, valid_sizes_of, valid_positions_of, IsCountArray, IsRebuildPlan, IsRebuilt}
use Rattle.vx_lists.specs.ListViews.Faults.{total_fault, either_total_fault, rebuilt_total_fault, rebuild_overflow}
use Rattle.vx_lists.proofs.ListViews.CountBytes.{counts_of-held, held_are_counts, length-held, length-counts_of}
use Rattle.vx_lists.proofs.ListViews.CountArrays.{count_array_of_numbers}
use Rattle.vx_lists.proofs.ListViews.Faults.{passed}
use Rattle.vx_base.proofs.FirstFaults.{or_else-none, or_else-second}
use Rattle.vx_tree.proofs.RowLists.{length-rows}
use Rattle.vx_lists.proofs.ListViews.ViewLayouts.{layout_well_formed, length-counts_in}
use Rattle.vx_lists.proofs.ListViews.PlannedNumbers.{Holds-below, map-size_of-position_rows}
use Rattle.vx_lists.proofs.ListViews.PlannedRows.{get_or-valid_sizes, length-valid_sizes, joined_positions-valid, length-joined_positions}
use Rattle.vx_lists.proofs.ListViews.RebuiltViews.{planned_below, rebuilt_formed, rebuilt_view}

-- a total without a fault is within the greatest number of its type
fits_greatest : (p : PType) (total : ℕ) → total_fault p total ≡ None → pos total ≤ℤ greatest p
fits_greatest p total none = le_z_yes (T_from_true (int_le (pos total) (greatest p)) (passed (int_le (pos total) (greatest p)) _ none))

-- a total without a fault is held by the type of the offsets and by that of the sizes
pub total_held : (o s : PType) (total : ℕ) → either_total_fault o s total ≡ None → (Holds o (pos total)) × (Holds s (pos total))
total_held o s total none =
    let each = or_else-none (total_fault o total) (total_fault s total) none in
    (Holds-below o total total (omega arith) (fits_greatest o total each.0), Holds-below s total total (omega arith) (fits_greatest s total each.1))

-- where nothing is refused, the rebuilt types hold the total
totals_held : (t : Tree) → rebuild_overflow t ≡ None → (Holds (rebuilt_ptype (integer_type (kind_of (offsets_of t)))) (pos (total_of t))) × (Holds (rebuilt_ptype (integer_type (kind_of (sizes_of t)))) (pos (total_of t)))
totals_held t none =
    total_held (rebuilt_ptype (integer_type (kind_of (offsets_of t)))) (rebuilt_ptype (integer_type (kind_of (sizes_of t)))) (total_of t)
    (or_else-none (rebuilt_total_fault t) (take_overflow (elements_of t) (total_of t)) none).0

-- ---- the plan over offsets, sizes and a mask

-- the sizes of the valid rows, and where lists of these sizes start
plan_of_rows : (offsets sizes : List ℕ) (mask : List Bool) → length sizes ≡ length offsets → length mask ≡ length offsets
    → IsPlan (position_rows offsets sizes mask) (starts_from 0 (valid_sizes sizes mask)) (valid_sizes sizes mask) (joined_positions offsets (valid_sizes sizes mask))
plan_of_rows offsets sizes mask sizes_len mask_len =
    let lens = map-size_of-position_rows offsets sizes mask sizes_len mask_len in
    record {
      offsets_are = ap (starts_from 0) (sym lens);
      sizes_are = sym lens;
      positions_are = sym (joined_positions-valid offsets sizes mask);
    }

size_kept : (b : Bool) (n : ℕ) → cond b n 0 ≤ n
size_kept true n = omega arith
size_kept false n = omega arith

-- ---- a list view of these parts

module _ (t e o s : Tree) (v : Valid) (f : Bool) (same : t ≡ list_view e o s v f) (formed : WellFormed (list_view e o s v f)) where
  abbrev mask : List Bool
  mask = valid_mask v (tree_len o)

  abbrev kept : List ℕ
  kept = valid_sizes (counts_in s) mask

  abbrev positions : List ℕ
  positions = joined_positions (counts_in o) kept

  plan_is : IsPlan (position_rows (counts_in o) (counts_in s) mask) (starts_from 0 kept) kept positions
  plan_is =
      let well = layout_well_formed e o s v f formed.1 in
      plan_of_rows (counts_in o) (counts_in s) mask well.sizes_len well.mask_len

  kept_len : length kept ≡ length (counts_in o)
  kept_len =
      let well = layout_well_formed e o s v f formed.1 in
      length-valid_sizes (counts_in s) mask (well.mask_len ∙ sym well.sizes_len) ∙ well.sizes_len

  positions_are : valid_positions_of t ≡ positions
  positions_are = ap valid_positions_of same

  sizes_read : (size_type : PType) (sizes : List ℕ) → size_type ≡ integer_type (kind_of s) → HoldCounts (integer_type (kind_of s)) sizes (counts_in s) → counts_of size_type sizes ≡ counts_in s
  sizes_read size_type sizes s_is sizes_hold = counts_of-held size_type sizes (counts_in s) (rw s_is sizes_hold.are)

  -- what is read of the parts
  pub plan_made : (offset_type size_type new_type : PType) (offsets sizes valid : List ℕ) (ms : List Bool) (count : ℕ)
      → offset_type ≡ integer_type (kind_of o) → size_type ≡ integer_type (kind_of s) → new_type ≡ rebuilt_ptype size_type → HoldCounts (integer_type (kind_of o)) offsets (counts_in o) → HoldCounts (integer_type (kind_of s)) sizes (counts_in s) → ms ≡ mask_of t
      → HoldCounts new_type valid (valid_sizes (counts_of size_type sizes) ms) → count ≡ total_of t → IsRebuildPlan t offset_type offsets new_type valid count
  plan_made offset_type size_type new_type offsets sizes valid ms count o_is s_is new_is offsets_hold sizes_hold ms_is valid_hold count_is =
      let valid_are : valid_sizes (counts_of size_type sizes) ms ≡ valid_sizes_of t = ap (λ ns. valid_sizes ns ms) (sizes_read size_type sizes s_is sizes_hold) ∙ ap (valid_sizes (counts_in s)) ms_is ∙ sym (ap (λ x. valid_sizes (counts_in (sizes_of x)) (mask_of t)) same) in
      record {
        offset_type_is = o_is ∙ sym (ap (λ x. integer_type (kind_of (offsets_of x))) same);
        offsets_are = subst (λ x. HoldCounts offset_type offsets (counts_in (offsets_of x))) (sym same) (subst (λ p. HoldCounts p offsets (counts_in o)) (sym o_is) offsets_hold);
        size_type_is = new_is ∙ ap rebuilt_ptype (s_is ∙ sym (ap (λ x. integer_type (kind_of (sizes_of x))) same));
        sizes_are = subst (HoldCounts new_type valid) valid_are valid_hold;
        count_is = count_is;
      }

  -- the mask that the validity gives
  pub mask_is : (ms : List Bool) (n : ℕ) → ms ≡ valid_mask v n → n ≡ tree_len o → ms ≡ mask_of t
  mask_is ms n ms_is n_is = ms_is ∙ ap (valid_mask v) n_is ∙ sym (ap mask_of same)

  -- the total of the sizes at its rows
  pub total_is : (ms : List Bool) (total : ℕ) → ms ≡ mask_of t → total ≡ valid_total (counts_in s) ms → total ≡ total_of t
  total_is ms total ms_is of_sizes = of_sizes ∙ ap (valid_total (counts_in s)) ms_is ∙ sym (ap (λ x. valid_total (counts_in (sizes_of x)) (mask_of t)) same)

  -- there are as many rows in it
  pub mask_len : (ms : List Bool) → ms ≡ mask_of t → length ms ≡ tree_len s
  mask_len ms ms_is =
      let well = layout_well_formed e o s v f formed.1 in
      ap length (ms_is ∙ ap mask_of same) ∙ well.mask_len ∙ sym well.sizes_len ∙ length-counts_in s

  -- the fault of that total, by the types that offsets and sizes are to have
  pub total_fault_is : (o_type s_type : PType) (ms : List Bool) (total : ℕ) → o_type ≡ rebuilt_ptype (integer_type (kind_of o)) → s_type ≡ rebuilt_ptype (integer_type (kind_of s)) → ms ≡ mask_of t → total ≡ valid_total (counts_in s) ms
      → either_total_fault o_type s_type total ≡ rebuilt_total_fault t
  total_fault_is o_type s_type ms total o_is s_is ms_is of_sizes =
      let offset_is : o_type ≡ rebuilt_ptype (integer_type (kind_of (offsets_of t))) = o_is ∙ sym (ap (λ x. rebuilt_ptype (integer_type (kind_of (offsets_of x)))) same) in
      let size_is : s_type ≡ rebuilt_ptype (integer_type (kind_of (sizes_of t))) = s_is ∙ sym (ap (λ x. rebuilt_ptype (integer_type (kind_of (sizes_of x)))) same) in
      ap (λ p. either_total_fault p s_type total) offset_is
      ∙ ap (λ p. either_total_fault (rebuilt_ptype (integer_type (kind_of (offsets_of t)))) p total) size_is
      ∙ ap (either_total_fault (rebuilt_ptype (integer_type (kind_of (offsets_of t)))) (rebuilt_ptype (integer_type (kind_of (sizes_of t))))) (total_is ms total ms_is of_sizes)

  -- and that of taking so many elements, where the total has none
  pub overflow_is : (ms : List Bool) (total count : ℕ) (fault : Option Refusal) → ms ≡ mask_of t → total ≡ valid_total (counts_in s) ms → count ≡ total → rebuilt_total_fault t ≡ None → take_overflow e count ≡ fault → rebuild_overflow t ≡ fault
  overflow_is ms total count fault ms_is of_sizes count_is none taken =
      or_else-second (rebuilt_total_fault t) (take_overflow (elements_of t) (total_of t)) fault none
      (ap (λ x. take_overflow (elements_of x) (total_of t)) same ∙ ap (take_overflow e) (sym (count_is ∙ total_is ms total ms_is of_sizes)) ∙ taken)

  -- where nothing is refused, the rebuilt size type holds it
  pub total_fits : (size_type new_type : PType) (sizes : List ℕ) (ms : List Bool) → size_type ≡ integer_type (kind_of s) → new_type ≡ rebuilt_ptype size_type → HoldCounts (integer_type (kind_of s)) sizes (counts_in s) → ms ≡ mask_of t → rebuild_overflow t ≡ None
      → Holds new_type (pos (valid_total (counts_of size_type sizes) ms))
  total_fits size_type new_type sizes ms s_is new_is sizes_hold ms_is none =
      let count : valid_total (counts_of size_type sizes) ms ≡ total_of t = total_is ms (valid_total (counts_of size_type sizes) ms) ms_is (ap (λ ns. valid_total ns ms) (sizes_read size_type sizes s_is sizes_hold)) in
      let type_is : new_type ≡ rebuilt_ptype (integer_type (kind_of (sizes_of t))) = new_is ∙ ap rebuilt_ptype (s_is ∙ sym (ap (λ x. integer_type (kind_of (sizes_of x))) same)) in
      subst (λ n. Holds new_type (pos n)) (sym count) (subst (λ p. Holds p (pos (total_of t))) (sym type_is) (totals_held t none).1)

  positions_below : AreBelow (tree_len e) (valid_positions_of t)
  positions_below =
      let well = layout_well_formed e o s v f formed.1 in
      subst (AreBelow (tree_len e)) (sym positions_are) (planned_below (counts_in o) (counts_in s) mask (starts_from 0 kept) kept positions plan_is well.sizes_len well.mask_len (tree_len e) (λ i inside. omega (arith, well.within i inside, length-rows e)))

  positions_count : length (valid_positions_of t) ≡ total_of t
  positions_count = ap length positions_are ∙ length-joined_positions (counts_in o) kept kept_len ∙ sym (ap total_of same)

  -- where nothing is refused, so many elements can be taken
  pub to_take : AreElementsToTake t e
  to_take =
      let own : e ≡ elements_of t = sym (ap elements_of same) in
      record {
        elements = own;
        within = positions_below;
        count = positions_count;
        countable = λ none. ap (λ x. take_overflow x (length (valid_positions_of t))) own ∙ ap (take_overflow (elements_of t)) positions_count
            ∙ (or_else-none (rebuilt_total_fault t) (take_overflow (elements_of t) (total_of t)) none).1;
      }

  -- ---- what is asked of the numbers of a plan

  module _ (offset_type size_type : PType) (offsets sizes : List ℕ) (count : ℕ) (plan : IsRebuildPlan t offset_type offsets size_type sizes count) where
    sizes_hold : HoldCounts size_type sizes kept
    sizes_hold = subst (HoldCounts size_type sizes) (ap valid_sizes_of same) plan.sizes_are

    offsets_hold : HoldCounts offset_type offsets (counts_in o)
    offsets_hold = subst (λ x. HoldCounts offset_type offsets (counts_in (offsets_of x))) same plan.offsets_are

    planned_offsets_read : AreCountBytes offset_type offsets
    planned_offsets_read = held_are_counts offset_type offsets (counts_in o) offsets_hold.are

    pub planned_sizes_read : AreCountBytes size_type sizes
    planned_sizes_read = held_are_counts size_type sizes kept sizes_hold.are

    planned_same_len : length (numbers size_type sizes) ≡ length (numbers offset_type offsets)
    planned_same_len = length-held size_type sizes kept sizes_hold.are ∙ kept_len ∙ sym (length-held offset_type offsets (counts_in o) offsets_hold.are)

    planned_ends_within : (i : ℕ) → i < length (counts_of offset_type offsets) → get_or (counts_of offset_type offsets) i 0 + get_or (counts_of size_type sizes) i 0 ≤ tree_len e
    planned_ends_within i inside =
        let well = layout_well_formed e o s v f formed.1 in
        let offsets_are = counts_of-held offset_type offsets (counts_in o) offsets_hold.are in
        let inside_offsets : i < length (counts_in o) = omega (arith, ap length offsets_are) in
        let offset : get_or (counts_of offset_type offsets) i 0 ≡ get_or (counts_in o) i 0 = ap (λ ns. get_or ns i 0) offsets_are in
        let size : get_or (counts_of size_type sizes) i 0 ≡ cond (get_or mask i false) (get_or (counts_in s) i 0) 0 = ap (λ ns. get_or ns i 0) (counts_of-held size_type sizes kept sizes_hold.are) ∙ get_or-valid_sizes (counts_in s) mask i in
        omega (arith, offset, size, size_kept (get_or mask i false) (get_or (counts_in s) i 0), well.within i inside_offsets, length-rows e)

    planned_ends_fit : tree_len e < 2 ^ 64 → (i : ℕ) → i < length (numbers offset_type offsets) → get_or (counts_of offset_type offsets) i 0 + get_or (counts_of size_type sizes) i 0 < 2 ^ 64
    planned_ends_fit short i inside = omega (arith, planned_ends_within i (omega (arith, length-counts_of offset_type offsets)), short)

    pub planned_list_bytes : tree_len e < 2 ^ 64 → AreListBytes offset_type offsets size_type sizes
    planned_list_bytes short = record {
      offsets_are = planned_offsets_read;
      sizes_are = planned_sizes_read;
      same_len = planned_same_len;
      ends_fit = planned_ends_fit short;
    }

    planned_total : sum (counts_of size_type sizes) ≡ total_of t
    planned_total = ap sum (counts_of-held size_type sizes kept sizes_hold.are) ∙ sym (ap total_of same)

    pub planned_sum : count ≡ sum (counts_of size_type sizes)
    planned_sum = plan.count_is ∙ sym planned_total

    pub planned_positions : joined_positions (counts_of offset_type offsets) (counts_of size_type sizes) ≡ valid_positions_of t
    planned_positions =
        ap (λ ns. joined_positions ns (counts_of size_type sizes)) (counts_of-held offset_type offsets (counts_in o) offsets_hold.are)
        ∙ ap (joined_positions (counts_in o)) (counts_of-held size_type sizes kept sizes_hold.are) ∙ sym positions_are

    -- the new offset type holds the end of the last list
    pub planned_starts_held : rebuild_overflow t ≡ None → Holds (rebuilt_ptype offset_type) (pos (sum (counts_of size_type sizes)))
    planned_starts_held none =
        subst (λ n. Holds (rebuilt_ptype offset_type) (pos n)) (sym planned_total) (subst (λ p. Holds (rebuilt_ptype p) (pos (total_of t))) (sym plan.offset_type_is) (totals_held t none).0)

    -- ---- the list view that it makes

    module _ (e' o' s' : Tree) (v' : Valid) (starts : List ℕ) (selected : IsSelected (elements_of t) (valid_positions_of t) e') (starts_hold : HoldCounts (rebuilt_ptype offset_type) starts (starts_from 0 (counts_of size_type sizes))) (o_same : o' ≡ primitive (rebuilt_ptype offset_type) starts non_nullable) (s_same : s' ≡ primitive size_type sizes non_nullable) (v_is : v' ≡ v) where
      taken : IsSelected e positions e'
      taken = subst (λ ps. IsSelected e ps e') positions_are (subst (λ x. IsSelected (elements_of x) (valid_positions_of t) e') same selected)

      o_is : IsCountArray (rebuilt_ptype offset_type) (starts_from 0 kept) o'
      o_is =
          let starts_are : numbers (rebuilt_ptype offset_type) starts ≡ map pos (starts_from 0 kept) = starts_hold.are ∙ ap (λ ns. map pos (starts_from 0 ns)) (counts_of-held size_type sizes kept sizes_hold.are) in
          subst (IsCountArray (rebuilt_ptype offset_type) (starts_from 0 kept)) (sym o_same) (count_array_of_numbers (rebuilt_ptype offset_type) starts (starts_from 0 kept) starts_are)

      s_is : IsCountArray size_type kept s'
      s_is = subst (IsCountArray size_type kept) (sym s_same) (count_array_of_numbers size_type sizes kept sizes_hold.are)

      pub plan_formed : WellFormed (list_view e' o' s' v' true)
      plan_formed = subst (λ w. WellFormed (list_view e' o' s' w true)) (sym v_is) (rebuilt_formed e o s v f formed.1 formed.0 (starts_from 0 kept) kept positions plan_is e' o' s' taken (rebuilt_ptype offset_type) size_type o_is s_is)

      pub plan_rebuilds : IsRebuilt t (list_view e' o' s' v' true)
      plan_rebuilds =
          let offset_is : rebuilt_ptype offset_type ≡ rebuilt_ptype (integer_type (kind_of o)) = ap rebuilt_ptype (plan.offset_type_is ∙ ap (λ x. integer_type (kind_of (offsets_of x))) same) in
          let size_is : size_type ≡ rebuilt_ptype (integer_type (kind_of s)) = plan.size_type_is ∙ ap (λ x. rebuilt_ptype (integer_type (kind_of (sizes_of x)))) same in
          let rebuilt = rebuilt_view e o s v f formed.1 formed.0 (starts_from 0 kept) kept positions plan_is e' o' s' taken (rebuilt_ptype offset_type) size_type o_is s_is offset_is size_is in
          subst (λ x. IsRebuilt x (list_view e' o' s' v' true)) (sym same) (subst (λ w. IsRebuilt (list_view e o s v f) (list_view e' o' s' w true)) (sym v_is) rebuilt)

-- ---- the same parts under another flag

pub flag_formed : (e o s : Tree) (v : Valid) (f g : Bool) → WellFormed (list_view e o s v f) → (IsTrue g → IsConsecutive o s) → WellFormed (list_view e o s v g)
flag_formed e o s v f g formed follows = (
  formed.0,
  record {
    offsets = formed.1.offsets;
    sizes = formed.1.sizes;
    same_len = formed.1.same_len;
    within = formed.1.within;
    follows = follows;
  },
)

pub OnOk-always : {T E P : Type 0} (r : Result T E) → P → OnOk r P
OnOk-always (Ok x) p = p
OnOk-always (Err e) p = tt
