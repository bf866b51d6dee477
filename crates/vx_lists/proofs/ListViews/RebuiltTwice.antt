-- A list view that a mode rebuilt is alike when that mode rebuilds it again, and not refused.
use Rattle.std.proofs.Common.{◌≡◌, ℕ, ◌+◌, ◌-◌, ◌<◌, ◌≤◌, Bool, true, false, cond, eqb, eq-eqb, Option, Some, None, List, [], ◌∷◌, length, drop, map, get_or, refl, sym, ◌∙◌, ap, subst, inl, inr, arith}
use Rattle.std.proofs.lemmas.Bool.{cases_lt}
use Rattle.std.proofs.lemmas.List.{length-take, take_all, get_or-map}
use Rattle.vx_base.specs.Refusals.{Refusal, not_implemented}
use Rattle.vx_base.specs.Rows.{count_in}
use Rattle.vx_tree.specs.Tree.{Tree}
use Rattle.vx_tree.specs.Meaning.{tree_len, row_at, rows, valid_mask}
use Rattle.vx_lists.specs.declared.list_view.rebuild.ListViewRebuildMode.{ListViewRebuildMode}
use Rattle.vx_lists.specs.declared.list_view.rebuild.ListViewRebuildMode.TheVariants.{MakeZeroCopyToList, TrimElements, MakeExact, OverlapCompression}
use Rattle.vx_lists.specs.ListViews.Layout.{IsWellFormed, IsTidy}
use Rattle.vx_lists.specs.ListViews.Faults.{rebuild_overflow, rebuild_fault}
use Rattle.vx_lists.specs.ListViews.References.{start_of, end_of, AreBounds, IsTrimmed, IsTrimmedToBounds}
use Rattle.vx_lists.specs.ListViews.{elements_of, offsets_of, sizes_of, validity_of, flag_of, with_flag, counts_in, list_layout_of, list_rows, IsRebuilt, AreAlike}
use Rattle.vx_lists.specs.ListViews.Modes.{IsMadeBy, IsRebuiltBy}
use Rattle.vx_lists.proofs.ListViews.AlikeViews.{alike_itself, len-offsets_of}
use Rattle.vx_lists.proofs.ListViews.CanonicalRows.{canonical_well_formed}
use Rattle.vx_lists.proofs.ListViews.ExactViews.{trimmed_len}
use Rattle.vx_lists.proofs.ListViews.TidyLayouts.{canonical_tidy}
use Rattle.vx_lists.proofs.ListViews.ViewLayouts.{length-counts_in, get_or-counts_in}

-- ---- trimming that takes nothing away

lowered_by_none : (ns : List ℕ) → map (λ n. n - 0) ns ≡ ns
lowered_by_none [] = refl
lowered_by_none (n ∷ ns) =
    let first : n - 0 ≡ n = omega arith in
    let rest = lowered_by_none ns in
    cc

trimmed_from_start : (t : Tree) (end : ℕ) (r : Tree) → IsTrimmed t 0 end r → length (rows (elements_of t)) ≤ end → AreAlike t r
trimmed_from_start t end r is whole = record {
  offsets = sym (is.offsets ∙ lowered_by_none (counts_in (offsets_of t)));
  sizes = sym (ap counts_in is.sizes);
  masks = sym (ap (λ v. valid_mask v (tree_len r)) is.validity ∙ ap (valid_mask (validity_of t)) (trimmed_len t r is.same_rows));
  elements = sym (is.elements ∙ take_all (end - 0) (rows (elements_of t)) (omega arith));
}

trimmed_whole : (t : Tree) (start end : ℕ) (r : Tree) → start ≤ 0 → length (rows (elements_of t)) ≤ end → IsTrimmed t start end r → AreAlike t r
trimmed_whole t start end r none whole is =
    let at_zero : start ≡ 0 = omega arith in
    trimmed_from_start t end r (subst (λ k. IsTrimmed t k end r) at_zero is) whole

-- ---- trimming what was trimmed

module _ (t r : Tree) (found : IsTrimmedToBounds t r) where
  abbrev start : ℕ
  start = found.0

  abbrev end : ℕ
  end = found.1

  bounds : AreBounds (start_of t) (end_of t) (tree_len t) start end
  bounds = found.2

  is : IsTrimmed t start end r
  is = found.3

  len : tree_len r ≡ tree_len t
  len = trimmed_len t r is.same_rows

  start_lowered : (i : ℕ) → i < tree_len t → start_of r i ≡ start_of t i - start
  start_lowered i inside =
      let old : i < tree_len (offsets_of t) = omega (arith, len-offsets_of t) in
      let new : i < tree_len (offsets_of r) = omega (arith, len-offsets_of r, len) in
      sym (get_or-counts_in (offsets_of r) i new) ∙ ap (λ ns. get_or ns i 0) is.offsets
      ∙ get_or-map (λ n. n - start) (counts_in (offsets_of t)) i 0 0 (omega (arith, length-counts_in (offsets_of t)))
      ∙ ap (λ n. n - start) (get_or-counts_in (offsets_of t) i old)

  end_lowered : (i : ℕ) → i < tree_len t → end_of r i ≡ end_of t i - start
  end_lowered i inside =
      let size : count_in (row_at (sizes_of r) i) ≡ count_in (row_at (sizes_of t) i) = ap (λ s. count_in (row_at s i)) is.sizes in
      let low : start ≤ start_of t i = bounds.below i inside in
      omega (arith, start_lowered i inside)

  elements_within : length (rows (elements_of r)) ≤ end - start
  elements_within = omega (arith, ap length is.elements, length-take (end - start) (drop start (rows (elements_of t))))

  pub trimmed_twice : (q : Tree) → IsTrimmedToBounds r q → AreAlike r q
  trimmed_twice q again =
      let inner : AreBounds (start_of r) (end_of r) (tree_len r) again.0 again.1 = again.2 in
      let least = bounds.least_is in
      let least_in : least.0 < tree_len t = least.1 in
      let least_at : start_of t least.0 ≡ start = least.2 in
      let low : again.0 ≤ start_of r least.0 = inner.below least.0 (omega (arith, len)) in
      let greatest = bounds.greatest_is in
      let greatest_in : greatest.0 < tree_len t = greatest.1 in
      let greatest_at : end_of t greatest.0 ≡ end = greatest.2 in
      let high : end_of r greatest.0 ≤ again.1 = inner.above greatest.0 (omega (arith, len)) in
      trimmed_whole r again.0 again.1 q (omega (arith, start_lowered least.0 least_in)) (omega (arith, end_lowered greatest.0 greatest_in, elements_within)) again.3

-- ---- trimming what is laid end to end

pub rebuilt_then_trimmed : (t r q : Tree) → IsRebuilt t r → IsTrimmedToBounds r q → AreAlike r q
rebuilt_then_trimmed t r q rebuilt found =
    let bounds : AreBounds (start_of r) (end_of r) (tree_len r) found.0 found.1 = found.2 in
    let tidy : IsTidy (list_layout_of r) = subst IsTidy (sym rebuilt.canonical_layout) (canonical_tidy (list_rows t)) in
    let well : IsWellFormed (list_layout_of r) = subst IsWellFormed (sym rebuilt.canonical_layout) (canonical_well_formed (list_rows t)) in
    let offsets_len : length (counts_in (offsets_of r)) ≡ tree_len r = length-counts_in (offsets_of r) ∙ len-offsets_of r in
    let least = bounds.least_is in
    let some : least.0 < tree_len r = least.1 in
    let first : get_or (counts_in (offsets_of r)) 0 0 ≡ 0 = tidy.first in
    let first_at = get_or-counts_in (offsets_of r) 0 (omega (arith, len-offsets_of r)) in
    let low : found.0 ≤ start_of r 0 = bounds.below 0 (omega arith) in
    let k : ℕ = tree_len r - 1 in
    let last : length (rows (elements_of r)) ≡ get_or (counts_in (offsets_of r)) k 0 + get_or (counts_in (sizes_of r)) k 0 =
    subst (λ n. length (rows (elements_of r)) ≡ get_or (counts_in (offsets_of r)) (n - 1) 0 + get_or (counts_in (sizes_of r)) (n - 1) 0) offsets_len tidy.none_past in
    let last_start = get_or-counts_in (offsets_of r) k (omega (arith, len-offsets_of r)) in
    let last_size = get_or-counts_in (sizes_of r) k (omega (arith, offsets_len, well.sizes_len, length-counts_in (sizes_of r))) in
    let high : end_of r k ≤ found.1 = bounds.above k (omega arith) in
    trimmed_whole r found.0 found.1 q (omega arith) (omega arith) found.3

-- ---- by each mode

abbrev IsAgain : Tree → Tree → Type 0
IsAgain r q = AreAlike r q × (flag_of q ≡ flag_of r)

again : (r q : Tree) → q ≡ r → IsAgain r q
again r q same = (alike_itself r q same, ap flag_of same)

made_twice : (mode : ListViewRebuildMode) (flag : Bool) (t r q : Tree) → flag_of t ≡ flag → IsMadeBy mode flag t r → IsMadeBy mode (flag_of r) r q → IsAgain r q
made_twice MakeZeroCopyToList true t r q set first second =
    again r q (subst (λ b. IsMadeBy MakeZeroCopyToList b r q) (ap flag_of first ∙ set) second)
made_twice MakeZeroCopyToList false t r q set first second =
    again r q (subst (λ b. IsMadeBy MakeZeroCopyToList b r q) first.flag second)
made_twice TrimElements true t r q set first second = (trimmed_twice t r first q second, second.3.flag)
made_twice TrimElements false t r q set first second = (trimmed_twice t r first q second, second.3.flag)
made_twice MakeExact true t r q set first second =
    let found : IsTrimmedToBounds r q = subst (λ b. IsMadeBy MakeExact b r q) (first.3.flag ∙ set) second in
    (trimmed_twice t r first q found, found.3.flag)
made_twice MakeExact false t r q set first second =
    let found : IsTrimmedToBounds r q = subst (λ b. IsMadeBy MakeExact b r q) first.flag second in
    (rebuilt_then_trimmed t r q first found, found.3.flag)
made_twice OverlapCompression true t r q set first second = absurd first
made_twice OverlapCompression false t r q set first second = absurd first

-- rows stay
made_len : (mode : ListViewRebuildMode) (flag : Bool) (t r : Tree) → IsMadeBy mode flag t r → tree_len r ≡ tree_len t
made_len MakeZeroCopyToList true t r made = ap tree_len made
made_len MakeZeroCopyToList false t r made = trimmed_len t r made.same_rows
made_len TrimElements true t r made = trimmed_len t r made.3.same_rows
made_len TrimElements false t r made = trimmed_len t r made.3.same_rows
made_len MakeExact true t r made = trimmed_len t r made.3.same_rows
made_len MakeExact false t r made = trimmed_len t r made.same_rows
made_len OverlapCompression true t r made = absurd made
made_len OverlapCompression false t r made = absurd made

pub rebuilt_twice : (mode : ListViewRebuildMode) (t r q : Tree) → IsRebuiltBy mode t r → IsRebuiltBy mode r q → IsAgain r q
rebuilt_twice mode t r q first second =
    elim (cases_lt 0 (tree_len t)) [
      | inl some ↦
          let made = first.some_rows (λ none. absurd (omega arith)) in
          let len : tree_len r ≡ tree_len t = made_len mode (flag_of t) t r made in
          made_twice mode (flag_of t) t r q refl made (second.some_rows (λ none. absurd (omega arith)))
      | inr few ↦
          let empty : r ≡ with_flag true t = first.no_rows (omega arith) in
          let len : tree_len r ≡ tree_len t = ap tree_len empty ∙ len-offsets_of t in
          let flagged : with_flag true r ≡ r = ap (with_flag true) empty ∙ sym empty in
          again r q (second.no_rows (omega arith) ∙ flagged)
    ]

-- ---- what a mode makes is not refused by it

flagged_fault : (empty flag : Bool) (fault : Option Refusal) → flag ≡ true → cond empty None (cond flag None fault) ≡ None
flagged_fault true flag fault set = refl
flagged_fault false true fault set = refl
flagged_fault false false fault set = cc

flagged_not_refused : (r : Tree) → flag_of r ≡ true → cond (eqb (tree_len r) 0) None (cond (flag_of r) None (rebuild_overflow r)) ≡ None
flagged_not_refused r set = flagged_fault (eqb (tree_len r) 0) (flag_of r) (rebuild_overflow r) set

made_not_refused : (mode : ListViewRebuildMode) (flag : Bool) (t r : Tree) → flag_of t ≡ flag → IsMadeBy mode flag t r → rebuild_fault mode r ≡ None
made_not_refused MakeZeroCopyToList true t r set made = flagged_not_refused r (ap flag_of made ∙ set)
made_not_refused MakeZeroCopyToList false t r set made = flagged_not_refused r made.flag
made_not_refused TrimElements true t r set made = refl
made_not_refused TrimElements false t r set made = refl
made_not_refused MakeExact true t r set made = flagged_not_refused r (made.3.flag ∙ set)
made_not_refused MakeExact false t r set made = flagged_not_refused r made.flag
made_not_refused OverlapCompression true t r set made = absurd made
made_not_refused OverlapCompression false t r set made = absurd made

empty_fault : (n : ℕ) (fault : Option Refusal) → n ≡ 0 → cond (eqb n 0) None fault ≡ None
empty_fault n fault none = ap (λ b. cond b None fault) (eq-eqb n 0 none)

empty_not_refused : (mode : ListViewRebuildMode) (r : Tree) → tree_len r ≡ 0 → rebuild_fault mode r ≡ None
empty_not_refused MakeZeroCopyToList r none = empty_fault (tree_len r) (cond (flag_of r) None (rebuild_overflow r)) none
empty_not_refused TrimElements r none = refl
empty_not_refused MakeExact r none = empty_fault (tree_len r) (cond (flag_of r) None (rebuild_overflow r)) none
empty_not_refused OverlapCompression r none = empty_fault (tree_len r) (Some not_implemented) none

pub rebuilt_not_refused : (mode : ListViewRebuildMode) (t r : Tree) → IsRebuiltBy mode t r → rebuild_fault mode r ≡ None
rebuilt_not_refused mode t r made =
    elim (cases_lt 0 (tree_len t)) [
      | inl some ↦ made_not_refused mode (flag_of t) t r refl (made.some_rows (λ none. absurd (omega arith)))
      | inr few ↦
          let none : tree_len t ≡ 0 = omega arith in
          empty_not_refused mode r (ap tree_len (made.no_rows none) ∙ len-offsets_of t ∙ none)
    ]
