-- Elements that the lists of a list view mark, and the bounds of lists that are met one after another.
use Rattle.std.proofs.Common.{◌≡◌, ℕ, zero, suc, ◌+◌, ◌^◌, ◌<◌, ◌≤◌, Bool, true, List, length, get_or, min, max, refl, sym, ◌∙◌, ap, subst, inl, inr, add-one, arith}
use Rattle.std.proofs.lemmas.Bool.{cases_lt}
use Rattle.vx_base.specs.Integers.{numbers}
use Rattle.vx_base.specs.Rows.{count_in}
use Rattle.vx_base.specs.declared.ptypes.PType.{PType}
use Rattle.vx_tree.specs.Tree.{Tree, list_view, primitive, non_nullable, Valid}
use Rattle.vx_tree.specs.Meaning.{tree_len, row_at}
use Rattle.vx_tree.specs.Formed.{IsConsecutive, WellFormed}
use Rattle.vx_lists.specs.ListViews.CountBytes.{counts_of}
use Rattle.vx_lists.specs.ListViews.References.{LiesIn, AreMarked, MarksReferenced, AreBounds, BoundReferenced}
use Rattle.vx_lists.specs.ListViews.{elements_of, counts_in}
use Rattle.vx_lists.proofs.ListViews.CountArrays.{number_count}
use Rattle.vx_lists.proofs.ListViews.ViewLayouts.{length-counts_in, get_or-counts_in}

-- ---- marks

-- marks follow starts and ends alone
pub AreMarked-same : (starts ends starts' ends' : ℕ → ℕ) (m n : ℕ) (bits : List Bool) → ((i : ℕ) → i < m → starts i ≡ starts' i) → ((i : ℕ) → i < m → ends i ≡ ends' i) → AreMarked starts ends m n bits → AreMarked starts' ends' m n bits
AreMarked-same starts ends starts' ends' m n bits same_starts same_ends marked = record {
  len = marked.len;
  each = λ k inside. (
    (λ is. let found = (marked.each k inside).0 is in (found.0, found.1, subst (λ a. a ≤ k) (same_starts found.0 found.1) found.2, subst (λ b. k < b) (same_ends found.0 found.1) found.3)),
    (λ (found : LiesIn starts' ends' m k). (marked.each k inside).1 (found.0, found.1, subst (λ a. a ≤ k) (sym (same_starts found.0 found.1)) found.2, subst (λ b. k < b) (sym (same_ends found.0 found.1)) found.3)),
  );
}

-- ---- bounds

pub AreBounds-first : (starts ends : ℕ → ℕ) (least greatest : ℕ) → least ≡ starts 0 → greatest ≡ ends 0 → AreBounds starts ends 1 least greatest
AreBounds-first starts ends least greatest least_is greatest_is = record {
  below = λ i inside. let here : i ≡ 0 = omega arith in subst (λ j. least ≤ starts j) (sym here) (omega arith);
  least_is = (0, omega arith, sym least_is);
  above = λ i inside. let here : i ≡ 0 = omega arith in subst (λ j. ends j ≤ greatest) (sym here) (omega arith);
  greatest_is = (0, omega arith, sym greatest_is);
}

module _ (starts ends : ℕ → ℕ) (n least greatest : ℕ) (bounds : AreBounds starts ends n least greatest) (least' greatest' : ℕ) (least_now : least' ≡ min least (starts n)) (greatest_now : greatest' ≡ max greatest (ends n)) where
  pub AreBounds-more : AreBounds starts ends (n + 1) least' greatest'
  AreBounds-more = record {
    below = λ i inside. elim (cases_lt i n) [
      | inl before ↦ let old : least ≤ starts i = bounds.below i before in omega arith
      | inr after ↦ let here : i ≡ n = omega arith in subst (λ j. least' ≤ starts j) (sym here) (omega arith)
    ];
    least_is = elim (cases_lt (starts n) least) [
      | inl less ↦ (n, omega arith, omega arith)
      | inr more ↦ let before : bounds.least_is.0 < n = bounds.least_is.1 in let old : starts bounds.least_is.0 ≡ least = bounds.least_is.2 in (bounds.least_is.0, omega arith, omega arith)
    ];
    above = λ i inside. elim (cases_lt i n) [
      | inl before ↦ let old : ends i ≤ greatest = bounds.above i before in omega arith
      | inr after ↦ let here : i ≡ n = omega arith in subst (λ j. ends j ≤ greatest') (sym here) (omega arith)
    ];
    greatest_is = elim (cases_lt greatest (ends n)) [
      | inl more ↦ (n, omega arith, omega arith)
      | inr less ↦ let before : bounds.greatest_is.0 < n = bounds.greatest_is.1 in let old : ends bounds.greatest_is.0 ≡ greatest = bounds.greatest_is.2 in (bounds.greatest_is.0, omega arith, omega arith)
    ];
  }

-- where each list ends where the next one starts, the first start is the least and the last end the greatest
pub AreBounds-consecutive : (starts ends : ℕ → ℕ) (n : ℕ) → ((i : ℕ) → starts i ≤ ends i) → ((i : ℕ) → i < n → ends i ≡ starts (i + 1)) → AreBounds starts ends (n + 1) (starts 0) (ends n)
AreBounds-consecutive starts ends zero ordered follows = AreBounds-first starts ends (starts 0) (ends 0) refl refl
AreBounds-consecutive starts ends (suc n) ordered follows =
    let before = AreBounds-consecutive starts ends n ordered (λ i inside. follows i (omega arith)) in
    let next : ends n ≡ starts (suc n) = follows n (omega arith) ∙ ap starts (add-one n) in
    let low : starts 0 ≤ starts n = before.below n (omega arith) in
    let here : starts n ≤ ends n = ordered n in
    let last : starts (suc n) ≤ ends (suc n) = ordered (suc n) in
    AreBounds-more starts ends (suc n) (starts 0) (ends n) (subst (λ m. AreBounds starts ends m (starts 0) (ends n)) (add-one n) before) (starts 0) (ends (suc n)) (omega arith) (omega arith)

-- bounds follow starts and ends alone
AreBounds-same : (starts ends starts' ends' : ℕ → ℕ) (n least greatest : ℕ) → ((i : ℕ) → i < n → starts i ≡ starts' i) → ((i : ℕ) → i < n → ends i ≡ ends' i) → AreBounds starts ends n least greatest → AreBounds starts' ends' n least greatest
AreBounds-same starts ends starts' ends' n least greatest same_starts same_ends bounds = record {
  below = λ i inside. subst (λ a. least ≤ a) (same_starts i inside) (bounds.below i inside);
  least_is = let first = bounds.least_is in (first.0, first.1, sym (same_starts first.0 first.1) ∙ first.2);
  above = λ i inside. subst (λ b. b ≤ greatest) (same_ends i inside) (bounds.above i inside);
  greatest_is = let last = bounds.greatest_is in (last.0, last.1, sym (same_ends last.0 last.1) ∙ last.2);
}

-- ---- of offsets and sizes that lie as bytes of numbers

module _ (o s : Tree) (offset_type size_type : PType) (offsets sizes : List ℕ) (o_is : o ≡ primitive offset_type offsets non_nullable) (s_is : s ≡ primitive size_type sizes non_nullable) (same_len : tree_len s ≡ tree_len o) where
  numbers_len : length (numbers offset_type offsets) ≡ tree_len o
  numbers_len = sym (ap tree_len o_is)

  pub numbers_same_len : length (numbers size_type sizes) ≡ length (numbers offset_type offsets)
  numbers_same_len = sym (ap tree_len s_is) ∙ same_len ∙ ap tree_len o_is

  start_read : (i : ℕ) → i < length (numbers offset_type offsets) → get_or (counts_of offset_type offsets) i 0 ≡ count_in (row_at o i)
  start_read i inside = number_count offset_type offsets i inside ∙ sym (ap (λ t. count_in (row_at t i)) o_is)

  size_read : (i : ℕ) → i < length (numbers offset_type offsets) → get_or (counts_of size_type sizes) i 0 ≡ count_in (row_at s i)
  size_read i inside = number_count size_type sizes i (omega (arith, numbers_same_len)) ∙ sym (ap (λ t. count_in (row_at t i)) s_is)

  pub numbers_ends_fit : ((i : ℕ) → i < tree_len o → count_in (row_at o i) + count_in (row_at s i) < 2 ^ 64) → (i : ℕ) → i < length (numbers offset_type offsets) → get_or (counts_of offset_type offsets) i 0 + get_or (counts_of size_type sizes) i 0 < 2 ^ 64
  numbers_ends_fit fit i inside = let here : count_in (row_at o i) + count_in (row_at s i) < 2 ^ 64 = fit i (omega (arith, numbers_len)) in omega (arith, start_read i inside, size_read i inside)

  pub bounds_of_numbers : (least greatest : ℕ) → AreBounds (λ i. get_or (counts_of offset_type offsets) i 0) (λ i. get_or (counts_of offset_type offsets) i 0 + get_or (counts_of size_type sizes) i 0) (length (numbers offset_type offsets)) least greatest
      → AreBounds (λ i. count_in (row_at o i)) (λ i. count_in (row_at o i) + count_in (row_at s i)) (tree_len o) least greatest
  bounds_of_numbers least greatest bounds =
      let at_rows = AreBounds-same (λ i. get_or (counts_of offset_type offsets) i 0) (λ i. get_or (counts_of offset_type offsets) i 0 + get_or (counts_of size_type sizes) i 0) (λ i. count_in (row_at o i)) (λ i. count_in (row_at o i) + count_in (row_at s i)) (length (numbers offset_type offsets)) least greatest
      start_read (λ i inside. omega (arith, start_read i inside, size_read i inside)) bounds in
      subst (λ n. AreBounds (λ i. count_in (row_at o i)) (λ i. count_in (row_at o i) + count_in (row_at s i)) n least greatest) numbers_len at_rows

-- ---- of a list view of these parts

module _ (t e o s : Tree) (v : Valid) (f : Bool) (same : t ≡ list_view e o s v f) (formed : WellFormed (list_view e o s v f)) where
  -- its offsets and sizes, as lists
  module _ (offsets sizes : List ℕ) (count : ℕ) (offsets_are : offsets ≡ counts_in o) (sizes_are : sizes ≡ counts_in s) (count_is : count ≡ tree_len e) where
    offsets_len : length offsets ≡ tree_len o
    offsets_len = ap length offsets_are ∙ length-counts_in o

    offset_is : (i : ℕ) → i < length offsets → get_or offsets i 0 ≡ count_in (row_at o i)
    offset_is i inside = ap (λ ns. get_or ns i 0) offsets_are ∙ get_or-counts_in o i (omega (arith, offsets_len))

    size_is : (i : ℕ) → i < length offsets → get_or sizes i 0 ≡ count_in (row_at s i)
    size_is i inside = let same_len : tree_len s ≡ tree_len o = formed.1.same_len in ap (λ ns. get_or ns i 0) sizes_are ∙ get_or-counts_in s i (omega (arith, offsets_len))

    pub marked_same_len : length sizes ≡ length offsets
    marked_same_len = ap length sizes_are ∙ length-counts_in s ∙ formed.1.same_len ∙ sym offsets_len

    pub marked_within : (i : ℕ) → i < length offsets → get_or offsets i 0 + get_or sizes i 0 ≤ count
    marked_within i inside =
        let ends : count_in (row_at o i) + count_in (row_at s i) ≤ tree_len e = formed.1.within i (omega (arith, offsets_len)) in
        omega (arith, offset_is i inside, size_is i inside)

    pub marks_referenced : (bits : List Bool) → AreMarked (λ i. get_or offsets i 0) (λ i. get_or offsets i 0 + get_or sizes i 0) (length offsets) count bits → MarksReferenced t bits
    marks_referenced bits marked =
        let at_rows : AreMarked (λ i. count_in (row_at o i)) (λ i. count_in (row_at o i) + count_in (row_at s i)) (length offsets) count bits =
        AreMarked-same (λ i. get_or offsets i 0) (λ i. get_or offsets i 0 + get_or sizes i 0) (λ i. count_in (row_at o i)) (λ i. count_in (row_at o i) + count_in (row_at s i)) (length offsets) count bits
        offset_is (λ i inside. omega (arith, offset_is i inside, size_is i inside)) marked in
        let at_len = subst (λ m. AreMarked (λ i. count_in (row_at o i)) (λ i. count_in (row_at o i) + count_in (row_at s i)) m count bits) offsets_len at_rows in
        let at_count = subst (λ n. AreMarked (λ i. count_in (row_at o i)) (λ i. count_in (row_at o i) + count_in (row_at s i)) (tree_len o) n bits) count_is at_len in
        subst (λ x. MarksReferenced x bits) (sym same) at_count

  module _ (least greatest : ℕ) (bounds : AreBounds (λ i. count_in (row_at o i)) (λ i. count_in (row_at o i) + count_in (row_at s i)) (tree_len o) least greatest) where
    pub bounds_referenced : BoundReferenced t least greatest
    bounds_referenced = subst (λ x. BoundReferenced x least greatest) (sym same) bounds

    pub bounds_within : (least ≤ greatest) × (greatest ≤ tree_len (elements_of t))
    bounds_within =
        let last = bounds.greatest_is in
        let inside : last.0 < tree_len o = last.1 in
        let end : count_in (row_at o last.0) + count_in (row_at s last.0) ≡ greatest = last.2 in
        let low : least ≤ count_in (row_at o last.0) = bounds.below last.0 inside in
        let high : count_in (row_at o last.0) + count_in (row_at s last.0) ≤ tree_len e = formed.1.within last.0 inside in
        subst (λ x. (least ≤ greatest) × (greatest ≤ tree_len (elements_of x))) (sym same) (omega arith, omega arith)

  -- of a flagged view the first start and the last end
  pub bounds_of_flagged : (last start end : ℕ) → f ≡ true → last + 1 ≡ tree_len o → start ≡ count_in (row_at o 0) → end ≡ count_in (row_at o last) + count_in (row_at s last) → AreBounds (λ i. count_in (row_at o i)) (λ i. count_in (row_at o i) + count_in (row_at s i)) (tree_len o) start end
  bounds_of_flagged last start end set count start_is end_is =
      let follows : IsConsecutive o s = formed.1.follows set in
      let all = AreBounds-consecutive (λ i. count_in (row_at o i)) (λ i. count_in (row_at o i) + count_in (row_at s i)) last (λ i. omega arith) (λ i inside. follows i (omega arith)) in
      rw (start_is, end_is) (subst (λ n. AreBounds (λ i. count_in (row_at o i)) (λ i. count_in (row_at o i) + count_in (row_at s i)) n (count_in (row_at o 0)) (count_in (row_at o last) + count_in (row_at s last))) count all)
