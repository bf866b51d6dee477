-- A list view over a part of its elements.
use Rattle.std.proofs.Common.{◌≡◌, ℕ, ◌+◌, ◌-◌, ◌<◌, ◌≤◌, Bool, true, false, cond, List, [], ◌∷◌, length, map, get_or, refl, sym, ◌∙◌, ap, subst, arith}
use Rattle.std.specs.Prelude.{pos, slice_range}
use Rattle.std.specs.List.{All, range_with_len}
use Rattle.std.proofs.lemmas.List.{length-map, get_or-map}
use Rattle.std.proofs.lemmas.List.Elements.{All-map, All-from_get_or}
use Rattle.vx_base.proofs.ListParts.{map_range_same}
use Rattle.vx_base.specs.declared.ptypes.PType.{PType}
use Rattle.vx_base.specs.Integers.{Holds}
use Rattle.vx_base.specs.Kinds.{integers, integer_type, lists, Fits}
use Rattle.vx_base.specs.Rows.{Row, null, items, whole, count_in}
use Rattle.vx_tree.specs.Tree.{Tree, bools, primitive, constant, dictionary, fixed_list, list_view, structure, view_array, Valid}
use Rattle.vx_tree.specs.Layouts.{is_constant}
use Rattle.vx_tree.specs.Meaning.{tree_len, kind_of, row_at, rows, rows_range, is_valid_at, nullable}
use Rattle.vx_tree.specs.Formed.{IsCounts, IsListView, ValidFits, WellFormed}
use Rattle.vx_tree.specs.Operations.{IsSlice}
use Rattle.vx_tree.proofs.FixedLists.{rows_range-same}
use Rattle.vx_lists.specs.ListViews.References.{start_of, end_of, IsTrimmed}
use Rattle.vx_lists.specs.ListViews.{counts_in, IsCountArray}
use Rattle.vx_lists.proofs.ListViews.PlannedNumbers.{Holds-below}
use Rattle.vx_lists.proofs.ListViews.RebuiltViews.{plain_kind}
use Rattle.vx_lists.proofs.ListViews.ViewLayouts.{length-counts_in, get_or-counts_in}

module _ (t e o s : Tree) (v : Valid) (f : Bool) (same : t ≡ list_view e o s v f) (formed : WellFormed (list_view e o s v f)) (start end : ℕ) (starts : (i : ℕ) → i < tree_len t → start ≤ start_of t i) (ends : (i : ℕ) → i < tree_len t → end_of t i ≤ end) (e' o' : Tree) (p : PType) (sliced : IsSlice e start (end - start) e') (o_is : IsCountArray p (map (λ n. n - start) (counts_in o)) o') where
  good : IsListView e o s f
  good = formed.1

  in_t : (i : ℕ) → i < tree_len o → i < tree_len t
  in_t i inside = subst (λ x. i < tree_len x) (sym same) inside

  below : (i : ℕ) → i < tree_len o → start ≤ count_in (row_at o i)
  below i inside = subst (λ x. start ≤ start_of x i) same (starts i (in_t i inside))

  above : (i : ℕ) → i < tree_len o → count_in (row_at o i) + count_in (row_at s i) ≤ end
  above i inside = subst (λ x. end_of x i ≤ end) same (ends i (in_t i inside))

  same_len : tree_len o' ≡ tree_len o
  same_len = sym (length-counts_in o') ∙ ap length o_is.counts_are ∙ length-map (counts_in o) (λ n. n - start) ∙ length-counts_in o

  lowered_at : (i : ℕ) → i < tree_len o → count_in (row_at o' i) ≡ count_in (row_at o i) - start
  lowered_at i inside =
      sym (get_or-counts_in o' i (omega (arith, same_len))) ∙ ap (λ ns. get_or ns i 0) o_is.counts_are
      ∙ get_or-map (λ n. n - start) (counts_in o) i 0 0 (omega (arith, length-counts_in o))
      ∙ ap (λ n. n - start) (get_or-counts_in o i inside)

  pub trimmed_formed : WellFormed (list_view e' o' s v f)
  trimmed_formed = (
    subst (ValidFits v) (sym same_len) formed.0,
    record {
      offsets = o_is.are_counts;
      sizes = good.sizes;
      same_len = good.same_len ∙ sym same_len;
      within = λ i inside. let here : i < tree_len o = omega (arith, same_len) in omega (arith, lowered_at i here, below i here, above i here, sliced.len);
      follows = λ set i inside.
          let next : i + 1 < tree_len o = omega (arith, same_len) in
          omega (arith, lowered_at i (omega arith), lowered_at (i + 1) next, below i (omega arith), good.follows set i next);
    },
  )

  list_moved : (i : ℕ) → i < tree_len o → rows_range (row_at e') (count_in (row_at o' i)) (count_in (row_at s i)) ≡ rows_range (row_at e) (count_in (row_at o i)) (count_in (row_at s i))
  list_moved i inside =
      let low : start ≤ count_in (row_at o i) = below i inside in
      let high : count_in (row_at o i) + count_in (row_at s i) ≤ end = above i inside in
      ap (λ a. rows_range (row_at e') a (count_in (row_at s i))) (lowered_at i inside)
      ∙ rows_range-same (row_at e') (row_at e) (count_in (row_at o i) - start) (count_in (row_at o i)) (count_in (row_at s i)) (λ j within.
      let place : start + (count_in (row_at o i) - start + j) ≡ count_in (row_at o i) + j = omega arith in
      sliced.rows (count_in (row_at o i) - start + j) (omega arith) ∙ ap (row_at e) place)

  row_kept : (i : ℕ) → i < tree_len o → row_at (list_view e' o' s v f) i ≡ row_at (list_view e o s v f) i
  row_kept i inside = ap (λ rs. cond (is_valid_at v i) (items rs) null) (list_moved i inside)

  rows_kept : rows (list_view e' o' s v f) ≡ rows (list_view e o s v f)
  rows_kept =
      map_range_same (row_at (list_view e' o' s v f)) (row_at (list_view e o s v f)) 0 0 (tree_len o') (λ i inside. row_kept (0 + i) (omega (arith, same_len)))
      ∙ ap (λ n. map (row_at (list_view e o s v f)) (range_with_len 0 n)) same_len

  pub trimmed_view : p ≡ integer_type (kind_of o) → rows e' ≡ slice_range (rows e) start end → IsTrimmed t start end (list_view e' o' s v f)
  trimmed_view type_is part =
      subst (λ x. IsTrimmed x start end (list_view e' o' s v f)) (sym same) (record {
        is_view = refl;
        elements = part;
        elements_shape = sliced.shape;
        elements_need = sliced.needs;
        offsets = o_is.counts_are;
        offsets_kind = o_is.kind ∙ ap (λ q. integers q false) type_is ∙ sym (plain_kind (kind_of o) good.offsets.kind);
        sizes = refl;
        validity = refl;
        flag = refl;
        kind = ap (λ k. lists k (nullable v)) sliced.kind;
        same_rows = rows_kept;
      })

-- ---- lowered counts

-- numbers that a type holds are held when they are lowered
pub lowered_held : (p : PType) (by : ℕ) (counts : List ℕ) → All (λ n. Holds p (pos n)) counts → All (λ n. Holds p (pos n)) (map (λ n. n - by) counts)
lowered_held p by counts held = All-map (λ n. Holds p (pos n)) (λ n. n - by) counts (λ i d inside.
    let here : Holds p (pos (get_or counts i d)) = held i d inside in Holds-below p (get_or counts i d - by) (get_or counts i d) (omega arith) here.1)

-- each number of an array of counts is held by its type, since its rows fit its data type
pub counts_held : (a : Tree) → IsCounts a → ((i : ℕ) → i < tree_len a → Fits (kind_of a) (row_at a i)) → All (λ n. Holds (integer_type (kind_of a)) (pos n)) (counts_in a)
counts_held a counts fit = All-from_get_or (λ n. Holds (integer_type (kind_of a)) (pos n)) (counts_in a) 0 (λ i inside.
    let here : i < tree_len a = omega (arith, length-counts_in a) in
    let fits : Fits (integers (integer_type (kind_of a)) false) (whole (pos (count_in (row_at a i)))) =
    subst (λ k. Fits k (whole (pos (count_in (row_at a i))))) (plain_kind (kind_of a) counts.kind) (subst (Fits (kind_of a)) (counts.counts i here) (fit i here)) in
    subst (λ n. Holds (integer_type (kind_of a)) (pos n)) (sym (get_or-counts_in a i here)) fits)

-- they are at least what each row is at least
pub counts_low : (a : Tree) (by : ℕ) → ((i : ℕ) → i < tree_len a → by ≤ count_in (row_at a i)) → All (λ n. by ≤ n) (counts_in a)
counts_low a by low = All-from_get_or (λ n. by ≤ n) (counts_in a) 0 (λ i inside.
    let here : i < tree_len a = omega (arith, length-counts_in a) in
    subst (λ n. by ≤ n) (sym (get_or-counts_in a i here)) (low i here))

-- ---- of a constant

less : (r : Row) (by : ℕ) (xs : List ℕ) → map count_in (map (λ _. whole (pos (count_in r - by))) xs) ≡ map (λ n. n - by) (map count_in (map (λ _. r) xs))
less r by [] = refl
less r by (x ∷ xs) = ap (λ rest. (count_in r - by) ∷ rest) (less r by xs)

-- a constant count that is made less
pub lowered_counts_of_constant : (t : Tree) (p : PType) (by n : ℕ) → is_constant t ≡ true → n ≡ tree_len t
    → IsCountArray p (map (λ c. c - by) (counts_in t)) (constant (integers p false) (whole (pos (count_in (row_at t 0) - by))) n)
lowered_counts_of_constant (constant k r m) p by n is same = record {
  kind = refl;
  are_counts = record { kind = refl; counts = λ i inside. refl };
  counts_are = ap (λ len. map count_in (map (λ _. whole (pos (count_in r - by))) (range_with_len 0 len))) same ∙ less r by (range_with_len 0 m);
}
lowered_counts_of_constant (bools _ _ _) p by n is same = cc
lowered_counts_of_constant (primitive _ _ _) p by n is same = cc
lowered_counts_of_constant (dictionary _ _ _) p by n is same = cc
lowered_counts_of_constant (fixed_list _ _ _ _) p by n is same = cc
lowered_counts_of_constant (list_view _ _ _ _ _) p by n is same = cc
lowered_counts_of_constant (structure _ _ _ _) p by n is same = cc
lowered_counts_of_constant (view_array _ _ _ _) p by n is same = cc

pub ruleset constant_counts = (lowered_counts_of_constant)
