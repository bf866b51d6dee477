-- Taking: what is selected, with the nulls of the indices.
use Rattle.std.proofs.Common.{ℕ, ◌<◌, ◌≡◌, Bool, true, false, List, length, get_or, Option, Some, None, refl, sym, ◌∙◌, ap, subst, zero-add, arith}
use Rattle.std.specs.Prelude.{is_some, IfSome, slice_index, slice_index_or, if◌then◌else◌}
use Rattle.std.proofs.lemmas.List.{length-map, get_or-map, get_or_default}
use Rattle.std.proofs.lemmas.List.FromFn.{get_or-map-range_with_len, length-map-range_with_len, fill_by_all}
use Rattle.vx_base.specs.Rows.{null, position_in}
use Rattle.vx_base.specs.Kinds.{is_integers, or_nullable}
use Rattle.vx_tree.specs.Tree.{Tree, Valid}
use Rattle.vx_tree.specs.Meaning.{row_at, rows, tree_len, kind_of, is_valid_at, nullable, picked}
use Rattle.vx_tree.specs.Shapes.{nulled_shape, state_of}
use Rattle.vx_tree.specs.Faults.{take_fault, indices_fault, take_overflow}
use Rattle.vx_tree.specs.Named.{AreIndices}
use Rattle.vx_tree.specs.Operations.{IsSelected, IsNulled, IsTakenAt, IsValidityOf, AreBelow, positions, picks}
use Rattle.vx_tree.proofs.Needs.{needs_of_needs, same_constant}

-- ---- at positions

-- rows that are selected, and then null where the validity is not true
pub taken_at : (t s r : Tree) (ps : List ℕ) (u : Valid) → IsSelected t ps s → IsNulled s u r → IsTakenAt t ps u r
taken_at t s r ps u x n =
    record {
      len = n.len ∙ x.len;
      kind = n.kind ∙ ap (or_nullable (nullable u)) x.kind;
      shape = n.shape ∙ ap (λ shape. nulled_shape shape (state_of u)) x.shape;
      extent = λ p. n.extent ∙ x.needs.extent;
      needs = λ p no. needs_of_needs t s r x.needs (n.needs (same_constant t s x.shape ∙ no));
      rows = λ i l. n.rows i (rw x.len l) ∙ ap (λ row. if is_valid_at u i then row else null) (x.rows i l);
    }

-- ---- by indices

-- positions within are below, where there are rows
pub positions_below : (indices : Tree) (n : ℕ) (qs : List ℕ) → AreIndices indices n qs → 0 < n → AreBelow n qs
positions_below indices n qs h some = λ i d l.
    let P : ℕ → Type 0 = λ k. k < n in
    let inside : i < tree_len indices = rw h.len at l in
    subst P (sym (get_or_default qs i d 0 l)) ((h.each i inside).below some)

not_some : (p : Option ℕ) → IfSome p (λ k. k < 0) → is_some p ≡ false
not_some None h = refl
not_some (Some k) h = absurd (omega arith)

-- and there is none, where there are none
pub positions_none : (indices : Tree) (n : ℕ) (qs : List ℕ) (v : Valid) → n ≡ 0 → AreIndices indices n qs → IsValidityOf indices v → (i : ℕ) → i < length qs → is_valid_at v i ≡ false
positions_none indices n qs v e h valid i l =
    let inside : i < tree_len indices = rw h.len at l in
    let p = h.each i inside in
    let P : ℕ → Type 0 = λ m. IfSome (position_in (row_at indices i)) (λ k. k < m) in
    valid.bits i inside ∙ sym p.present ∙ not_some (position_in (row_at indices i)) (subst P e p.within)

-- the row of one index
taken_row : (t : Tree) (k : ℕ) (b : Bool) (p : Option ℕ) → b ≡ is_some p → IfSome p (λ n. k ≡ n) → IfSome p (λ n. n < tree_len t) → (if b then row_at t k else null) ≡ picked (λ j. slice_index_or (rows t) j null) p
taken_row t k b None e same w = rw e refl
taken_row t k b (Some n) e same w = rw (e, same) (sym (get_or-map-range_with_len (row_at t) 0 (tree_len t) n n null w (zero-add n)))

long_rows : (t : Tree) → length (rows t) ≡ tree_len t
long_rows t = length-map-range_with_len (row_at t) 0 (tree_len t)

-- the position of one index
position_of_row : (t : Tree) (i : ℕ) → i < tree_len t → get_or (positions (rows t)) i None ≡ position_in (row_at t i)
position_of_row t i l =
    get_or-map position_in (rows t) i null None (rw (long_rows t) l) ∙ ap position_in (get_or-map-range_with_len (row_at t) 0 (tree_len t) i i null l (zero-add i))

-- the rows at positions
pub rows_taken : (t r indices : Tree) (n : ℕ) (qs : List ℕ) (v : Valid) → n ≡ tree_len t → AreIndices indices n qs → IsValidityOf indices v → IsTakenAt t qs v r → rows r ≡ picks (rows t) (positions (rows indices))
rows_taken t r indices n qs v e h valid taken =
    let ps = positions (rows indices) in
    let many : length ps ≡ tree_len indices = length-map (rows indices) position_in ∙ long_rows indices in
    let long : length (picks (rows t) ps) ≡ length qs = length-map ps (picked (λ j. slice_index_or (rows t) j null)) ∙ many ∙ sym h.len in
    rw taken.len (sym (fill_by_all (row_at r) (picks (rows t) ps) (length qs) null long (λ i l. sym (one i l))))
  where
    one : (i : ℕ) → i < length qs → row_at r i ≡ get_or (picks (rows t) (positions (rows indices))) i null
    one i l =
        let inside : i < tree_len indices = rw h.len at l in
        let p = h.each i inside in
        let ps = positions (rows indices) in
        let many : length ps ≡ tree_len indices = length-map (rows indices) position_in ∙ long_rows indices in
        let P : ℕ → Type 0 = λ m. IfSome (position_in (row_at indices i)) (λ k. k < m) in
        let within : IfSome (position_in (row_at indices i)) (λ k. k < tree_len t) = subst P e p.within in
        taken.rows i l ∙ taken_row t (slice_index qs i) (is_valid_at v i) (position_in (row_at indices i)) (valid.bits i inside ∙ sym p.present) p.told within
        ∙ ap (picked (λ j. slice_index_or (rows t) j null)) (sym (position_of_row indices i inside)) ∙ sym (get_or-map (picked (λ j. slice_index_or (rows t) j null)) ps i None null (rw many inside))

-- with indices that are integers and faultless, only the rows taken have a fault
pub take_fault-of : (t indices : Tree) (n : ℕ) → is_integers (kind_of indices) ≡ true → indices_fault (tree_len t) indices ≡ None → n ≡ tree_len indices
    → take_fault t indices ≡ take_overflow t n
take_fault-of t indices n ints none e = rw (ints, none, e) refl

-- where the indices name positions, only their number is refused
pub taken_refuses : (t indices : Tree) (ps : List ℕ) → is_integers (kind_of indices) ≡ true → indices_fault (tree_len t) indices ≡ None → length ps ≡ tree_len indices → take_overflow t (length ps) ≡ take_fault t indices
taken_refuses t indices ps ints none long = rw (ints, none, long) refl
