-- Lists of one size: what becomes of them by what becomes of their elements.
use Rattle.std.proofs.Common.{ℕ, zero, suc, ◌+◌, ◌-◌, ◌*◌, ◌^◌, ◌<◌, ◌≤◌, ◌≡◌, Bool, true, false, List, [], ◌∷◌, length, get_or, ltb, Some, None, refl, sym, ◌∙◌, ap, subst, add-zero, arith}
use Rattle.std.specs.Prelude.{slice_index, if◌then◌else◌}
use Rattle.std.specs.List.{flat_map, range_with_len}
use Rattle.std.proofs.Math.Nat.{mul-le-mul_right}
use Rattle.std.proofs.lemmas.List.{get_or_append_left, get_or-append-add}
use Rattle.std.proofs.lemmas.List.Elements.{All-nil, All-append}
use Rattle.std.proofs.lemmas.List.FromFn.{length-range_with_len, get_or-range_with_len}
use Rattle.std.proofs.lemmas.Bool.{ltb-true}
use Rattle.vx_base.specs.Rows.{Row, row}
use Rattle.vx_base.specs.Kinds.{fixed_lists}
use Rattle.vx_base.specs.Refusals.{overflow}
use Rattle.vx_base.specs.Selections.{list_positions}
use Rattle.vx_base.proofs.SizedLists.{lists_long}
use Rattle.vx_tree.specs.Tree.{Tree, fixed_list, Valid}
use Rattle.vx_tree.specs.Meaning.{row_at, rows_range, tree_len, is_valid_at}
use Rattle.vx_tree.specs.Shapes.{fixed_list_shape}
use Rattle.vx_tree.specs.Formed.{ValidReads-from_fits}
use Rattle.vx_tree.specs.Faults.{take_overflow}
use Rattle.vx_tree.proofs.Fitting.{list_within}
use Rattle.vx_tree.specs.Operations.{IsSlice, IsValidSlice, IsSelected, IsValidSelected, AreBelow}
use Rattle.vx_tree.proofs.Needs.{fixed_lists_need}

-- ---- places

-- the lists up to a place end within the elements
pub lists_within : (a n k len : ℕ) → len ≡ n * k → a ≤ n → a * k ≤ len
lists_within a n k len e l = rw e (mul-le-mul_right k l)

-- element j of list i
pub place_within : (i j n k : ℕ) → i < n → j < k → i * k + j < n * k
place_within i j n k l m =
    let scaled : (i + 1) * k ≤ n * k = mul-le-mul_right k (omega arith) in
    omega arith

pub part_scaled : (start end k : ℕ) → start ≤ end → end * k - start * k ≡ (end - start) * k
part_scaled start end k l =
    let same : end ≡ start + (end - start) = omega arith in
    let whole : (start + (end - start)) * k ≡ start * k + (end - start) * k = omega arith in
    let e : end * k ≡ start * k + (end - start) * k = ap (λ m. m * k) same ∙ whole in
    omega arith

-- the same rows, from another place on
pub rows_range-same : (f g : ℕ → Row) (a b n : ℕ) → ((j : ℕ) → j < n → f (a + j) ≡ g (b + j)) → rows_range f a n ≡ rows_range g b n
rows_range-same f g a b zero h = refl
rows_range-same f g a b (suc n) h =
    let here : f a ≡ g b = simp add-zero at (h 0 (omega arith)) in
    let more : (j : ℕ) → j < n → f (suc a + j) ≡ g (suc b + j) = λ j l. ap f {x = suc a + j} {y = a + suc j} (omega arith) ∙ h (suc j) (omega arith) ∙ ap g {x = b + suc j} {y = suc b + j} (omega arith) in
    λ i. row (here i) (rows_range-same f g (suc a) (suc b) n more i)

list_row : (e r : Tree) (v w : Valid) (k m n i p : ℕ) → is_valid_at w i ≡ is_valid_at v p → rows_range (row_at r) (i * k) k ≡ rows_range (row_at e) (p * k) k
    → row_at (fixed_list r k w n) i ≡ row_at (fixed_list e k v m) p
list_row e r v w k m n i p a b = rw (a, b) refl

-- ---- slicing

pub fixed_lists_sliced : (t u e r : Tree) (k m start end : ℕ) (v w : Valid) → start ≤ end → t ≡ fixed_list e k v m → u ≡ fixed_list r k w (end - start)
    → IsSlice e (start * k) (end * k - start * k) r → IsValidSlice v start (end - start) w → IsSlice t start (end - start) u
fixed_lists_sliced t u e r k m start end v w l a b s h =
    rw (a, b) (record {
      len = refl;
      kind = λ i. fixed_lists (s.kind i) k (h.kind i);
      shape = ap fixed_list_shape h.state;
      plain = λ p. (s.plain p.0, h.plain p.1);
      needs = fixed_lists_need e r k m (end - start) v w s.needs;
      rows = λ i p. list_row e r v w k m (end - start) i (start + i) (h.bits i p) (rows_range-same (row_at r) (row_at e) (i * k) ((start + i) * k) k (λ j q. one i j p q));
    })
  where
    one : (i j : ℕ) → i < end - start → j < k → row_at r (i * k + j) ≡ row_at e ((start + i) * k + j)
    one i j p q =
        let inside : i * k + j < end * k - start * k = rw (part_scaled start end k l) (place_within i j (end - start) k p q) in
        let place : start * k + (i * k + j) ≡ (start + i) * k + j = omega arith in
        s.rows (i * k + j) inside ∙ ap (row_at e) place

-- ---- selecting

pub lists_at : (k : ℕ) (ps : List ℕ) (i j : ℕ) → i < length ps → j < k → slice_index (flat_map (list_positions k) ps) (i * k + j) ≡ slice_index ps i * k + j
lists_at k [] i j l m = absurd (omega arith)
lists_at k (p ∷ ps) zero j l m =
    let first = range_with_len (p * k) k in
    let rest = flat_map (list_positions k) ps in
    let place : zero * k + j ≡ j = omega arith in
    let inside : j < length first = omega (arith, length-range_with_len (p * k) k) in
    rw place (get_or_append_left first rest 0 j inside ∙ get_or-range_with_len (p * k) k j 0 m)
lists_at k (p ∷ ps) (suc i) j l m =
    let first = range_with_len (p * k) k in
    let rest = flat_map (list_positions k) ps in
    let place : suc i * k + j ≡ length first + (i * k + j) = omega (arith, length-range_with_len (p * k) k) in
    rw place (get_or-append-add first rest (i * k + j) 0 ∙ lists_at k ps i j (omega arith) m)

pub lists_below : (k n : ℕ) (ps : List ℕ) → AreBelow n ps → AreBelow (n * k) (flat_map (list_positions k) ps)
lists_below k n [] all = All-nil (λ q. q < n * k)
lists_below k n (p ∷ ps) all =
    All-append (λ q. q < n * k) (range_with_len (p * k) k) (flat_map (list_positions k) ps) (λ i d l. here i d l) (lists_below k n ps (λ i d l. all (suc i) d (omega arith)))
  where
    here : (i d : ℕ) → i < length (range_with_len (p * k) k) → get_or (range_with_len (p * k) k) i d < n * k
    here i d l =
        let P : ℕ → Type 0 = λ q. q < n * k in
        let inside : i < k = omega (arith, length-range_with_len (p * k) k) in
        subst P (sym (get_or-range_with_len (p * k) k i d inside)) (place_within p i n k (all 0 d (omega arith)) inside)

-- the lists at positions, by their elements
pub fixed_rows : (e r : Tree) (k m : ℕ) (v w : Valid) (ps : List ℕ) → ((j : ℕ) → j < length (flat_map (list_positions k) ps) → row_at r j ≡ row_at e (slice_index (flat_map (list_positions k) ps) j))
    → (i : ℕ) → i < length ps → is_valid_at w i ≡ is_valid_at v (slice_index ps i) → row_at (fixed_list r k w (length ps)) i ≡ row_at (fixed_list e k v m) (slice_index ps i)
fixed_rows e r k m v w ps same i p bits =
    list_row e r v w k m (length ps) i (slice_index ps i) bits (rows_range-same (row_at r) (row_at e) (i * k) (slice_index ps i * k) k one)
  where
    one : (j : ℕ) → j < k → row_at r (i * k + j) ≡ row_at e (slice_index ps i * k + j)
    one j q =
        let inside : i * k + j < length (flat_map (list_positions k) ps) = rw (lists_long k ps) (place_within i j (length ps) k p q) in
        same (i * k + j) inside ∙ ap (row_at e) (lists_at k ps i j p q)

pub fixed_lists_selected : (t u e r : Tree) (k m : ℕ) (v w : Valid) (ps : List ℕ) → t ≡ fixed_list e k v m → u ≡ fixed_list r k w (length ps)
    → IsSelected e (flat_map (list_positions k) ps) r → IsValidSelected v ps w → IsSelected t ps u
fixed_lists_selected t u e r k m v w ps a b s h =
    rw (a, b) (record {
      len = refl;
      kind = λ i. fixed_lists (s.kind i) k (h.kind i);
      shape = ap fixed_list_shape h.state;
      plain = λ p. (s.plain p.0, h.plain p.1);
      needs = fixed_lists_need e r k m (length ps) v w s.needs;
      rows = λ i p. fixed_rows e r k m v w ps s.rows i p (h.bits i p);
    })

-- ---- what may be counted

-- where the elements of n lists can be counted, there are fewer than 2^64, and theirs can be counted too
pub lists_countable : (t e : Tree) (k m n : ℕ) (v : Valid) → t ≡ fixed_list e k v m → take_overflow t n ≡ None → (n * k < 2 ^ 64) × (take_overflow e (n * k) ≡ None)
lists_countable t e k m n v a none = few (ltb (n * k) (2 ^ 64)) refl (rw a at none)
  where
    few : (b : Bool) → ltb (n * k) (2 ^ 64) ≡ b → (if b then take_overflow e (n * k) else Some overflow) ≡ None → (n * k < 2 ^ 64) × (take_overflow e (n * k) ≡ None)
    few true p h = (ltb-true (n * k) (2 ^ 64) p, h)
    few false p h = absurd (cc)

-- what is asked of the elements
pub elements_selected : (t e : Tree) (k m : ℕ) (v : Valid) (ps qs : List ℕ) → t ≡ fixed_list e k v m → tree_len e ≡ m * k → qs ≡ flat_map (list_positions k) ps → AreBelow (tree_len t) ps → take_overflow t (length ps) ≡ None
    → AreBelow (tree_len e) qs × (take_overflow e (length qs) ≡ None)
elements_selected t e k m v ps qs a long same below none =
    let P : ℕ → Type 0 = λ n. take_overflow e n ≡ None in
    let few : AreBelow m ps = rw a at below in
    rw (same, long) (lists_below k m ps few, subst P (sym (lists_long k ps)) (lists_countable t e k m (length ps) v a none).1)

pub ruleset reads = (ValidReads-from_fits, list_within)
