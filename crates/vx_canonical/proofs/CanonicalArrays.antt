-- The plain layout of each layout, by the plain layout of its parts.
use Rattle.std.proofs.Common.{ℕ, zero, suc, ◌+◌, ◌*◌, ◌<◌, ◌≤◌, ◌≡◌, ◌++◌, Bool, false, List, [], ◌∷◌, length, map, take, get_or, Option, Some, None, refl, sym, ◌∙◌, ap, zero-add, inl, inr, arith}
use Rattle.std.specs.Prelude.{if◌then◌else◌}
use Rattle.std.specs.List.{AllZip, range_with_len}
use Rattle.std.proofs.lemmas.List.{take_more, take_all}
use Rattle.std.proofs.lemmas.List.FromFn.{length-map-range_with_len, get_or-map-range_with_len}
use Rattle.vx_base.specs.Bits.{bool_at}
use Rattle.vx_base.specs.Refusals.{Refusal, refusal_of, IsMemoryOr, or_else}
use Rattle.vx_base.specs.declared.errors.VortexError.{VortexError}
use Rattle.vx_base.specs.Kinds.{lists, fixed_lists}
use Rattle.vx_base.specs.Rows.{Row, null, items, count_in, truth_of}
use Rattle.vx_tree.specs.Tree.{Tree, bools, fixed_list, list_view, Valid, non_nullable, by_array}
use Rattle.vx_tree.specs.Meaning.{tree_len, row_at, rows, is_valid_at, nullable, trees_from}
use Rattle.vx_tree.specs.Shapes.{state_of, is_nullable_state}
use Rattle.vx_tree.specs.Formed.{ValidFits, IsMask, IsListView, AllLen}
use Rattle.vx_tree.specs.Plain.{IsPlain, ArePlain}
use Rattle.vx_tree.specs.Extents.{extent_of, extents_of, extent, list_extent, fixed_list_extent}
use Rattle.vx_canonical.specs.Canonical.{HasRowsOf, IsCanonical, AreCanonical, IsCanonicalValid}
use Rattle.vx_tree.specs.CanonicalFaults.{canonical_fault, columns_fault}
use Rattle.vx_tree.proofs.RowLists.{rows_by_place}
use Rattle.vx_tree.proofs.Selected.{nullable-state}
use Rattle.vx_tree.proofs.FixedLists.{rows_range-same, place_within}
use Rattle.vx_tree.proofs.Dictionaries.{memory_only}
use Rattle.vx_tree.proofs.Columns.{IsRowsAt, AreRowsAt-from_each, AllZip-all}

pub rows_canonical : (t r : Tree) → IsCanonical t r → rows r ≡ rows t
rows_canonical t r h = (rows_by_place r t).1 (h.same.len, λ i l. h.same.rows i (rw h.same.len at l))

-- ---- validities

pub same_nullable : (v w : Valid) → state_of w ≡ state_of v → nullable w ≡ nullable v
same_nullable v w e = nullable-state w ∙ ap is_nullable_state e ∙ sym (nullable-state v)

pub array_canonical : {b : ℕ} (v w : Valid) (t : Tree) (bits : List Bool) (n : ℕ) → v ≡ by_array t → w ≡ by_array (bools b bits non_nullable) → bits ≡ map (λ i. truth_of (row_at t i)) (range_with_len 0 (tree_len t))
    → ValidFits v n → IsCanonicalValid v n w
array_canonical v w t bits n a b e fits =
    let mask : IsMask t n = rw a at fits in
    rw (a, b) (record {
      fits = record { len = ap length e ∙ length-map-range_with_len (λ i. truth_of (row_at t i)) 0 (tree_len t) ∙ mask.len; kind = refl };
      state = refl;
      plain = tt;
      bits = λ i l. ap (λ bs. bool_at bs i) e ∙ get_or-map-range_with_len (λ j. truth_of (row_at t j)) 0 (tree_len t) i i false (rw mask.len l) (zero-add i);
    })

pub valid_row : (a b : Bool) (r s : Row) → a ≡ b → r ≡ s → (if a then r else null) ≡ (if b then s else null)
valid_row a b r s e h = λ i. if e i then h i else null

-- ---- leaves

-- ---- lists

pub fixed_lists_canonical : (t r e d : Tree) (k n : ℕ) (v w : Valid) → t ≡ fixed_list e k v n → r ≡ fixed_list d k w n → tree_len e ≡ n * k → IsCanonical e d → IsCanonicalValid v n w → IsCanonical t r
fixed_lists_canonical t r e d k n v w a b long x h =
    rw (a, b) (record {
      same = record {
        len = refl;
        kind = λ i. fixed_lists (x.same.kind i) k (same_nullable v w h.state i);
        rows = λ i l. valid_row (is_valid_at w i) (is_valid_at v i) _ _ (h.bits i l) (ap items (rows_range-same (row_at d) (row_at e) (i * k) (i * k) k (λ j m. x.same.rows (i * k + j) (rw long (place_within i j n k l m)))));
      };
      plain = (x.plain, h.plain);
      state = h.state;
      extent = ap fixed_list_extent x.extent;
      flag = refl;
      kept = tt;
    })

count_same : (o p : Tree) (i : ℕ) → HasRowsOf o p → i < tree_len o → count_in (row_at p i) ≡ count_in (row_at o i)
count_same o p i x l = ap count_in (x.rows i l)

pub lists_canonical : (t r e o s d p q : Tree) (v w : Valid) (f : Bool) → t ≡ list_view e o s v f → r ≡ list_view d p q w f → IsListView e o s f → IsCanonical e d → IsCanonical o p → IsCanonical s q → IsCanonicalValid v (tree_len o) w
    → IsCanonical t r
lists_canonical t r e o s d p q v w f a b view x y z h =
    rw (a, b) (record {
      same = record {
        len = y.same.len;
        kind = λ i. lists (x.same.kind i) (same_nullable v w h.state i);
        rows = λ i l.
            let from = count_same o p i y.same l in
            let size = count_same s q i z.same (rw view.same_len l) in
            valid_row (is_valid_at w i) (is_valid_at v i) _ _ (h.bits i l) (ap items (rw (from, size) (rows_range-same (row_at d) (row_at e) (count_in (row_at o i)) (count_in (row_at o i)) (count_in (row_at s i))
            (λ j m. x.same.rows (count_in (row_at o i) + j) (omega (arith, m, view.within i l))))));
      };
      plain = (x.plain, y.plain, z.plain, h.plain);
      state = h.state;
      extent = λ i. list_extent (x.same.len i) (x.extent i);
      flag = refl;
      kept = (x.same, y.same, z.same);
    })

-- ---- records

rows_each : (n : ℕ) (ts us : List Tree) → AllLen n (trees_from ts) → AllZip IsCanonical ts us → AllZip (λ t u. IsRowsAt t (λ i. i) n u) ts us
rows_each n [] [] lens h = tt
rows_each n [] (u ∷ us) lens h = absurd h
rows_each n (t ∷ ts) [] lens h = absurd h
rows_each n (t ∷ ts) (u ∷ us) lens h =
    (record { len = h.0.same.len ∙ lens.0; kind = h.0.same.kind; rows = λ i l. h.0.same.rows i (rw lens.0 l) }, rows_each n ts us lens.1 h.1)

-- a relation of which each right side is plain, or of the extent of the left one
pub all_plain : (R : Tree → Tree → Type 0) → ((t u : Tree) → R t u → IsPlain u) → (ts us : List Tree) → AllZip R ts us → ArePlain (trees_from us)
all_plain R one [] [] h = tt
all_plain R one [] (u ∷ us) h = absurd h
all_plain R one (t ∷ ts) [] h = absurd h
all_plain R one (t ∷ ts) (u ∷ us) h = (one t u h.0, all_plain R one ts us h.1)

pub same_extents : (R : Tree → Tree → Type 0) → ((t u : Tree) → R t u → extent_of u ≡ extent_of t) → (ts us : List Tree) → AllZip R ts us → extents_of (trees_from us) ≡ extents_of (trees_from ts)
same_extents R one [] [] h = refl
same_extents R one [] (u ∷ us) h = absurd h
same_extents R one (t ∷ ts) [] h = absurd h
same_extents R one (t ∷ ts) (u ∷ us) h = λ i. extent (one t u h.0 i) (same_extents R one ts us h.1 i)

pub AreCanonical-from_each : (n : ℕ) (ts us : List Tree) (i : ℕ) → AllLen n (trees_from ts) → AllZip IsCanonical (take i ts) us → length ts ≤ i → AreCanonical (trees_from ts) n (trees_from us)
AreCanonical-from_each n ts us i lens h l =
    let each = AllZip-all IsCanonical ts us i h l in
    let full : length ts ≤ length ts = omega arith in
    record { rows_at = AreRowsAt-from_each (λ i. i) n ts us i (rows_each n (take i ts) us (lens_taken n ts i lens) h) l; plain = all_plain IsCanonical (λ t u x. x.plain) ts us each; extents = same_extents IsCanonical (λ t u x. x.extent) ts us each }
  where
    lens_taken : (n : ℕ) (ts : List Tree) (i : ℕ) → AllLen n (trees_from ts) → AllLen n (trees_from (take i ts))
    lens_taken n [] zero h = tt
    lens_taken n [] (suc i) h = tt
    lens_taken n (t ∷ ts) zero h = tt
    lens_taken n (t ∷ ts) (suc i) h = (h.0, lens_taken n ts i h.1)

-- ---- faults of columns, one after another

pub or_none : (a b : Option Refusal) → or_else a b ≡ None → (a ≡ None) × (b ≡ None)
or_none None b h = (refl, h)
or_none (Some r) b h = cc

pub columns_fault-next : (ts : List Tree) (i : ℕ) (t : Tree) → columns_fault (trees_from (take i ts)) ≡ None → i < length ts → t ≡ get_or ts i t → canonical_fault t ≡ None → columns_fault (trees_from (take (i + 1) ts)) ≡ None
columns_fault-next ts i t h l e here = rw (take_more ts i t l, ← e) (more (take i ts) t h here)
  where
    more : (us : List Tree) (u : Tree) → columns_fault (trees_from us) ≡ None → canonical_fault u ≡ None → columns_fault (trees_from (us ++ u ∷ [])) ≡ None
    more [] u h here = rw here refl
    more (w ∷ us) u h here =
        let both = or_none (canonical_fault w) (columns_fault (trees_from us)) h in
        rw both.0 (more us u both.1 here)

pub columns_fault-all : (ts : List Tree) (i : ℕ) → columns_fault (trees_from (take i ts)) ≡ None → length ts ≤ i → columns_fault (trees_from ts) ≡ None
columns_fault-all ts i h l = rw (take_all i ts l) at h

-- the first column that has a fault
pub columns_fault-first : (ts : List Tree) (i : ℕ) (t : Tree) (fault : Refusal) → columns_fault (trees_from (take i ts)) ≡ None → i < length ts → t ≡ get_or ts i t → canonical_fault t ≡ Some fault → columns_fault (trees_from ts) ≡ Some fault
columns_fault-first [] i t fault h l e here = absurd (omega arith)
columns_fault-first (u ∷ ts) zero t fault h l e here = rw (← e, here) refl
columns_fault-first (u ∷ ts) (suc i) t fault h l e here =
    let both = or_none (canonical_fault u) (columns_fault (trees_from (take i ts))) h in
    rw both.0 (columns_fault-first ts i t fault both.1 (omega arith) e here)

refused_by : (ts : List Tree) (i : ℕ) (t : Tree) (fault : Option Refusal) (e : VortexError) → columns_fault (trees_from (take i ts)) ≡ None → i < length ts → t ≡ get_or ts i t → canonical_fault t ≡ fault → fault ≡ refusal_of e
    → IsMemoryOr (columns_fault (trees_from ts)) e
refused_by ts i t None e h l here none same = inl (memory_only None e refl (inr same))
refused_by ts i t (Some r) e h l here some same = inr (columns_fault-first ts i t r h l here some ∙ same)

-- the error of the first column that has one is that of the columns
pub columns_refused : (ts : List Tree) (i : ℕ) (t : Tree) (e : VortexError) → columns_fault (trees_from (take i ts)) ≡ None → i < length ts → t ≡ get_or ts i t → IsMemoryOr (canonical_fault t) e → IsMemoryOr (columns_fault (trees_from ts)) e
columns_refused ts i t e h l here (inl memory) = inl memory
columns_refused ts i t e h l here (inr same) = refused_by ts i t (canonical_fault t) e h l here refl same
