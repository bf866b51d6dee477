-- The rows at positions in plain layout, layout by layout.
use Rattle.std.proofs.Common.{ℕ, ◌+◌, ◌*◌, ◌<◌, ◌≤◌, ◌≡◌, Bool, false, List, [], ◌∷◌, length, take, None, refl, sym, ◌∙◌, ap, subst, arith}
use Rattle.std.specs.Prelude.{slice_index}
use Rattle.std.specs.List.{AllZip, flat_map}
use Rattle.vx_base.specs.Kinds.{Kind, lists, fixed_lists, records}
use Rattle.vx_base.specs.Rows.{Row, items, count_in}
use Rattle.vx_base.specs.Selections.{list_positions}
use Rattle.vx_tree.specs.Tree.{Tree, bools, primitive, constant, dictionary, fixed_list, list_view, structure, view_array, Trees, Valid}
use Rattle.vx_tree.specs.Meaning.{tree_len, kind_of, row_at, is_valid_at, nullable, trees_from}
use Rattle.vx_tree.specs.Flags.{is_flagged, kept_flag}
use Rattle.vx_tree.specs.Formed.{IsListView}
use Rattle.vx_tree.specs.Extents.{extent_of, list_extent, fixed_list_extent, struct_extent}
use Rattle.vx_tree.specs.Operations.{IsSelected, IsValidSelected, AreBelow}
use Rattle.vx_canonical.specs.Canonical.{IsCanonical, IsCanonicalAt, AreCanonicalAt, IsCanonicalValid}
use Rattle.vx_tree.specs.CanonicalFaults.{plain_overflow}
use Rattle.vx_base.proofs.SizedLists.{lists_long}
use Rattle.vx_tree.proofs.FixedLists.{rows_range-same, fixed_rows, lists_below}
use Rattle.vx_canonical.proofs.PlainKinds.{lists_countable}
use Rattle.vx_tree.proofs.Dictionaries.{state_of_selected, dictionary_selected}
use Rattle.vx_canonical.proofs.Flags.{flag_of_selected}
use Rattle.vx_tree.proofs.Columns.{IsRowsAt, AreRowsAt-from_each, AllZip-all, record_row}
use Rattle.vx_canonical.proofs.CanonicalArrays.{same_nullable, valid_row, all_plain, same_extents}

-- ---- picked, then made plain

unflagged : (t : Tree) → is_flagged t ≡ false → kept_flag t ≡ false
unflagged (bools b bits v) h = refl
unflagged (primitive t bs v) h = refl
unflagged (constant k r n) h = refl
unflagged (dictionary c v f) h = refl
unflagged (fixed_list e k v n) h = refl
unflagged (list_view e o s v f) h = h
unflagged (structure ns ts v n) h = refl
unflagged (view_array vs bs k v) h = refl

pub picked_canonical : (t s r : Tree) (ps : List ℕ) → IsSelected t ps s → extent_of s ≡ extent_of t → IsCanonical s r → IsCanonicalAt t ps r
picked_canonical t s r ps h e x =
    record {
      len = x.same.len ∙ h.len;
      kind = x.same.kind ∙ h.kind;
      plain = x.plain;
      state = x.state ∙ state_of_selected t s ps h;
      extent = x.extent ∙ e;
      flag = x.flag ∙ unflagged s (flag_of_selected t s ps h);
      rows = λ i l. x.same.rows i (rw h.len l) ∙ h.rows i l;
    }

-- ---- constants and dictionaries

pub constant_at : (t s r : Tree) (k : Kind) (x : Row) (n : ℕ) (ps : List ℕ) → t ≡ constant k x n → s ≡ constant k x (length ps) → IsCanonical s r → IsCanonicalAt t ps r
constant_at t s r k x n ps a b h =
    let made : IsCanonical (constant k x (length ps)) r = rw b at h in
    rw a (record { len = made.same.len; kind = made.same.kind; plain = made.plain; state = made.state; extent = made.extent; flag = made.flag; rows = made.same.rows })

pub dictionary_at : (t r c d v : Tree) (f : Bool) (ps : List ℕ) → t ≡ dictionary c v f → IsSelected c ps d → IsCanonical (dictionary d v false) r → IsCanonicalAt t ps r
dictionary_at t r c d v f ps a h x = picked_canonical t (dictionary d v false) r ps (dictionary_selected t (dictionary d v false) c v d f ps a refl h) (sym (ap extent_of a)) x

-- ---- lists

-- what is asked of the elements
pub elements_at : (t e : Tree) (k m : ℕ) (v : Valid) (ps qs : List ℕ) → t ≡ fixed_list e k v m → tree_len e ≡ m * k → qs ≡ flat_map (list_positions k) ps → AreBelow (tree_len t) ps → plain_overflow (kind_of t) (length ps) ≡ None
    → AreBelow (tree_len e) qs × (plain_overflow (kind_of e) (length qs) ≡ None)
elements_at t e k m v ps qs a long same below none =
    let P : ℕ → Type 0 = λ n. plain_overflow (kind_of e) n ≡ None in
    let few : AreBelow m ps = rw a at below in
    let counted : plain_overflow (fixed_lists (kind_of e) k (nullable v)) (length ps) ≡ None = rw a at none in
    rw (same, long) (lists_below k m ps few, subst P (sym (lists_long k ps)) (lists_countable (kind_of e) k (length ps) (nullable v) counted).1)

pub fixed_lists_at : (t r e d : Tree) (k n : ℕ) (v u w : Valid) (ps : List ℕ) → t ≡ fixed_list e k v n → r ≡ fixed_list d k w (length ps) → IsCanonicalAt e (flat_map (list_positions k) ps) d → IsValidSelected v ps u → IsCanonicalValid u (length ps) w
    → IsCanonicalAt t ps r
fixed_lists_at t r e d k n v u w ps a b x s h =
    rw (a, b) (record {
      len = refl;
      kind = λ i. fixed_lists (x.kind i) k ((same_nullable u w h.state ∙ s.kind) i);
      plain = (x.plain, h.plain);
      state = h.state ∙ s.state;
      extent = ap fixed_list_extent x.extent;
      flag = refl;
      rows = λ i l. fixed_rows e d k n v w ps x.rows i l (h.bits i l ∙ s.bits i l);
    })

pub lists_at : (t r e o s d p q : Tree) (v u w : Valid) (f : Bool) (ps : List ℕ) → t ≡ list_view e o s v f → r ≡ list_view d p q w false → IsListView e o s f → AreBelow (tree_len t) ps
    → IsCanonical e d → IsCanonicalAt o ps p → IsCanonicalAt s ps q → IsValidSelected v ps u → IsCanonicalValid u (length ps) w → IsCanonicalAt t ps r
lists_at t r e o s d p q v u w f ps a b view below x y z g h =
    let few : AreBelow (tree_len o) ps = rw a at below in
    rw (a, b) (record {
      len = y.len;
      kind = λ i. lists (x.same.kind i) ((same_nullable u w h.state ∙ g.kind) i);
      plain = (x.plain, y.plain, z.plain, h.plain);
      state = h.state ∙ g.state;
      extent = λ i. list_extent (x.same.len i) (x.extent i);
      flag = refl;
      rows = λ i l.
          let k = slice_index ps i in
          let from : count_in (row_at p i) ≡ count_in (row_at o k) = ap count_in (y.rows i l) in
          let size : count_in (row_at q i) ≡ count_in (row_at s k) = ap count_in (z.rows i l) in
          let inside : k < tree_len o = few i 0 l in
          valid_row (is_valid_at w i) (is_valid_at v k) _ _ (h.bits i l ∙ g.bits i l) (ap items (rw (from, size) (rows_range-same (row_at d) (row_at e) (count_in (row_at o k)) (count_in (row_at o k)) (count_in (row_at s k))
          (λ j m. x.same.rows (count_in (row_at o k) + j) (omega (arith, m, view.within k inside))))));
    })

-- ---- records

rows_each : (ps : List ℕ) (ts us : List Tree) → AllZip (λ t u. IsCanonicalAt t ps u) ts us → AllZip (λ t u. IsRowsAt t (slice_index ps) (length ps) u) ts us
rows_each ps [] [] h = tt
rows_each ps [] (u ∷ us) h = absurd h
rows_each ps (t ∷ ts) [] h = absurd h
rows_each ps (t ∷ ts) (u ∷ us) h = (record { len = h.0.len; kind = h.0.kind; rows = h.0.rows }, rows_each ps ts us h.1)

pub AreCanonicalAt-from_each : (ps : List ℕ) (ts us : List Tree) (i : ℕ) → AllZip (λ t u. IsCanonicalAt t ps u) (take i ts) us → length ts ≤ i → AreCanonicalAt (trees_from ts) ps (trees_from us)
AreCanonicalAt-from_each ps ts us i h l =
    let R : Tree → Tree → Type 0 = λ t u. IsCanonicalAt t ps u in
    let each : AllZip R ts us = AllZip-all R ts us i h l in
    record {
      rows_at = AreRowsAt-from_each (slice_index ps) (length ps) ts us i (rows_each ps (take i ts) us h) l;
      plain = all_plain R (λ t u x. x.plain) ts us each;
      extents = same_extents R (λ t u x. x.extent) ts us each;
    }

pub records_at : (t r : Tree) (ns : List (List ℕ)) (ts us : Trees) (v u w : Valid) (n : ℕ) (ps : List ℕ) → t ≡ structure ns ts v n → r ≡ structure ns us w (length ps) → AreCanonicalAt ts ps us → IsValidSelected v ps u → IsCanonicalValid u (length ps) w
    → IsCanonicalAt t ps r
records_at t r ns ts us v u w n ps a b x s h =
    rw (a, b) (record {
      len = refl;
      kind = λ i. records ns (x.rows_at.alike.kinds i) ((same_nullable u w h.state ∙ s.kind) i);
      plain = (x.plain, h.plain);
      state = h.state ∙ s.state;
      extent = ap struct_extent x.extents;
      flag = refl;
      rows = λ i l. record_row ns ts us v w n (length ps) i (slice_index ps i) (h.bits i l ∙ s.bits i l) (x.rows_at.rows ns i l);
    })
