-- The rows of a part are that part of the rows.
use Rattle.std.specs.Prelude.{◌≡◌, ◌≤◌, ◌<◌, ◌+◌, ◌-◌, ℕ, Bool, false, length, slice_range}
use Rattle.std.proofs.Common.{List, ◌∙◌, arith, get_or, drop, refl, sym, ap, zero-add, length-take, length-drop}
use Rattle.std.proofs.lemmas.List.{get_or-drop, get_or-take}
use Rattle.std.proofs.lemmas.List.FromFn.{length-map-range_with_len, get_or-map-range_with_len, fill_by_all}
use Rattle.std.specs.Prelude.{ℤ, pos}
use Rattle.vx_base.specs.declared.ptypes.PType.{PType}
use Rattle.vx_base.specs.Bits.{bool_at}
use Rattle.vx_base.specs.Integers.{numbers, number_nth}
use Rattle.vx_base.specs.Kinds.{booleans, integers, lists}
use Rattle.vx_base.specs.Rows.{null}
use Rattle.vx_tree.specs.Tree.{Tree, bools, primitive, list_view, Valid}
use Rattle.vx_tree.specs.Meaning.{tree_len, kind_of, row_at, rows}
use Rattle.vx_tree.specs.Shapes.{bool_shape, primitive_shape, list_view_shape}
use Rattle.vx_tree.specs.Operations.{IsSlice, IsValidSlice}
use Rattle.vx_tree.proofs.Needs.{lists_need}
use Rattle.vx_tree.proofs.Selected.{bool_row, number_row}

pub rows_sliced : (t : Tree) (start end : ℕ) (r : Tree) → start ≤ end → end ≤ tree_len t → IsSlice t start (end - start) r → rows r ≡ slice_range (rows t) start end
rows_sliced t start end r h k s =
    let xs = slice_range (rows t) start end in
    let l : length (rows t) ≡ tree_len t = length-map-range_with_len (row_at t) 0 (tree_len t) in
    let at : (i : ℕ) → i < end - start → get_or xs i null ≡ row_at r i = λ i p.
    (rw (get_or-take (end - start) (drop start (rows t)) i null p, get_or-drop start (rows t) i null, get_or-map-range_with_len (row_at t) 0 (tree_len t) (start + i) (start + i) null (omega arith) (zero-add (start + i))) (sym (s.rows i p))) in
    let long : length xs ≡ end - start = simp (length-take, length-drop) (omega (arith, l)) in
    rw s.len (sym (fill_by_all (row_at r) xs (end - start) null long at))

pub length_sliced : {X : Type 0} (xs : List X) (start end : ℕ) → start ≤ end → end ≤ length xs → length (slice_range xs start end) ≡ end - start
length_sliced xs start end h k = simp (length-take, length-drop) (omega (arith, h, k))

at_sliced : {X : Type 0} (xs : List X) (start end i : ℕ) (d : X) → i < end - start → get_or (slice_range xs start end) i d ≡ get_or xs (start + i) d
at_sliced xs start end i d l = get_or-take (end - start) (drop start xs) i d l ∙ get_or-drop start xs i d

pub bools_sliced : (t u : Tree) (a b : ℕ) (bits new : List Bool) (v w : Valid) (start end : ℕ) → start ≤ end → end ≤ length bits → t ≡ bools a bits v → u ≡ bools b new w → new ≡ slice_range bits start end
    → IsValidSlice v start (end - start) w → IsSlice t start (end - start) u
bools_sliced t u a b bits new v w start end ordered inside x y made h =
    rw (x, y) (record {
      len = ap length made ∙ length_sliced bits start end ordered inside;
      kind = ap booleans h.kind;
      shape = ap bool_shape h.state;
      plain = h.plain;
      needs = record { extent = refl; take = λ n. refl; canonical = λ n. refl };
      rows = λ i l. bool_row a b bits new v w i (start + i) (h.bits i l) (ap (λ (xs : List Bool). bool_at xs i) made ∙ at_sliced bits start end i false l);
    })

pub numbers_sliced : (t u : Tree) (p : PType) (bs new : List ℕ) (v w : Valid) (start end : ℕ) → start ≤ end → end ≤ length (numbers p bs) → t ≡ primitive p bs v → u ≡ primitive p new w
    → numbers p new ≡ slice_range (numbers p bs) start end → IsValidSlice v start (end - start) w → IsSlice t start (end - start) u
numbers_sliced t u p bs new v w start end ordered inside x y made h =
    rw (x, y) (record {
      len = ap length made ∙ length_sliced (numbers p bs) start end ordered inside;
      kind = ap (integers p) h.kind;
      shape = ap primitive_shape h.state;
      plain = h.plain;
      needs = record { extent = refl; take = λ n. refl; canonical = λ n. refl };
      rows = λ i l. number_row p bs new v w i (start + i) (h.bits i l) (ap (λ (zs : List ℤ). number_nth zs i) made ∙ at_sliced (numbers p bs) start end i (pos 0) l);
    })

-- lists keep their elements and their flag
pub lists_sliced : (t u e o s o2 s2 : Tree) (v w : Valid) (f : Bool) (start n : ℕ) → t ≡ list_view e o s v f → u ≡ list_view e o2 s2 w f → IsSlice o start n o2 → IsSlice s start n s2 → IsValidSlice v start n w
    → IsSlice t start n u
lists_sliced t u e o s o2 s2 v w f start n a b x y h =
    rw (a, b) (record {
      len = x.len;
      kind = ap (lists (kind_of e)) h.kind;
      shape = λ i. list_view_shape e (x.kind i) (y.kind i) (h.state i) f;
      plain = λ p. (p.0, x.plain p.1, y.plain p.2, h.plain p.3);
      needs = lists_need e o s o2 s2 v w f f x.needs y.needs;
      rows = λ i l. rw (h.bits i l, x.rows i l, y.rows i l) refl;
    })
