-- Lists that stand end to end are the same where they are as long and their items are the same.
use Rattle.std.proofs.Common.{◌≡◌, ◌↔◌, ◌∙◌, ◌+◌, ◌<◌, ◌≤◌, ℕ, suc, true, IsTrue, List, [], ◌∷◌, ◌++◌, length, map, take, drop, get_or, sum, refl, sym, ap, arith, zero-add}
use Rattle.std.specs.List.{All, flat_map, range_with_len}
use Rattle.std.specs.Prelude.{Bool, slice_index}
use Rattle.std.proofs.Math.Seq.{drop-append_seam, take-append_seam}
use Rattle.std.proofs.lemmas.List.Elements.{All-head, All-tail}
use Rattle.std.proofs.lemmas.List.FromFn.{get_or-map-range_with_len, length-map-range_with_len}
use Rattle.vx_base.proofs.ListParts.{map_range_same}
use Rattle.vx_base.specs.Integers.{numbers}
use Rattle.vx_base.specs.Codes.{kind_depth}
use Rattle.vx_base.specs.Kinds.{Kind, lists, fixed_lists}
use Rattle.vx_base.specs.Rows.{Row, Rows, no_rows, row, items, list_from, rows_from}
use Rattle.vx_base.specs.declared.ptypes.PType.{PType}
use Rattle.vx_pack.proofs.JoinedLists.{sum-list_sizes}
use Rattle.vx_pack.proofs.ReadCounts.{length-counts_of}
use Rattle.vx_pack.specs.CountBytes.{counts_of}
use Rattle.vx_pack.specs.Lists.{IsItemOf, is_list}
use Rattle.vx_pack.specs.Packed.{items_or_blank, list_sizes}
use Rattle.vx_pack.specs.Parts.{AreSame, part_len, part_row}
use Rattle.vx_pack.specs.StoredLists.{AreStoredItems, AreStoredLists, stored_sizes}
use Rattle.vx_pack.specs.declared.parts.Part.{Part}
use Rattle.vx_pack.specs.declared.stored_lists.StoredLists.{StoredLists}

-- ---- sizes and items tell lists

rows_from-list_from : (rs : Rows) → rows_from (list_from rs) ≡ rs
rows_from-list_from no_rows = refl
rows_from-list_from (row r rs) = ap (row r) (rows_from-list_from rs)

list_from_items : (item : Kind) (r : Row) → is_list r ≡ true → r ≡ items (rows_from (items_or_blank item 0 r))
list_from_items item (items rs) l = ap items (sym (rows_from-list_from rs))
list_from_items item _ l = absurd (cc)

lists_told : (item : Kind) (rs qs : List Row) → All (λ r. is_list r ≡ true) rs → All (λ r. is_list r ≡ true) qs
    → list_sizes item rs ≡ list_sizes item qs
    → flat_map (items_or_blank item 0) rs ≡ flat_map (items_or_blank item 0) qs → rs ≡ qs
lists_told item [] [] a b sizes flat = refl
lists_told item [] (q ∷ qs) a b sizes flat = absurd (cc)
lists_told item (r ∷ rs) [] a b sizes flat = absurd (cc)
lists_told item (r ∷ rs) (q ∷ qs) a b sizes flat =
    let f = items_or_blank item 0 in
    let P : Row → Type 0 = λ x. is_list x ≡ true in
    let long : length (f r) ≡ length (f q) = ap (λ ns. get_or ns 0 0) sizes in
    let rest : list_sizes item rs ≡ list_sizes item qs = ap (drop 1) sizes in
    let here : f r ≡ f q =
    sym (take-append_seam (f r) (flat_map f rs)) ∙ ap (take (length (f r))) flat ∙ ap (λ n. take n (f q ++ flat_map f qs)) long
    ∙ take-append_seam (f q) (flat_map f qs) in
    let after : flat_map f rs ≡ flat_map f qs =
    sym (drop-append_seam (f r) (flat_map f rs)) ∙ ap (drop (length (f r))) flat ∙ ap (λ n. drop n (f q ++ flat_map f qs)) long
    ∙ drop-append_seam (f q) (flat_map f qs) in
    let first : r ≡ q =
    list_from_items item r (All-head P r rs a) ∙ ap (λ xs. items (rows_from xs)) here ∙ sym (list_from_items item q (All-head P q qs b)) in
    let others = lists_told item rs qs (All-tail P r rs a) (All-tail P q qs b) rest after in
    (λ i. first i ∷ others i)

-- ---- rows of parts

same_maps : (k : Kind) (p q : Part) → part_len q ≡ part_len p → AreSame k p q
    → map (part_row k p) (range_with_len 0 (part_len p)) ≡ map (part_row k q) (range_with_len 0 (part_len q))
same_maps k p q len same =
    map_range_same (part_row k p) (part_row k q) 0 0 (part_len p) (λ j l. same (0 + j) (omega (arith, l, zero-add j)))
    ∙ ap (λ n. map (part_row k q) (range_with_len 0 n)) (sym len)

same_each : (k : Kind) (p q : Part) → part_len q ≡ part_len p
    → map (part_row k p) (range_with_len 0 (part_len p)) ≡ map (part_row k q) (range_with_len 0 (part_len q)) → AreSame k p q
same_each k p q len same i l =
    let inside : i < part_len q = omega (arith, len, l) in
    sym (get_or-map-range_with_len (part_row k p) 0 (part_len p) i i (part_row k p i) l (zero-add i))
    ∙ ap (λ xs. get_or xs i (part_row k p i)) same
    ∙ get_or-map-range_with_len (part_row k q) 0 (part_len q) i i (part_row k p i) inside (zero-add i)

-- ---- joined

-- the rows of a part as lists
abbrev rows_in : Kind → Part → List Row
rows_in k p = map (part_row k p) (range_with_len 0 (part_len p))

-- how many items
items_counted : (item k : Kind) (p x : Part) (s : StoredLists) → AreStoredLists item (map (part_row k p) (range_with_len 0 (part_len p))) s
    → AreStoredItems s x → part_len x ≡ sum (stored_sizes s)
items_counted item k p x s h j =
    sym (length-map-range_with_len (part_row item x) 0 (part_len x)) ∙ ap length (j.rows item) ∙ sym (ap length h.rows)
    ∙ sym (sum-list_sizes item (rows_in k p)) ∙ sym (ap sum h.sizes)

pub as_many_items : (item k : Kind) (p q x y : Part) (s z : StoredLists)
    → AreStoredLists item (map (part_row k p) (range_with_len 0 (part_len p))) s
    → AreStoredLists item (map (part_row k q) (range_with_len 0 (part_len q))) z
    → AreStoredItems s x → AreStoredItems z y → stored_sizes s ≡ stored_sizes z → part_len y ≡ part_len x
as_many_items item k p q x y s z first second of_first of_second same =
    items_counted item k q y z second of_second ∙ sym (ap sum same) ∙ sym (items_counted item k p x s first of_first)

-- lists of other sizes differ
pub sizes_differ : (item k : Kind) (p q : Part) (s z : StoredLists)
    → AreStoredLists item (map (part_row k p) (range_with_len 0 (part_len p))) s
    → AreStoredLists item (map (part_row k q) (range_with_len 0 (part_len q))) z
    → part_len q ≡ part_len p → AreSame k p q → stored_sizes s ≡ stored_sizes z
sizes_differ item k p q s z first second len same =
    first.sizes ∙ ap (list_sizes item) (same_maps k p q len same) ∙ sym second.sizes

-- the same lists where they are as long and all items are the same
pub same_joined : (item k : Kind) (p q x y : Part) (s z : StoredLists) (b : Bool)
    → AreStoredLists item (map (part_row k p) (range_with_len 0 (part_len p))) s
    → AreStoredLists item (map (part_row k q) (range_with_len 0 (part_len q))) z
    → AreStoredItems s x → AreStoredItems z y → stored_sizes s ≡ stored_sizes z → part_len q ≡ part_len p
    → (IsTrue b ↔ AreSame item x y) → IsTrue b ↔ AreSame k p q
same_joined item k p q x y s z b first second of_first of_second sizes len told =
    let f = items_or_blank item 0 in
    let long : part_len y ≡ part_len x = as_many_items item k p q x y s z first second of_first of_second sizes in
    let left : rows_in item x ≡ flat_map f (rows_in k p) = of_first.rows item ∙ sym first.rows in
    let right : rows_in item y ≡ flat_map f (rows_in k q) = of_second.rows item ∙ sym second.rows in (
      (λ yes.
          let flat : flat_map f (rows_in k p) ≡ flat_map f (rows_in k q) = sym left ∙ same_maps item x y long (told.0 yes) ∙ right in
          let as_long : list_sizes item (rows_in k p) ≡ list_sizes item (rows_in k q) = sym first.sizes ∙ sizes ∙ second.sizes in
          same_each k p q len (lists_told item (rows_in k p) (rows_in k q) first.there second.there as_long flat)),
      (λ same.
          let flat : flat_map f (rows_in k p) ≡ flat_map f (rows_in k q) = ap (flat_map f) (same_maps k p q len same) in
          told.1 (same_each item x y long (left ∙ flat ∙ sym right))),
    )

-- items are less deep
pub item_depth : (item k : Kind) → IsItemOf item k → kind_depth item < kind_depth k
item_depth item (lists k n) same = let deep : kind_depth k ≡ kind_depth item = ap kind_depth same in omega (arith, deep)
item_depth item (fixed_lists k size n) same = let deep : kind_depth k ≡ kind_depth item = ap kind_depth same in omega (arith, deep)
item_depth item _ same = absurd same

-- ---- sizes of two types

-- counts are the same where each is
pub counts_same : (t u : PType) (xs ys : List ℕ) (i : ℕ) → length (numbers u ys) ≡ length (numbers t xs) → length (numbers t xs) ≤ i
    → ((j : ℕ) → j < i → slice_index (counts_of t xs) j ≡ slice_index (counts_of u ys) j) → counts_of t xs ≡ counts_of u ys
counts_same t u xs ys i len all each = same_lists_by_place (counts_of t xs) (counts_of u ys)
    (length-counts_of t xs ∙ sym len ∙ sym (length-counts_of u ys))
    (λ j l. each j (omega (arith, length-counts_of t xs, all, l)))
  where
    same_lists_by_place : (ns ms : List ℕ) → length ns ≡ length ms → ((j : ℕ) → j < length ns → slice_index ns j ≡ slice_index ms j) → ns ≡ ms
    same_lists_by_place [] [] e h = refl
    same_lists_by_place [] (m ∷ ms) e h = absurd (omega (arith, e))
    same_lists_by_place (n ∷ ns) [] e h = absurd (omega (arith, e))
    same_lists_by_place (n ∷ ns) (m ∷ ms) e h =
        let first : n ≡ m = h 0 (omega arith) in
        let rest = same_lists_by_place ns ms (omega (arith, e)) (λ j l. h (suc j) (omega (arith, l))) in
        (λ i. first i ∷ rest i)
