-- Lists that stand end to end: their items are one run of the elements.
use Rattle.std.proofs.Common.{◌≡◌, ◌∙◌, ◌+◌, ◌-◌, ◌<◌, ◌≤◌, ℕ, true, List, [], ◌∷◌, ◌++◌, length, map, get_or, refl, sym, ap, subst, arith, zero-add}
use Rattle.std.specs.List.{All, flat_map, range_with_len}
use Rattle.std.proofs.lemmas.List.Elements.{All-head, All-tail}
use Rattle.vx_base.proofs.ListParts.{map_range_same}
use Rattle.vx_base.proofs.Runs.{range_append}
use Rattle.vx_base.specs.Integers.{numbers}
use Rattle.vx_base.specs.Kinds.{Kind}
use Rattle.vx_base.specs.Rows.{Row, items}
use Rattle.vx_base.specs.declared.ptypes.PType.{PType}
use Rattle.vx_tree.specs.Meaning.{kind_of, row_at}
use Rattle.vx_tree.specs.Tree.{Tree}
use Rattle.vx_pack.proofs.StoredLists.{positions_more}
use Rattle.vx_pack.specs.CountBytes.{counts_of}
use Rattle.vx_pack.specs.Lists.{is_list}
use Rattle.vx_pack.specs.Packed.{items_or_blank}
use Rattle.vx_pack.specs.Parts.{IsPart, IsPartOf, part_len, part_row}
use Rattle.vx_pack.specs.Pieces.{AreAllItems}
use Rattle.vx_pack.specs.StoredLists.{AreListBytes, AreStoredItems, AreStoredLists, all_positions, positions_of, stored_sizes, stored_starts}
use Rattle.vx_pack.specs.declared.parts.Part.{Part}
use Rattle.vx_pack.specs.declared.stored_lists.StoredLists.{StoredLists}

-- ---- no list is null

items_of_list : (item : Kind) (b c : ℕ) (r : Row) → is_list r ≡ true → items_or_blank item b r ≡ items_or_blank item c r
items_of_list item b c (items rs) l = refl
items_of_list item b c _ l = absurd (cc)

pub all_items_of_lists : (item : Kind) (b c : ℕ) (rs : List Row) → All (λ r. is_list r ≡ true) rs
    → flat_map (items_or_blank item b) rs ≡ flat_map (items_or_blank item c) rs
all_items_of_lists item b c [] h = refl
all_items_of_lists item b c (r ∷ rs) h =
    let here = items_of_list item b c r (All-head (λ x. is_list x ≡ true) r rs h) in
    let rest = all_items_of_lists item b c rs (All-tail (λ x. is_list x ≡ true) r rs h) in
    (λ i. here i ++ rest i)

pub all_items_of_stored : (item k : Kind) (blank : ℕ) (p q : Part) (s : StoredLists)
    → AreStoredLists item (map (part_row k p) (range_with_len 0 (part_len p))) s → AreStoredItems s q
    → AreAllItems item blank k p q
all_items_of_stored item k blank p q s stored h = record {
  part = subst (λ x. IsPart x q) stored.kind h.part;
  rows = h.rows item ∙ sym stored.rows
      ∙ all_items_of_lists item 0 blank (map (part_row k p) (range_with_len 0 (part_len p))) stored.there;
}

-- ---- one run

-- the items of a run, as a part
pub stored_items_of : (s : StoredLists) (start end : ℕ) (p : Part)
    → all_positions (stored_starts s) (stored_sizes s) ≡ range_with_len start (end - start)
    → IsPartOf s.elements.now start (end - start) p → AreStoredItems s p
stored_items_of s start end p run h = record {
  part = h.part;
  rows = λ k.
      ap (λ n. map (part_row k p) (range_with_len 0 n)) h.len
      ∙ map_range_same (part_row k p) (row_at s.elements.now) 0 start (end - start)
      (λ j l. h.rows k (0 + j) ∙ ap (λ i. row_at s.elements.now (start + i)) (zero-add j))
      ∙ ap (map (row_at s.elements.now)) (sym run);
}

-- the lists before place i stand end to end from the first one on, among so many elements
pub record AreJoinedUpTo (t u : PType) (os ss : List ℕ) (len start i end : ℕ) : Type 0 where
  pub ordered : start ≤ end
  pub positions : flat_map (positions_of (counts_of t os) (counts_of u ss)) (range_with_len 0 i) ≡ range_with_len start (end - start)
  pub within : end ≤ len

pub no_list_joined : (t u : PType) (os ss : List ℕ) (len start : ℕ) → AreListBytes t os u ss len → 0 < length (numbers u ss)
    → start ≡ get_or (counts_of t os) 0 0 → AreJoinedUpTo t u os ss len start 0 start
no_list_joined t u os ss len start lists some is =
    let none : start - start ≡ 0 = omega arith in
    record {
      ordered = omega arith;
      positions = ap (range_with_len start) (sym none);
      within = omega (arith, is, lists.within 0 some);
    }

pub list_joined : (t u : PType) (os ss : List ℕ) (len start i end size more : ℕ) → AreListBytes t os u ss len → i < length (numbers u ss)
    → end ≡ get_or (counts_of t os) i 0 → size ≡ get_or (counts_of u ss) i 0 → more ≡ end + size
    → AreJoinedUpTo t u os ss len start i end → AreJoinedUpTo t u os ss len start (i + 1) more
list_joined t u os ss len start i end size more lists inside at_end at_size is h =
    let starts = counts_of t os in
    let sizes = counts_of u ss in
    let ordered = h.ordered in
    let from : start + (end - start) ≡ end = omega (arith, ordered) in
    let long : (end - start) + size ≡ more - start = omega (arith, ordered, is) in
    let here : positions_of starts sizes (0 + i) ≡ range_with_len (start + (end - start)) size =
    ap (positions_of starts sizes) (zero-add i) ∙ (λ j. range_with_len (sym at_end j) (sym at_size j)) ∙ ap (λ k. range_with_len k size) (sym from) in
    record {
      ordered = omega (arith, ordered, is);
      positions =
          positions_more starts sizes 0 i
          ∙ (λ j. h.positions j ++ here j)
          ∙ range_append start (end - start) size
          ∙ ap (range_with_len start) long;
      within = omega (arith, at_end, at_size, is, lists.within i inside);
    }
