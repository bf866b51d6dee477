-- Lists that lie anywhere among their elements, joined.
use Rattle.std.proofs.Common.{ℕ, suc, ◌+◌, ◌-◌, ◌<◌, ◌≤◌, ◌≡◌, Bool, true, false, List, [], ◌∷◌, ◌++◌, length, map, get_or, take, drop, append_assoc, refl, sym, ◌∙◌, ap, subst, inl, inr, to_z, of_z, zero-add, arith}
use Rattle.std.specs.Int.{w128}
use Rattle.std.specs.Prelude.{ℤ, pos, unsigned_abs, ◌^◌, ◌≤ℤ◌, if◌then◌else◌}
use Rattle.std.proofs.lemmas.Grind.{flat_map-append}
use Rattle.std.specs.List.{All, range_with_len}
use Rattle.std.proofs.lemmas.Simd.{map-map}
use Rattle.std.proofs.lemmas.Bool.{cases_lt}
use Rattle.std.proofs.lemmas.Int.{ints}
use Rattle.std.proofs.lemmas.Slice.{take-put_mid}
use borrow.Rule.Slice.PartMut.{put_mid}
use Rattle.std.proofs.lemmas.List.{length-append, length-map, length-take, take_all, take_at, take-append-le, map-append, get_or_append_left, get_or-append_right, get_or-map, get_or_default, take_more, append-nil, at_drop_more}
use Rattle.std.proofs.lemmas.List.FromFn.{fill_by_all, length-map-range_with_len, get_or-map-range_with_len}
use Rattle.vx_base.specs.Integers.{numbers, Holds, number_nth}
use Rattle.vx_base.specs.Rows.{Row, null, whole, items, count_in}
use Rattle.vx_base.proofs.Positions.{holds-below, position_of}
use Rattle.vx_base.specs.declared.ptypes.PType.{PType}
use Rattle.vx_base.specs.Kinds.{lists}
use Rattle.vx_base.specs.declared.ptypes.PType.TheVariants.{U64}
use Rattle.vx_tree.specs.Tree.{Tree, primitive, list_view, Valid, non_nullable}
use Rattle.vx_tree.specs.Meaning.{tree_len, kind_of, row_at, rows_range, is_valid_at, nullable}
use Rattle.vx_tree.specs.Formed.{IsCounts, WellFormed}
use Rattle.vx_canonical.specs.Joined.{joined_len, joined_at, joined_row, elements_in, offsets_in, sizes_in, counts_in, offsets_from, joined_sizes, AreLists, IsCountsOf, IsJoined, IsValidJoined}
use Rattle.vx_tree.proofs.FixedLists.{rows_range-same}
use Rattle.vx_tree.specs.Extents.{list_extent}
use Rattle.vx_canonical.proofs.ExtentParts.{list_elements, elements_of_each, elements_joined}
use Rattle.vx_canonical.proofs.JoinedRows.{joined-here, joined-later, rows_of_content}

-- ---- counts in their bytes

pub wide_holds : (n : ℕ) → n < 2 ^ 64 → Holds U64 (pos n)
wide_holds n h = (omega (arith, ints), omega (arith, ints))

number_in_row : (b : Bool) (z : ℤ) (k : ℕ) → (if b then whole z else null) ≡ whole (pos k) → z ≡ pos k
number_in_row true z k e = cc
number_in_row false z k e = cc

pub number-count : (t : Tree) (p : PType) (bs : List ℕ) (v : Valid) → t ≡ primitive p bs v → IsCounts t → (i : ℕ) → i < length (numbers p bs) → number_nth (numbers p bs) i ≡ pos (count_in (row_at t i))
number-count t p bs v e h i l =
    let row : row_at t i ≡ (if is_valid_at v i then whole (number_nth (numbers p bs) i) else null) = ap (λ u. row_at u i) e in
    number_in_row (is_valid_at v i) (number_nth (numbers p bs) i) (count_in (row_at t i)) (sym row ∙ h.counts i (rw e l))

pub counts_not_negative : (t : Tree) (p : PType) (bs : List ℕ) (v : Valid) → t ≡ primitive p bs v → IsCounts t → All (λ z. pos 0 ≤ℤ z) (numbers p bs)
counts_not_negative t p bs v e h = λ i d l.
    let P : ℤ → Type 0 = λ z. pos 0 ≤ℤ z in
    let none : P (pos (count_in (row_at t i))) = omega (arith, ints) in
    subst P (sym (get_or_default (numbers p bs) i d (pos 0) l ∙ number-count t p bs v e h i l)) none

pub counts_are : (t : Tree) (p : PType) (bs : List ℕ) (v : Valid) → t ≡ primitive p bs v → IsCounts t → numbers p bs ≡ map pos (counts_in t)
counts_are t p bs v e h =
    let len : tree_len t ≡ length (numbers p bs) = ap tree_len e in
    fill_by_all (λ i. pos (count_in (row_at t i))) (numbers p bs) (tree_len t) (pos 0) (sym len) (λ i l. number-count t p bs v e h i (omega (arith, len, l)))
    ∙ sym (map-map pos (λ i. count_in (row_at t i)) (range_with_len 0 (tree_len t)))

pub sums_fit : (base : ℕ) (zs : List ℤ) (ns : List ℕ) → zs ≡ map pos ns → All (λ n. base + n < 2 ^ 64) ns → All (λ z. base + unsigned_abs z < 2 ^ 64) zs
sums_fit base zs ns e h =
    let fits : All (λ z. base + unsigned_abs z < 2 ^ 64) (map pos ns) = λ i d l.
    let inside : i < length ns = omega (arith, l, length-map ns pos) in
    subst (λ z. base + unsigned_abs z < 2 ^ 64) (sym (get_or-map pos ns i 0 d inside)) (h i 0 inside) in
    subst (λ ys. All (λ z. base + unsigned_abs z < 2 ^ 64) ys) (sym e) fits

pub sums_are : (base : ℕ) (zs : List ℤ) (ns : List ℕ) → zs ≡ map pos ns → map (λ z. pos (base + unsigned_abs z)) zs ≡ map (λ n. pos (base + n)) ns
sums_are base zs ns e = ap (map (λ z. pos (base + unsigned_abs z))) e ∙ map-map (λ z. pos (base + unsigned_abs z)) pos ns

-- the sum of a base and a number that is read from its bytes
pub sum_read : (p : PType) (zs : List ℤ) (base i : ℕ) (z : ℤ) → All (λ y. pos 0 ≤ℤ y) zs → i < length zs → z ≡ number_nth zs i → Holds p z → base + unsigned_abs (to_z w128 (of_z w128 z)) ≡ base + unsigned_abs (number_nth zs i)
sum_read p zs base i z positions inside read holds =
    let low : pos 0 ≤ℤ z = subst (λ (y : ℤ). pos 0 ≤ℤ y) (sym read) (positions i (pos 0) inside) in
    ap (λ y. base + unsigned_abs y) (position_of z low (holds-below p z holds) ∙ read)

-- bytes that are added at the end, and then written
pub bytes_added : (old made part now rest zeroes : List ℕ) (start n k len : ℕ) → made ≡ take n old ++ zeroes → length old ≡ start → start ≤ n → now ≡ made → len ≡ n → length now ≡ len → start + length part ≡ n
    → take len (put_mid start k now part ++ rest) ≡ old ++ part
bytes_added old made part now rest zeroes start n k len e long le same end all more =
    let kept : take start now ≡ old = ap (take start) (same ∙ e) ∙ ap (λ (ys : List ℕ). take start (ys ++ zeroes)) (take_all n old (omega (arith, long, le))) ∙ take_at old zeroes start long in
    let put : take len (put_mid start k now part) ≡ old ++ part = take-put_mid start k now part len (omega (arith, more, end)) (omega (arith, all, end, le)) ∙ ap (λ (ys : List ℕ). ys ++ part) kept in
    let size = ap length put ∙ length-append old part in
    take-append-le len (put_mid start k now part) rest (omega (arith, size, length-take len (put_mid start k now part), long, more, end)) ∙ put

-- ---- lists at their places

abbrev list_in : Tree → ℕ → Row
list_in t j = items (rows_range (row_at (elements_in t)) (count_in (row_at (offsets_in t) j)) (count_in (row_at (sizes_in t) j)))

length-counts : (t : Tree) → length (counts_in t) ≡ tree_len t
length-counts t = length-map-range_with_len (λ i. count_in (row_at t i)) 0 (tree_len t)

get-counts : (t : Tree) (i : ℕ) → i < tree_len t → get_or (counts_in t) i 0 ≡ count_in (row_at t i)
get-counts t i l = get_or-map-range_with_len (λ k. count_in (row_at t k)) 0 (tree_len t) i i 0 l (zero-add i)

pub length-offsets : (base : ℕ) (ts : List Tree) → All AreLists ts → length (offsets_from base ts) ≡ joined_len ts
length-offsets base [] h = refl
length-offsets base (t ∷ ts) h =
    let mine : AreLists t = h 0 t (omega arith) in
    omega (
      arith,
      length-append (map (λ n. base + n) (counts_in (offsets_in t))) (offsets_from (base + tree_len (elements_in t)) ts),
      length-map (counts_in (offsets_in t)) (λ (n : ℕ). base + n),
      length-counts (offsets_in t),
      mine.offsets.2,
      length-offsets (base + tree_len (elements_in t)) ts (λ k d l. h (suc k) d (omega arith)),
    )

-- an offset and its size, and the list of rows that they are of
pub record IsListAt (g : ℕ → Row) (end o s : ℕ) (r : Row) : Type 0 where
  pub within : o + s ≤ end
  pub rows : items (rows_range g o s) ≡ r

pub list-joined : (g : ℕ → Row) (base : ℕ) (ts : List Tree) → All AreLists ts → ((x : ℕ) → x < joined_len (map elements_in ts) → g (base + x) ≡ joined_row (map elements_in ts) x)
    → (i : ℕ) → i < joined_len ts → IsListAt g (base + joined_len (map elements_in ts)) (get_or (offsets_from base ts) i 0) (get_or (joined_sizes ts) i 0) (joined_at list_in null ts i)
list-joined g base [] h same i l = absurd (omega arith)
list-joined g base (t ∷ ts) h same i l =
    let mine : AreLists t = h 0 t (omega arith) in
    let e = elements_in t in
    let es = map elements_in ts in
    let mapped = map (λ n. base + n) (counts_in (offsets_in t)) in
    let olong : length mapped ≡ tree_len t = length-map (counts_in (offsets_in t)) (λ (n : ℕ). base + n) ∙ length-counts (offsets_in t) ∙ mine.offsets.2 in
    let slong : length (counts_in (sizes_in t)) ≡ tree_len t = length-counts (sizes_in t) ∙ mine.sizes.2 in
    let rest = offsets_from (base + tree_len e) ts in
    elim (cases_lt i (tree_len t)) [
      | inl here ↦
          let o = count_in (row_at (offsets_in t) i) in
          let s = count_in (row_at (sizes_in t) i) in
          let o-is : get_or (mapped ++ rest) i 0 ≡ base + o =
          get_or_append_left mapped rest 0 i (omega (arith, olong)) ∙ get_or-map (λ (n : ℕ). base + n) (counts_in (offsets_in t)) i 0 0 (omega (arith, olong, length-map (counts_in (offsets_in t)) (λ (n : ℕ). base + n))) ∙ ap (λ n. base + n) (get-counts (offsets_in t) i (rw mine.offsets.2 here)) in
          let s-is : get_or (counts_in (sizes_in t) ++ joined_sizes ts) i 0 ≡ s =
          get_or_append_left (counts_in (sizes_in t)) (joined_sizes ts) 0 i (omega (arith, slong)) ∙ get-counts (sizes_in t) i (rw mine.sizes.2 here) in
          let within = mine.within i here in
          rw (o-is, s-is, joined-here list_in null t ts i here) (record {
            within = omega (arith, within);
            rows = ap items (rows_range-same g (row_at e) (base + o) o s (λ j q.
                ap g {x = base + o + j} {y = base + (o + j)} (omega arith) ∙ same (o + j) (omega (arith, within)) ∙ joined-here row_at null e es (o + j) (omega (arith, within))));
          })
      | inr later ↦
          let o-is : get_or (mapped ++ rest) i 0 ≡ get_or rest (i - tree_len t) 0 = get_or-append_right mapped rest (tree_len t) i 0 olong later in
          let s-is : get_or (counts_in (sizes_in t) ++ joined_sizes ts) i 0 ≡ get_or (joined_sizes ts) (i - tree_len t) 0 = get_or-append_right (counts_in (sizes_in t)) (joined_sizes ts) (tree_len t) i 0 slong later in
          let more = list-joined g (base + tree_len e) ts (λ k d q. h (suc k) d (omega arith))
          (λ x q. ap g {x = base + tree_len e + x} {y = base + (tree_len e + x)} (omega arith) ∙ same (tree_len e + x) (omega arith) ∙ joined-later row_at null e es (tree_len e + x) (omega arith)
          ∙ ap (joined_row es) {x = tree_len e + x - tree_len e} {y = x} (omega arith)) (i - tree_len t) (omega arith) in
          rw (o-is, s-is, joined-later list_in null t ts i later) (record { within = omega (arith, more.within); rows = more.rows })
    ]

-- ---- one array after another

added_zero : (ns : List ℕ) → map (λ n. pos (0 + n)) ns ≡ map pos ns
added_zero [] = refl
added_zero (n ∷ ns) = λ i. pos (zero-add n i) ∷ added_zero ns i

pub sizes-more : (ts : List Tree) (i : ℕ) (t : Tree) (olds news : List ℤ) → i < length ts → t ≡ get_or ts i t → olds ≡ map pos (joined_sizes (take i ts)) → news ≡ olds ++ map (λ n. pos (0 + n)) (counts_in (sizes_in t))
    → news ≡ map pos (joined_sizes (take (i + 1) ts))
sizes-more ts i t olds news inside same before e =
    let here = counts_in (sizes_in t) in
    let more : take (i + 1) ts ≡ take i ts ++ t ∷ [] = take_more ts i t inside ∙ ap (λ u. take i ts ++ u ∷ []) (sym same) in
    let sizes : joined_sizes (take (i + 1) ts) ≡ joined_sizes (take i ts) ++ here =
    ap joined_sizes more ∙ flat_map-append (λ u. counts_in (sizes_in u)) (take i ts) (t ∷ []) ∙ ap (λ ns. joined_sizes (take i ts) ++ ns) (append-nil here) in
    e ∙ (λ j. before j ++ added_zero here j) ∙ sym (map-append pos (joined_sizes (take i ts)) here) ∙ ap (map pos) (sym sizes)

pub sums_short : (t : Tree) (base end : ℕ) → AreLists t → base + tree_len (elements_in t) ≤ end → end < 2 ^ 64 → All (λ n. base + n < 2 ^ 64) (counts_in (offsets_in t))
sums_short t base end h within short = λ i d l.
    let P : ℕ → Type 0 = λ n. base + n < 2 ^ 64 in
    let inside : i < tree_len (offsets_in t) = rw (← length-counts (offsets_in t)) l in
    let one : get_or (counts_in (offsets_in t)) i d ≡ count_in (row_at (offsets_in t) i) = get_or-map-range_with_len (λ k. count_in (row_at (offsets_in t) k)) 0 (tree_len (offsets_in t)) i i d inside (zero-add i) in
    let ends = h.within i (rw (← h.offsets.2) inside) in
    let fits : P (count_in (row_at (offsets_in t) i)) = omega (arith, ends) in
    subst P (sym one) fits

pub sums_zero : (t : Tree) → AreLists t → tree_len (elements_in t) < 2 ^ 64 → All (λ n. 0 + n < 2 ^ 64) (counts_in (sizes_in t))
sums_zero t h short = λ i d l.
    let P : ℕ → Type 0 = λ n. 0 + n < 2 ^ 64 in
    let inside : i < tree_len (sizes_in t) = rw (← length-counts (sizes_in t)) l in
    let one : get_or (counts_in (sizes_in t)) i d ≡ count_in (row_at (sizes_in t) i) = get_or-map-range_with_len (λ k. count_in (row_at (sizes_in t) k)) 0 (tree_len (sizes_in t)) i i d inside (zero-add i) in
    let ends = h.within i (rw (← h.sizes.2) inside) in
    let fits : P (count_in (row_at (sizes_in t) i)) = omega (arith, ends) in
    subst P (sym one) fits

pub elements-step : (ts : List Tree) (i : ℕ) (t : Tree) → i < length ts → t ≡ get_or ts i t
    → joined_len (map elements_in (drop i ts)) ≡ tree_len (elements_in t) + joined_len (map elements_in (drop (i + 1) ts))
elements-step ts i t inside same =
    at_drop_more (λ us. joined_len (map elements_in us)) ts i t inside ∙ ap (λ u. joined_len (map elements_in (u ∷ drop (i + 1) ts))) (sym same)

pub offsets-more : (ts : List Tree) (i : ℕ) (t o : Tree) (base n : ℕ) (joined news : List ℤ) → i < length ts → t ≡ get_or ts i t → o ≡ offsets_in t → n ≡ tree_len (elements_in t)
    → joined ++ map pos (offsets_from base (drop i ts)) ≡ map pos (offsets_from 0 ts) → base + joined_len (map elements_in (drop i ts)) ≡ joined_len (map elements_in ts)
    → news ≡ joined ++ map (λ k. pos (base + k)) (counts_in o)
    → (news ++ map pos (offsets_from (base + n) (drop (i + 1) ts)) ≡ map pos (offsets_from 0 ts)) × (base + n + joined_len (map elements_in (drop (i + 1) ts)) ≡ joined_len (map elements_in ts))
offsets-more ts i t o base n joined news inside same o-is n-is before all e =
    let rest = offsets_from (base + n) (drop (i + 1) ts) in
    let sums = map (λ k. base + k) (counts_in o) in
    let step : offsets_from base (drop i ts) ≡ map (λ k. base + k) (counts_in (offsets_in t)) ++ offsets_from (base + tree_len (elements_in t)) (drop (i + 1) ts) =
    at_drop_more (offsets_from base) ts i t inside ∙ ap (λ u. offsets_from base (u ∷ drop (i + 1) ts)) (sym same) in
    let here : sums ++ rest ≡ offsets_from base (drop i ts) =
    ap (λ u. map (λ k. base + k) (counts_in u) ++ rest) o-is ∙ ap (λ k. map (λ k. base + k) (counts_in (offsets_in t)) ++ offsets_from (base + k) (drop (i + 1) ts)) n-is ∙ sym step in
    let added : map (λ k. pos (base + k)) (counts_in o) ≡ map pos sums = sym (map-map pos (λ k. base + k) (counts_in o)) in (
      ap (λ zs. zs ++ map pos rest) (e ∙ ap (λ zs. joined ++ zs) added) ∙ append_assoc joined (map pos sums) (map pos rest) ∙ ap (λ zs. joined ++ zs) (sym (map-append pos sums rest) ∙ ap (map pos) here) ∙ before,
      omega (arith, elements-step ts i t inside same, n-is, all),
    )

-- ---- the array of all of them

pub length-sizes : (ts : List Tree) → All AreLists ts → length (joined_sizes ts) ≡ joined_len ts
length-sizes [] h = refl
length-sizes (t ∷ ts) h =
    let mine : AreLists t = h 0 t (omega arith) in
    omega (arith, length-append (counts_in (sizes_in t)) (joined_sizes ts), length-counts (sizes_in t), mine.sizes.2, length-sizes ts (λ k d l. h (suc k) d (omega arith)))

pub counts_of-are : (ns : List ℕ) (t : Tree) → IsCountsOf ns t → IsCounts t
counts_of-are ns t h = record {
  kind = rw h.kind refl;
  counts = λ i l.
      let e = h.rows i (rw (← h.len) l) in
      e ∙ ap (λ r. whole (pos (count_in r))) (sym e);
}

pub list_views_joined : (ts : List Tree) (r o s : Tree) (v : Valid) → All AreLists ts → IsJoined (kind_of r) (map elements_in ts) r → IsCountsOf (offsets_from 0 ts) o → IsCountsOf (joined_sizes ts) s → IsValidJoined (nullable v) ts v
    → IsJoined (lists (kind_of r) (nullable v)) ts (list_view r o s v false) × WellFormed (list_view r o s v false)
list_views_joined ts r o s v h joined os ss valid =
    let olen : tree_len o ≡ joined_len ts = os.len ∙ length-offsets 0 ts h in
    let slen : tree_len s ≡ joined_len ts = ss.len ∙ length-sizes ts h in (
      record {
        len = olen;
        kind = refl;
        plain = (joined.plain, os.plain, ss.plain, valid.plain);
        state = valid.state;
        extent = (
            let many = joined.len ∙ sym (elements_of_each ts (λ i d l. (h i d l).layout)) in
            let elements = elements_joined r ts joined.extent (λ i d l. list_elements (get_or ts i d) (h i d l).layout) in
            λ i. list_extent (many i) (elements i));
        flag = refl;
        rows = λ i l.
            rows_of_content list_in (list_view r o s v false) ts (λ k d q. (h k d q).content) i l (is_valid_at v i) (items (rows_range (row_at r) (count_in (row_at o i)) (count_in (row_at s i)))) (valid.bits i l)
            (ap (λ x. items (rows_range (row_at r) (count_in x) (count_in (row_at s i)))) (os.rows i (rw (length-offsets 0 ts h) l))
            ∙ ap (λ x. items (rows_range (row_at r) (get_or (offsets_from 0 ts) i 0) (count_in x))) (ss.rows i (rw (length-sizes ts h) l))
            ∙ (at_place i l).rows) refl;
      },
      (
        rw olen valid.fits,
        record {
          offsets = counts_of-are (offsets_from 0 ts) o os;
          sizes = counts_of-are (joined_sizes ts) s ss;
          same_len = slen ∙ sym olen;
          within = λ i l.
              let q : i < joined_len ts = rw (← olen) l in
              let a = ap count_in (os.rows i (rw (length-offsets 0 ts h) q)) in
              let b = ap count_in (ss.rows i (rw (length-sizes ts h) q)) in
              omega (arith, a, b, (at_place i q).within, joined.len);
          follows = λ t. absurd (cc);
        },
      ),
    )
  where
    at_place : (i : ℕ) → i < joined_len ts → IsListAt (row_at r) (0 + joined_len (map elements_in ts)) (get_or (offsets_from 0 ts) i 0) (get_or (joined_sizes ts) i 0) (joined_at list_in null ts i)
    at_place i l = list-joined (row_at r) 0 ts h (λ x q. ap (row_at r) (zero-add x) ∙ joined.rows x q) i l

-- counts as numbers
pub counts_written : (ns bs : List ℕ) (t : Tree) → t ≡ primitive U64 bs non_nullable → numbers U64 bs ≡ map pos ns → IsCountsOf ns t
counts_written ns bs t e same =
    let long : length (numbers U64 bs) ≡ length ns = ap length same ∙ length-map ns pos in
    rw e (record {
      len = long;
      kind = refl;
      plain = tt;
      rows = λ i l. ap whole (ap (λ zs. number_nth zs i) same ∙ get_or-map pos ns i 0 (pos 0) l);
    })
