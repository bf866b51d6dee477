-- Lists that stand by offsets and sizes, as the rows of a list view.
use Rattle.std.proofs.Common.{◌≡◌, ◌∙◌, ◌+◌, ◌-◌, ◌*◌, ◌/◌, ◌<◌, ◌≤◌, ℕ, zero, suc, Bool, true, false, List, [], ◌∷◌, ◌++◌}
use Rattle.std.proofs.Common.{length, map, take, get_or, set, sum, refl, sym, ap, subst, arith, zero-add}
use Rattle.std.specs.Prelude.{pos, slice_range, if◌then◌else◌}
use Rattle.std.specs.List.{All, flat_map, range_with_len}
use Rattle.std.proofs.Math.Nat.{mul-le-mul_right}
use Rattle.std.proofs.lemmas.Grind.{flat_map-append}
use Rattle.std.proofs.lemmas.List.{append-nil, length-append, take_more_set}
use Rattle.std.proofs.lemmas.List.Elements.{All-append, All-head, All-map, All-nil, All-tail}
use Rattle.std.proofs.lemmas.List.Folds.{flat_map-map}
use Rattle.std.proofs.lemmas.List.FromFn.{fill_by_all, get_or-map-range_with_len, get_or-range_with_len}
use Rattle.std.proofs.lemmas.List.FromFn.{length-map-range_with_len, length-range_with_len, map-range_with_len_more}
use Rattle.std.proofs.lemmas.Simd.{map-map}
use Rattle.vx_base.proofs.ListParts.{length_part, map_range_same}
use Rattle.vx_base.proofs.NumberLists.{length_numbers, numbers_part, numbers_room, whole as whole_numbers}
use Rattle.vx_base.proofs.Runs.{range_append}
use Rattle.vx_base.specs.Integers.{byte_width, bytes_of, number_nth, numbers}
use Rattle.vx_base.specs.Kinds.{Kind, integer_type, integers, Fits}
use Rattle.vx_base.specs.Rows.{Row, count_in, is_present, items, null}
use Rattle.vx_base.specs.Selections.{bytes_of_position, run_positions}
use Rattle.vx_base.specs.declared.ptypes.PType.{PType}
use Rattle.vx_tree.specs.Formed.{IsCounts, IsListView}
use Rattle.vx_tree.specs.Meaning.{is_valid_at, kind_of, row_at, rows_range, tree_len}
use Rattle.vx_tree.specs.Tree.{Tree, Valid, list_view, primitive}
use Rattle.vx_pack.proofs.JoinedPieces.{map_of_flat_map}
use Rattle.vx_pack.proofs.JoinedLists.{sum-list_sizes}
use Rattle.vx_pack.proofs.ListPieces.{list_from-rows_range}
use Rattle.vx_pack.proofs.ReadCounts.{counts_of-held, held_are_counts, length-counts_of}
use Rattle.vx_pack.proofs.SameBytes.{nth_part}
use Rattle.vx_pack.proofs.StoredCounts.{stored_count_is}
use Rattle.vx_pack.proofs.StoredNumbers.{flat_map_range, number_bytes_at}
use Rattle.vx_pack.specs.CountBytes.{counts_of}
use Rattle.vx_pack.specs.Gathered.{AreThere}
use Rattle.vx_pack.proofs.PieceRows.{All-range_with_len}
use Rattle.vx_pack.specs.Lists.{IsItemOf, is_list}
use Rattle.vx_pack.specs.Numbers.{AreNumberBytes}
use Rattle.vx_pack.specs.Packed.{bytes_of_numbers, items_or_blank, list_sizes, number_or_zero}
use Rattle.vx_pack.specs.Parts.{HasKind, HasType, IsPartOf, part_len, part_row}
use Rattle.vx_pack.specs.StoredLists.{AreElementBytes, AreListBytes, AreListRows, AreStoredLists, all_positions, positions_of}
use Rattle.vx_pack.specs.StoredLists.{stored_sizes, stored_starts}
use Rattle.vx_pack.specs.declared.parts.Part.{Part}
use Rattle.vx_pack.specs.declared.parts.Part.TheVariants as part
use Rattle.vx_pack.specs.declared.stored_lists.StoredLists.{StoredLists}

-- ---- offsets and sizes

-- so many counts of an array, from one on
pub stored_counts_of : (t : PType) (a : Tree) (bs part : List ℕ) (v : Valid) (start n : ℕ) → a ≡ primitive t bs v → IsCounts a
    → start + n ≤ tree_len a → part ≡ slice_range bs (start * byte_width t) ((start + n) * byte_width t)
    → numbers t part ≡ map (λ i. pos (count_in (row_at a (start + i)))) (range_with_len 0 n)
stored_counts_of t a bs part v start n same counts within cut =
    let w = byte_width t in
    let room : (start + n) * w ≤ length bs = numbers_room t bs (start + n) (rw same at within) in
    let scaled : start * w ≤ (start + n) * w = mul-le-mul_right w (omega arith) in
    let size : (start + n) * w - start * w ≡ n * w = omega arith in
    let long : length part ≡ n * w = ap length cut ∙ length_part bs (start * w) ((start + n) * w) scaled room ∙ size in
    let count : length (numbers t part) ≡ n = length_numbers t part ∙ ap (λ m. m / w) long ∙ whole_numbers t n in
    fill_by_all (λ i. pos (count_in (row_at a (start + i)))) (numbers t part) n (pos 0) count
    (λ i l. ap (λ xs. number_nth (numbers t xs) i) cut ∙ ap (λ zs. number_nth zs i) (numbers_part t bs start n room)
    ∙ nth_part (numbers t bs) start n i l ∙ stored_count_is a t bs v (start + i) same counts (omega arith))

-- the count that is read at a place
count_held : (t : PType) (bs : List ℕ) (f : ℕ → ℕ) (n i : ℕ) → numbers t bs ≡ map (λ j. pos (f j)) (range_with_len 0 n) → i < n
    → get_or (counts_of t bs) i 0 ≡ f i
count_held t bs f n i hold inside =
    let all = range_with_len 0 n in
    let are : counts_of t bs ≡ map f all = counts_of-held t bs (map f all) (hold ∙ sym (map-map pos f all)) in
    ap (λ xs. get_or xs i 0) are ∙ get_or-map-range_with_len f 0 n i i 0 inside (zero-add i)

-- ---- the lists of an array

list_row : (a e o z : Tree) (v : Valid) (f : Bool) (i : ℕ) (r : Row) → a ≡ list_view e o z v f → is_valid_at v i ≡ true
    → r ≡ row_at a i
    → r ≡ items (rows_range (row_at e) (count_in (row_at o i)) (count_in (row_at z i)))
list_row a e o z v f i r same valid is =
    let start = count_in (row_at o i) in
    let n = count_in (row_at z i) in
    is ∙ ap (λ (t : Tree). row_at t i) same ∙ ap (λ c. if c then items (rows_range (row_at e) start n) else null) valid

list_here : (a e o z : Tree) (v : Valid) (f : Bool) (i : ℕ) (item : Kind) (r : Row) → a ≡ list_view e o z v f → is_valid_at v i ≡ true
    → r ≡ row_at a i
    → items_or_blank item 0 r ≡ map (row_at e) (range_with_len (count_in (row_at o i)) (count_in (row_at z i)))
list_here a e o z v f i item r same valid is =
    ap (items_or_blank item 0) (list_row a e o z v f i r same valid is)
    ∙ list_from-rows_range (row_at e) (count_in (row_at o i)) (count_in (row_at z i))

-- offsets and sizes are counts, and each list ends among the elements
pub list_bytes_of : (a e o z : Tree) (v : Valid) (f : Bool) (start n : ℕ) (p q : PType) (os ss : List ℕ)
    → a ≡ list_view e o z v f
    → IsListView e o z f → start + n ≤ tree_len a
    → numbers p os ≡ map (λ i. pos (count_in (row_at o (start + i)))) (range_with_len 0 n)
    → numbers q ss ≡ map (λ i. pos (count_in (row_at z (start + i)))) (range_with_len 0 n)
    → AreListBytes p os q ss (tree_len e)
list_bytes_of a e o z v f start n p q os ss same formed within offsets sizes =
    let all = range_with_len 0 n in
    let begin : ℕ → ℕ = λ i. count_in (row_at o (start + i)) in
    let size : ℕ → ℕ = λ i. count_in (row_at z (start + i)) in
    let inner : start + n ≤ tree_len o = rw same at within in
    let offsets_held : numbers p os ≡ map pos (map begin all) = offsets ∙ sym (map-map pos begin all) in
    let sizes_held : numbers q ss ≡ map pos (map size all) = sizes ∙ sym (map-map pos size all) in
    let starts_are : counts_of p os ≡ map begin all = counts_of-held p os (map begin all) offsets_held in
    let sizes_are : counts_of q ss ≡ map size all = counts_of-held q ss (map size all) sizes_held in
    let start_at : (i : ℕ) → i < n → get_or (counts_of p os) i 0 ≡ begin i =
    λ i l. count_held p os begin n i offsets l in
    let size_at : (i : ℕ) → i < n → get_or (counts_of q ss) i 0 ≡ size i =
    λ i l. count_held q ss size n i sizes l in
    let count : length (counts_of q ss) ≡ n = ap length sizes_are ∙ length-map-range_with_len size 0 n in
    let size_count : length (numbers q ss) ≡ n = sym (length-counts_of q ss) ∙ count in
    let offset_count : length (numbers p os) ≡ n =
    sym (length-counts_of p os) ∙ ap length starts_are ∙ length-map-range_with_len begin 0 n in
    record {
      offsets = held_are_counts p os (map begin all) offsets_held;
      sizes = held_are_counts q ss (map size all) sizes_held;
      same_len = size_count ∙ sym offset_count;
      within = λ i l.
          let inside : i < n = omega (arith, size_count, l) in
          let place : start + i < tree_len o = omega (arith, inside, inner) in
          omega (arith, start_at i inside, size_at i inside, formed.within (start + i) place);
    }

pub stored_lists_of : (a e o z : Tree) (v : Valid) (f : Bool) (start n : ℕ) (item : Kind) (row : ℕ → Row) (s : StoredLists)
    → a ≡ list_view e o z v f
    → IsListView e o z f → ((i : ℕ) → is_valid_at v i ≡ true) → start + n ≤ tree_len a → IsItemOf item (kind_of a)
    → ((i : ℕ) → row i ≡ row_at a (start + i)) → s.elements.now ≡ e
    → numbers s.offset_type s.offsets.now ≡ map (λ i. pos (count_in (row_at o (start + i)))) (range_with_len 0 n)
    → numbers s.size_type s.sizes.now ≡ map (λ i. pos (count_in (row_at z (start + i)))) (range_with_len 0 n)
    → AreStoredLists item (map row (range_with_len 0 n)) s
stored_lists_of a e o z v f start n item row s same formed valid within of_item rows is_e offsets sizes =
    let all = range_with_len 0 n in
    let begin : ℕ → ℕ = λ i. count_in (row_at o (start + i)) in
    let size : ℕ → ℕ = λ i. count_in (row_at z (start + i)) in
    let kind : kind_of e ≡ item = rw same at of_item in
    let offsets_held : numbers s.offset_type s.offsets.now ≡ map pos (map begin all) = offsets ∙ sym (map-map pos begin all) in
    let sizes_held : numbers s.size_type s.sizes.now ≡ map pos (map size all) = sizes ∙ sym (map-map pos size all) in
    let starts_are : stored_starts s ≡ map begin all = counts_of-held s.offset_type s.offsets.now (map begin all) offsets_held in
    let sizes_are : stored_sizes s ≡ map size all = counts_of-held s.size_type s.sizes.now (map size all) sizes_held in
    let start_at : (i : ℕ) → i < n → get_or (stored_starts s) i 0 ≡ begin i =
    λ i l. count_held s.offset_type s.offsets.now begin n i offsets l in
    let size_at : (i : ℕ) → i < n → get_or (stored_sizes s) i 0 ≡ size i =
    λ i l. count_held s.size_type s.sizes.now size n i sizes l in
    let count : length (stored_sizes s) ≡ n = ap length sizes_are ∙ length-map-range_with_len size 0 n in
    let one : (i : ℕ) → items_or_blank item 0 (row i) ≡ map (row_at e) (range_with_len (begin i) (size i)) =
    λ i. list_here a e o z v f (start + i) item (row i) same (valid (start + i)) (rows i) in
    record {
      kind = ap kind_of is_e ∙ kind;
      lists = subst (AreListBytes s.offset_type s.offsets.now s.size_type s.sizes.now) (sym (ap tree_len is_e))
          (list_bytes_of a e o z v f start n s.offset_type s.size_type s.offsets.now s.sizes.now same formed within offsets sizes);
      there = All-range_with_len (λ r. is_list r ≡ true) row n
          (λ i l. ap is_list (list_row a e o z v f (start + i) (row i) same (valid (start + i)) (rows i)));
      sizes =
          sizes_are
          ∙ map_range_same size (λ i. length (items_or_blank item 0 (row i))) 0 0 n
          (λ j l. sym (ap length (one (0 + j)) ∙ length-map-range_with_len (row_at e) (begin (0 + j)) (size (0 + j))))
          ∙ sym (map-map (λ r. length (items_or_blank item 0 r)) row all);
      rows =
          flat_map-map (items_or_blank item 0) row all
          ∙ flat_map_range (λ i. items_or_blank item 0 (row i)) (λ i. map (row_at s.elements.now) (positions_of (stored_starts s)
          (stored_sizes s) i)) n
          (λ i l. one i ∙ (λ j. map (row_at (sym is_e j)) (range_with_len (sym (start_at i l) j) (sym (size_at i l) j))))
          ∙ sym (map_of_flat_map (row_at s.elements.now) (positions_of (stored_starts s) (stored_sizes s)) all)
          ∙ ap (λ m. map (row_at s.elements.now) (flat_map (positions_of (stored_starts s) (stored_sizes s)) (range_with_len 0 m)))
          (sym count);
    }

-- each row is the list of so many elements from a place on
pub list_rows_of : (k : Kind) (p : Part) (a e o z : Tree) (v : Valid) (f : Bool) (start n : ℕ) (s : StoredLists)
    → a ≡ list_view e o z v f → ((i : ℕ) → is_valid_at v i ≡ true) → part_len p ≡ n
    → ((i : ℕ) → part_row k p i ≡ row_at a (start + i)) → s.elements.now ≡ e
    → numbers s.offset_type s.offsets.now ≡ map (λ i. pos (count_in (row_at o (start + i)))) (range_with_len 0 n)
    → numbers s.size_type s.sizes.now ≡ map (λ i. pos (count_in (row_at z (start + i)))) (range_with_len 0 n)
    → AreListRows k p s
list_rows_of k p a e o z v f start n s same valid len rows is_e offsets sizes =
    let begin : ℕ → ℕ = λ i. count_in (row_at o (start + i)) in
    let size : ℕ → ℕ = λ i. count_in (row_at z (start + i)) in
    let start_at : (i : ℕ) → i < n → get_or (stored_starts s) i 0 ≡ begin i =
    λ i l. count_held s.offset_type s.offsets.now begin n i offsets l in
    let size_at : (i : ℕ) → i < n → get_or (stored_sizes s) i 0 ≡ size i =
    λ i l. count_held s.size_type s.sizes.now size n i sizes l in
    record {
      count =
          length-counts_of s.size_type s.sizes.now ∙ ap length sizes ∙ length-map-range_with_len (λ i. pos (size i)) 0 n ∙ sym len;
      rows = λ i l.
          let inside : i < n = omega (arith, len, l) in
          list_row a e o z v f (start + i) (part_row k p i) same (valid (start + i)) (rows i)
          ∙ (λ j. items (rows_range (row_at (sym is_e j)) (sym (start_at i inside) j) (sym (size_at i inside) j)));
    }

-- ---- the bytes of the elements

pub part_type : (t : PType) (n : Bool) (k : Kind) (p : Part) → k ≡ integers t n → HasKind k p → HasType t p
part_type t n k (part.Array a start len) kind has = ap integer_type (has ∙ kind)
part_type t n k (part.Values vs) kind has = tt

pub element_bytes_of : (t : PType) (e : Tree) (n : ℕ) (p : Part) (bs : List ℕ) → IsPartOf e 0 n p → n ≡ tree_len e
    → AreNumberBytes t p bs → AreElementBytes t e bs
element_bytes_of t e n p bs part all h =
    let k = kind_of e in
    let count : part_len p ≡ tree_len e = part.len ∙ all in
    let row : (i : ℕ) → part_row k p i ≡ row_at e i = λ i. part.rows k i ∙ ap (row_at e) (zero-add i) in
    record {
      len = h.len ∙ ap (λ m. m * byte_width t) count;
      bytes = h.bytes;
      rows = λ i l. sym (row i) ∙ h.rows k i (omega (arith, count, l));
      fits = λ i l. subst (Fits k) (row i) (part.part.fits i (omega (arith, count, l)));
    }

-- those at positions
pub bytes_of_positions : (t : PType) (e : Tree) (bs ks : List ℕ) → AreElementBytes t e bs → All (λ k. k < tree_len e) ks
    → flat_map (bytes_of_position (byte_width t) bs) ks ≡ bytes_of_numbers t (map number_or_zero (map (row_at e) ks))
bytes_of_positions t e bs [] h below = refl
bytes_of_positions t e bs (k ∷ ks) h below =
    let w = byte_width t in
    let inside : k < tree_len e = All-head (λ j. j < tree_len e) k ks below in
    let places : length bs / w ≡ tree_len e = ap (λ m. m / w) h.len ∙ whole_numbers t (tree_len e) in
    let one : bytes_of_position w bs k ≡ bytes_of t (number_or_zero (row_at e k)) =
    number_bytes_at t bs k h.bytes (omega (arith, places, inside)) ∙ ap (bytes_of t) (sym (ap number_or_zero (h.rows k inside))) in
    let rest = bytes_of_positions t e bs ks h (All-tail (λ j. j < tree_len e) k ks below) in
    (λ j. one j ++ rest j)

-- ---- positions

all_in_range : {X : Type 0} (P : X → Type 0) (f : ℕ → List X) (from n : ℕ) → ((i : ℕ) → from ≤ i → i < from + n → All P (f i))
    → All P (flat_map f (range_with_len from n))
all_in_range P f from zero each = All-nil P
all_in_range P f from (suc n) each =
    All-append P (f from) (flat_map f (range_with_len (from + 1) n)) (each from (omega arith) (omega arith))
    (all_in_range P f (from + 1) n (λ i low high. each i (omega (arith, low)) (omega (arith, high))))

-- the elements of lists are there
pub positions_below : (t u : PType) (os ss : List ℕ) (n first count : ℕ) → AreListBytes t os u ss n → first + count ≤ length (numbers u ss)
    → All (λ k. k < n) (flat_map (positions_of (counts_of t os) (counts_of u ss)) (range_with_len first count))
positions_below t u os ss n first count h within =
    let starts = counts_of t os in
    let sizes = counts_of u ss in
    all_in_range (λ k. k < n) (positions_of starts sizes) first count (λ i low high j d l.
    let start = get_or starts i 0 in
    let size = get_or sizes i 0 in
    let below : j < size = omega (arith, length-range_with_len start size, l) in
    let inside : start + size ≤ n = h.within i (omega (arith, within, high)) in
    let here : get_or (range_with_len start size) j d ≡ start + j = get_or-range_with_len start size j d below in
    omega (arith, here, below, inside))

-- so are those of all lists
pub all_positions_below : (t u : PType) (os ss : List ℕ) (n : ℕ) → AreListBytes t os u ss n
    → All (λ k. k < n) (all_positions (counts_of t os) (counts_of u ss))
all_positions_below t u os ss n h =
    positions_below t u os ss n 0 (length (counts_of u ss)) h (omega (arith, length-counts_of u ss))

-- of lists that end within less
pub wider : (t u : PType) (os ss : List ℕ) (n m : ℕ) → n ≤ m → AreListBytes t os u ss n → AreListBytes t os u ss m
wider t u os ss n m le h = record {
  offsets = h.offsets;
  sizes = h.sizes;
  same_len = h.same_len;
  within = λ i l. omega (arith, h.within i l, le);
}

-- ---- one list more

-- its positions come after those of the others
pub positions_more : (starts sizes : List ℕ) (first i : ℕ)
    → flat_map (positions_of starts sizes) (range_with_len first (i + 1))
    ≡ flat_map (positions_of starts sizes) (range_with_len first i) ++ positions_of starts sizes (first + i)
positions_more starts sizes first i =
    let f = positions_of starts sizes in
    let ids : (n : ℕ) → flat_map f (range_with_len first n) ≡ flat_map (λ ks. ks) (map f (range_with_len first n)) =
    λ n. sym (flat_map-map (λ (ks : List ℕ). ks) f (range_with_len first n)) in
    ids (i + 1) ∙ ap (flat_map (λ ks. ks)) (map-range_with_len_more f first i (first + i) refl)
    ∙ flat_map-append (λ ks. ks) (map f (range_with_len first i)) (f (first + i) ∷ [])
    ∙ (λ j. sym (ids i) j ++ append-nil (f (first + i)) j)

-- how many they are
pub positions_count : (starts sizes : List ℕ) (first i size len more : ℕ) → size ≡ get_or sizes (first + i) 0 → more ≡ len + size
    → len ≡ length (flat_map (positions_of starts sizes) (range_with_len first i))
    → more ≡ length (flat_map (positions_of starts sizes) (range_with_len first (i + 1)))
positions_count starts sizes first i size len more at is before =
    let f = positions_of starts sizes in
    omega (
      arith,
      is,
      before,
      at,
      ap length (positions_more starts sizes first i),
      length-append (flat_map f (range_with_len first i)) (f (first + i)),
      length-range_with_len (get_or starts (first + i) 0) (get_or sizes (first + i) 0),
    )

-- those of the lists before some, and of these
pub positions_joined : (f : ℕ → List ℕ) (n : ℕ) (m : ℕ)
    → flat_map f (range_with_len 0 (n + m)) ≡ flat_map f (range_with_len 0 n) ++ flat_map f (range_with_len n m)
positions_joined f n m =
    ap (flat_map f) (sym (range_append 0 n m)) ∙ flat_map-append f (range_with_len 0 n) (range_with_len (0 + n) m)
    ∙ ap (λ k. flat_map f (range_with_len 0 n) ++ flat_map f (range_with_len k m)) (zero-add n)

-- a run is put for it
pub run_put : (starts sizes : List ℕ) (first i start size : ℕ) (runs : List (ℕ × ℕ)) → i < length runs
    → flat_map run_positions (take i runs) ≡ flat_map (positions_of starts sizes) (range_with_len first i)
    → start ≡ get_or starts (first + i) 0 → size ≡ get_or sizes (first + i) 0
    → flat_map run_positions (take (i + 1) (set runs i (start, start + size)))
    ≡ flat_map (positions_of starts sizes) (range_with_len first (i + 1))
run_put starts sizes first i start size runs inside before at_start at_size =
    let f = positions_of starts sizes in
    let size_is : start + size - start ≡ size = omega arith in
    let run : run_positions (start, start + size) ≡ f (first + i) =
    ap (range_with_len start) size_is ∙ (λ j. range_with_len (at_start j) (at_size j)) in
    ap (flat_map run_positions) (take_more_set runs i (start, start + size) inside)
    ∙ flat_map-append run_positions (take i runs) ((start, start + size) ∷ [])
    ∙ (λ j. before j ++ (append-nil (run_positions (start, start + size)) ∙ run) j)
    ∙ sym (positions_more starts sizes first i)

-- ---- the items of all lists

pub all_bytes_are : (t : PType) (item : Kind) (rs : List Row) (s : StoredLists) (bs : List ℕ) → AreStoredLists item rs s
    → AreElementBytes t s.elements.now bs
    → flat_map (bytes_of_position (byte_width t) bs) (all_positions (stored_starts s) (stored_sizes s))
    ≡ bytes_of_numbers t (map number_or_zero (flat_map (items_or_blank item 0) rs))
all_bytes_are t item rs s bs h elements =
    bytes_of_positions t s.elements.now bs (all_positions (stored_starts s) (stored_sizes s)) elements
    (all_positions_below s.offset_type s.size_type s.offsets.now s.sizes.now (tree_len s.elements.now) h.lists)
    ∙ ap (λ xs. bytes_of_numbers t (map number_or_zero xs)) (sym h.rows)

pub all_items_there : (t : PType) (item k : Kind) (rs : List Row) (s : StoredLists) (bs : List ℕ) → AreStoredLists item rs s
    → AreElementBytes t s.elements.now bs → item ≡ k → AreThere k (sum (stored_sizes s)) (flat_map (items_or_blank item 0) rs)
all_items_there t item k rs s bs h elements kind =
    let e = s.elements.now in
    let ks = all_positions (stored_starts s) (stored_sizes s) in
    let below = all_positions_below s.offset_type s.size_type s.offsets.now s.sizes.now (tree_len e) h.lists in
    let kinds : kind_of e ≡ k = h.kind ∙ kind in
    record {
      count = sym (sum-list_sizes item rs) ∙ ap sum (sym h.sizes);
      fits =
          subst (All (Fits k)) (sym h.rows)
          (All-map (Fits k) (row_at e) ks (λ i d l. subst (λ x. Fits x (row_at e (get_or ks i d))) kinds
          (elements.fits (get_or ks i d) (below i d l))));
      present =
          subst (All (λ r. is_present r ≡ true)) (sym h.rows)
          (All-map (λ r. is_present r ≡ true) (row_at e) ks (λ i d l. ap is_present (elements.rows (get_or ks i d) (below i d l))));
    }
