-- Lists that stand end to end: where each begins, and the array that they make.
use Rattle.std.proofs.Common.{◌≡◌, ◌∙◌, ◌+◌, ◌^◌, ◌<◌, ◌≤◌, ℕ, true, List, length, get_or, refl, sym, ap, arith, sum, pos, zero-add}
use Rattle.std.proofs.lemmas.List.FromFn.{length-map-range_with_len, get_or-map-range_with_len}
use Rattle.std.proofs.lemmas.List.Sums.{get_or-le-sum_by, sum_by-take-le, sum_by_more, sum_by_more_le}
use Rattle.vx_base.specs.Rows.{whole, items, count_in}
use Rattle.vx_views.specs.Places.{place_of}
use Rattle.vx_tree.specs.Formed.{IsConsecutive, IsListView, ValidFits, WellFormed}
use Rattle.vx_tree.specs.Meaning.{is_valid_at, row_at, rows_range, tree_len}
use Rattle.vx_tree.specs.Tree.{Tree, Valid}
use Rattle.vx_pack.specs.Packed.{count_type, counts_array, list_starts, packed_lists}
use Rattle.vx_pack.proofs.CountsArrays.{AreHeld, IsCounts-counts_array, holds-count_type, row_at-counts_array, tree_len-counts_array}

-- ---- where each list begins

pub length-list_starts : (sizes : List ℕ) → length (list_starts sizes) ≡ length sizes
length-list_starts sizes = length-map-range_with_len (place_of sizes) 0 (length sizes)

pub get_or-list_starts : (sizes : List ℕ) (i d : ℕ) → i < length sizes → get_or (list_starts sizes) i d ≡ place_of sizes i
get_or-list_starts sizes i d l = get_or-map-range_with_len (place_of sizes) 0 (length sizes) i i d l (zero-add i)

-- the next one begins where a list ends
pub place_of-next : (sizes : List ℕ) (i : ℕ) → i < length sizes → place_of sizes (i + 1) ≡ place_of sizes i + get_or sizes i 0
place_of-next sizes i l = sum_by_more (λ (n : ℕ). n) sizes i 0 l

-- and all end within the sum
pub place_of-within : (sizes : List ℕ) (i : ℕ) → i < length sizes → place_of sizes i + get_or sizes i 0 ≤ sum sizes
place_of-within sizes i l = sum_by_more_le (λ (n : ℕ). n) sizes i 0 l

-- ---- the type of offsets and sizes has each of them

pub starts_held : (sizes : List ℕ) → sum sizes < 2 ^ 63 → AreHeld (count_type (sum sizes)) (list_starts sizes)
starts_held sizes fits i d l =
    let inside : i < length sizes = omega (arith, length-list_starts sizes) in
    rw (get_or-list_starts sizes i d inside) (holds-count_type (sum sizes) (place_of sizes i) (sum_by-take-le (λ (n : ℕ). n) sizes i) fits)

pub sizes_held : (sizes : List ℕ) → sum sizes < 2 ^ 63 → AreHeld (count_type (sum sizes)) sizes
sizes_held sizes fits i d l = holds-count_type (sum sizes) (get_or sizes i d) (get_or-le-sum_by (λ (n : ℕ). n) sizes i d l) fits

-- ---- the offsets and the sizes, row by row

abbrev pub starts_array : List ℕ → Tree
starts_array sizes = counts_array (count_type (sum sizes)) (list_starts sizes)

abbrev pub sizes_array : List ℕ → Tree
sizes_array sizes = counts_array (count_type (sum sizes)) sizes

pub tree_len-starts_array : (sizes : List ℕ) → tree_len (starts_array sizes) ≡ length sizes
tree_len-starts_array sizes = tree_len-counts_array (count_type (sum sizes)) (list_starts sizes) ∙ length-list_starts sizes

pub tree_len-sizes_array : (sizes : List ℕ) → tree_len (sizes_array sizes) ≡ length sizes
tree_len-sizes_array sizes = tree_len-counts_array (count_type (sum sizes)) sizes

pub start_row : (sizes : List ℕ) (i : ℕ) → sum sizes < 2 ^ 63 → i < length sizes
    → row_at (starts_array sizes) i ≡ whole (pos (place_of sizes i))
start_row sizes i fits l =
    row_at-counts_array (count_type (sum sizes)) (list_starts sizes) i (starts_held sizes fits) (omega (arith, length-list_starts sizes))
    ∙ ap (λ n. whole (pos n)) (get_or-list_starts sizes i 0 l)

pub size_row : (sizes : List ℕ) (i : ℕ) → sum sizes < 2 ^ 63 → i < length sizes
    → row_at (sizes_array sizes) i ≡ whole (pos (get_or sizes i 0))
size_row sizes i fits l = row_at-counts_array (count_type (sum sizes)) sizes i (sizes_held sizes fits) l

pub start_read : (sizes : List ℕ) (i : ℕ) → sum sizes < 2 ^ 63 → i < length sizes
    → count_in (row_at (starts_array sizes) i) ≡ place_of sizes i
start_read sizes i fits l = ap count_in (start_row sizes i fits l)

pub size_read : (sizes : List ℕ) (i : ℕ) → sum sizes < 2 ^ 63 → i < length sizes
    → count_in (row_at (sizes_array sizes) i) ≡ get_or sizes i 0
size_read sizes i fits l = ap count_in (size_row sizes i fits l)

pub IsConsecutive-packed_lists : (sizes : List ℕ) → sum sizes < 2 ^ 63 → IsConsecutive (starts_array sizes) (sizes_array sizes)
IsConsecutive-packed_lists sizes fits i l =
    let next : i + 1 < length sizes = omega (arith, tree_len-starts_array sizes) in
    omega (
      arith,
      start_read sizes i fits (omega arith),
      size_read sizes i fits (omega arith),
      start_read sizes (i + 1) fits next,
      place_of-next sizes i (omega arith),
    )

-- ---- the array of lists

pub tree_len-packed_lists : (e : Tree) (sizes : List ℕ) (v : Valid) → tree_len (packed_lists e sizes v) ≡ length sizes
tree_len-packed_lists e sizes v = tree_len-starts_array sizes

pub IsListView-packed_lists : (e : Tree) (sizes : List ℕ) → tree_len e ≡ sum sizes → sum sizes < 2 ^ 63
    → IsListView e (starts_array sizes) (sizes_array sizes) true
IsListView-packed_lists e sizes len fits = record {
  offsets = IsCounts-counts_array (count_type (sum sizes)) (list_starts sizes) (starts_held sizes fits);
  sizes = IsCounts-counts_array (count_type (sum sizes)) sizes (sizes_held sizes fits);
  same_len = tree_len-sizes_array sizes ∙ sym (tree_len-starts_array sizes);
  within = λ i l.
      let inside : i < length sizes = omega (arith, tree_len-starts_array sizes) in
      omega (arith, start_read sizes i fits inside, size_read sizes i fits inside, place_of-within sizes i inside);
  follows = λ set. IsConsecutive-packed_lists sizes fits;
}

pub WellFormed-packed_lists : (e : Tree) (sizes : List ℕ) (v : Valid) → tree_len e ≡ sum sizes → sum sizes < 2 ^ 63
    → ValidFits v (length sizes)
    → WellFormed (packed_lists e sizes v)
WellFormed-packed_lists e sizes v len fits valid =
    (rw (tree_len-starts_array sizes) valid, IsListView-packed_lists e sizes len fits)

-- a list that is there has the elements from its start on
pub row_at-packed_lists : (e : Tree) (sizes : List ℕ) (v : Valid) (i : ℕ) → sum sizes < 2 ^ 63 → i < length sizes → is_valid_at v i ≡ true
    → row_at (packed_lists e sizes v) i ≡ items (rows_range (row_at e) (place_of sizes i) (get_or sizes i 0))
row_at-packed_lists e sizes v i fits l valid =
    rw (valid, start_read sizes i fits l, size_read sizes i fits l) refl
