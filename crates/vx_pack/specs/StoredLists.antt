-- Lists that stand by offsets and sizes, numbers one after another, with no null among them.
use Rattle.std.specs.Prelude.{◌≡◌, ◌<◌, ◌≤◌, ◌+◌, ◌*◌, ℕ, true, List, length, map, slice_index}
use Rattle.std.specs.List.{All, flat_map, range_with_len}
use Rattle.vx_base.specs.Bytes.{AreBytes}
use Rattle.vx_base.specs.Integers.{byte_width, number_nth, numbers}
use Rattle.vx_base.specs.Kinds.{Kind, Fits}
use Rattle.vx_base.specs.Rows.{Row, items, whole}
use Rattle.vx_base.specs.declared.ptypes.PType.{PType}
use Rattle.vx_tree.specs.Meaning.{kind_of, row_at, rows_range, tree_len}
use Rattle.vx_tree.specs.Tree.{Tree}
use Rattle.vx_pack.specs.CountBytes.{AreCountBytes, counts_of}
use Rattle.vx_pack.specs.Lists.{is_list}
use Rattle.vx_pack.specs.Packed.{items_or_blank, list_sizes}
use Rattle.vx_pack.specs.Parts.{IsPart, part_len, part_row}
use Rattle.vx_pack.specs.declared.parts.Part.{Part}
use Rattle.vx_pack.specs.declared.stored_lists.StoredLists.{StoredLists}

-- where each list begins among the elements
abbrev pub stored_starts : StoredLists → List ℕ
stored_starts s = counts_of s.offset_type s.offsets.now

-- how many elements each list has
abbrev pub stored_sizes : StoredLists → List ℕ
stored_sizes s = counts_of s.size_type s.sizes.now

-- the positions of the elements of list i, of lists that begin there and have these sizes
abbrev pub positions_of : List ℕ → List ℕ → ℕ → List ℕ
positions_of starts sizes i = range_with_len (slice_index starts i) (slice_index sizes i)

-- those of all lists, one list after another
abbrev pub all_positions : List ℕ → List ℕ → List ℕ
all_positions starts sizes = flat_map (positions_of starts sizes) (range_with_len 0 (length sizes))

-- offsets and sizes are counts, as many of one as of the other, and each list ends within so many elements
pub record AreListBytes (t : PType) (os : List ℕ) (u : PType) (ss : List ℕ) (n : ℕ) : Type 0 where
  pub offsets : AreCountBytes t os
  pub sizes : AreCountBytes u ss
  pub same_len : length (numbers u ss) ≡ length (numbers t os)
  pub within : (i : ℕ) → i < length (numbers u ss) → slice_index (counts_of t os) i + slice_index (counts_of u ss) i ≤ n

-- the lists are these rows, items of a kind
pub record AreStoredLists (item : Kind) (rs : List Row) (s : StoredLists) : Type 0 where
  pub kind : kind_of s.elements.now ≡ item
  pub lists : AreListBytes s.offset_type s.offsets.now s.size_type s.sizes.now (tree_len s.elements.now)
  pub there : All (λ r. is_list r ≡ true) rs
  pub sizes : stored_sizes s ≡ list_sizes item rs
  pub rows : flat_map (items_or_blank item 0) rs ≡ map (row_at s.elements.now) (all_positions (stored_starts s) (stored_sizes s))

-- list i, as a row
abbrev pub stored_row : StoredLists → ℕ → Row
stored_row s i = items (rows_range (row_at s.elements.now) (slice_index (stored_starts s) i) (slice_index (stored_sizes s) i))

-- each row is the list at its place
pub record AreListRows (k : Kind) (p : Part) (s : StoredLists) : Type 0 where
  pub count : length (stored_sizes s) ≡ part_len p
  pub rows : (i : ℕ) → i < part_len p → part_row k p i ≡ stored_row s i

-- the items of all lists, one list after another
pub record AreStoredItems (s : StoredLists) (p : Part) : Type 0 where
  pub part : IsPart (kind_of s.elements.now) p
  pub rows : (k : Kind) → map (part_row k p) (range_with_len 0 (part_len p)) ≡ map (row_at s.elements.now) (all_positions (stored_starts s) (stored_sizes s))

-- the rows of an array are numbers of a type, none of them null, and these are their bytes
pub record AreElementBytes (t : PType) (e : Tree) (bs : List ℕ) : Type 0 where
  pub len : length bs ≡ tree_len e * byte_width t
  pub bytes : AreBytes bs
  pub rows : (i : ℕ) → i < tree_len e → row_at e i ≡ whole (number_nth (numbers t bs) i)
  pub fits : (i : ℕ) → i < tree_len e → Fits (kind_of e) (row_at e i)
