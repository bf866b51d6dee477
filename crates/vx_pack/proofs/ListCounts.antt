-- Offsets and sizes of lists that are put one after another.
use Rattle.std.proofs.Common.{◌≡◌, ◌∙◌, ◌+◌, ◌<◌, ◌≤◌, ℕ, List, [], ◌∷◌, ◌++◌, length, map, sum, pos, sym, ap, arith}
use Rattle.std.specs.List.{range_with_len}
use Rattle.std.proofs.lemmas.List.{append_assoc}
use Rattle.std.proofs.lemmas.List.Sums.{sum_by-append, sum_by_push}
use Rattle.vx_base.specs.Integers.{bytes_of}
use Rattle.vx_base.specs.Kinds.{Kind}
use Rattle.vx_base.specs.declared.ptypes.PType.{PType}
use Rattle.vx_pack.specs.declared.list_counts.ListCounts.{ListCounts}
use Rattle.vx_pack.specs.declared.pieces.Piece.{Piece}
use Rattle.vx_pack.specs.ListItems.{AreListCounts, IsNoCounts, item_counts, item_of, list_items}
use Rattle.vx_pack.specs.Packed.{bytes_of_numbers, count_type, items_or_blank, list_starts}
use Rattle.vx_pack.specs.Pieces.{piece_len, piece_row, piece_rows}
use Rattle.vx_pack.proofs.CountBytes.{bytes_of_counts_push}
use Rattle.vx_pack.proofs.JoinedLists.{sum-list_sizes}
use Rattle.vx_pack.proofs.ListItems.{item_counts_push, list_items_within, list_starts_push}

-- none yet
pub no_list_counts : (total : ℕ) (c d : ListCounts) → IsNoCounts c → d.total ≡ total → d.next ≡ c.next → d.offsets.items ≡ c.offsets.items
    → d.sizes.items ≡ c.sizes.items → AreListCounts total [] d
no_list_counts total c d none is next offsets sizes =
    record { all = is; next = next ∙ none.next; offsets = offsets ∙ none.offsets; sizes = sizes ∙ none.sizes }

-- one list more
pub list_counts_push : (total size : ℕ) (ns : List ℕ) (t : PType) (c d : ListCounts) → t ≡ count_type c.total → AreListCounts total ns c
    → d.total ≡ c.total → d.next ≡ c.next + size → d.offsets.items ≡ c.offsets.items ++ bytes_of t (pos c.next)
    → d.sizes.items ≡ c.sizes.items ++ bytes_of t (pos size) → AreListCounts total (ns ++ size ∷ []) d
list_counts_push total size ns t c d type h same next offsets sizes =
    let u = count_type total in
    let is : t ≡ u = type ∙ ap count_type h.all in
    record {
      all = same ∙ h.all;
      next = next ∙ ap (λ n. n + size) h.next ∙ sym (sum_by_push (λ (n : ℕ). n) ns size);
      offsets =
          offsets ∙ (λ j. h.offsets j ++ bytes_of (is j) (pos (h.next j)))
          ∙ sym (bytes_of_counts_push u (list_starts ns) (sum ns))
          ∙ ap (λ xs. bytes_of_numbers u (map pos xs)) (sym (list_starts_push ns size));
      sizes = sizes ∙ (λ j. h.sizes j ++ bytes_of (is j) (pos size)) ∙ sym (bytes_of_counts_push u ns size);
    }

-- the next list of a piece has room, where all its lists have
pub list_count_room : (k : Kind) (p : Piece) (i size total next : ℕ) (ns : List ℕ) → i < piece_len p
    → size ≡ length (items_or_blank (item_of k) 0 (piece_row k p i))
    → sum ns + length (list_items k (piece_rows k p)) ≤ total
    → next ≡ sum (ns ++ item_counts k (map (piece_row k p) (range_with_len 0 i))) → next + size ≤ total
list_count_room k p i size total next ns l is room at =
    let rows = map (piece_row k p) (range_with_len 0 i) in
    omega (
      arith,
      is,
      room,
      at,
      sum_by-append (λ (n : ℕ). n) ns (item_counts k rows),
      sum-list_sizes (item_of k) rows,
      list_items_within k p i l,
    )

-- what is put is the count of the next row
pub list_counts_step : (k : Kind) (p : Piece) (i size : ℕ) (ns : List ℕ) → size ≡ length (items_or_blank (item_of k) 0 (piece_row k p i))
    → (ns ++ item_counts k (map (piece_row k p) (range_with_len 0 i))) ++ size ∷ []
    ≡ ns ++ item_counts k (map (piece_row k p) (range_with_len 0 (i + 1)))
list_counts_step k p i size ns is =
    let before = item_counts k (map (piece_row k p) (range_with_len 0 i)) in
    append_assoc ns before (size ∷ [])
    ∙ ap (λ xs. ns ++ xs) (ap (λ n. before ++ n ∷ []) is ∙ sym (item_counts_push k p i))
