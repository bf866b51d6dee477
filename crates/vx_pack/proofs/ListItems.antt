-- The items of lists, one list after another: how many there are, and where each list begins.
use Rattle.std.proofs.Common.{◌≡◌, ◌∙◌, ◌+◌, ◌*◌, ◌^◌, ◌<◌, ◌≤◌, ℕ, Bool, List, [], ◌∷◌, ◌++◌, length, map, take, get_or, sum, refl}
use Rattle.std.proofs.Common.{sym, ap, subst, arith, zero-add}
use Rattle.std.specs.List.{All, flat_map, range_with_len}
use Rattle.std.proofs.lemmas.List.{append-nil, append_assoc, length-append, length_push, map-append, map_push, take-append-le, take_all}
use Rattle.std.proofs.lemmas.List.Concat.{flat_map-append}
use Rattle.std.proofs.lemmas.List.Folds.{length-flat_map-take}
use Rattle.std.proofs.lemmas.List.FromFn.{get_or-map-range_with_len, map-range_with_len_more, take-map-range_with_len}
use Rattle.vx_base.proofs.ListParts.{map_range_same}
use Rattle.vx_base.specs.Kinds.{Kind, lists}
use Rattle.vx_base.specs.Rows.{Row, null}
use Rattle.vx_views.specs.Places.{place_of}
use Rattle.vx_pack.specs.declared.pieces.Piece.{Piece}
use Rattle.vx_pack.specs.ListItems.{AreLists, item_counts, item_of, list_items}
use Rattle.vx_pack.specs.Lists.{IsItemOf}
use Rattle.vx_pack.specs.Packed.{items_or_blank, list_sizes, list_starts}
use Rattle.vx_pack.specs.Pieces.{IsListPiece, blank_of, piece_len, piece_row, piece_rows, pieces_rows}
use Rattle.vx_pack.proofs.JoinedLists.{length-flat_map-same}
use Rattle.vx_pack.proofs.PieceRows.{length-piece_rows, piece_rows_more, pieces_rows_more}

-- ---- kinds of lists

pub item_of-lists : (k item : Kind) (n : Bool) → k ≡ lists item n → item_of k ≡ item
item_of-lists k item n kind = ap item_of kind

pub lists_of_items : (k item : Kind) (n : Bool) → k ≡ lists item n → AreLists k
lists_of_items k item n kind = (n, kind ∙ ap (λ x. lists x n) (sym (item_of-lists k item n kind)))

pub items_of_lists : (k : Kind) → AreLists k → IsItemOf (item_of k) k
items_of_lists k are = subst (IsItemOf (item_of k)) (sym are.1) refl

pub lists_have_no_blank : (k : Kind) → AreLists k → blank_of k ≡ 0
lists_have_no_blank k are = ap blank_of are.1

pub list_items-lists : (k item : Kind) (n : Bool) (rs : List Row) → k ≡ lists item n → list_items k rs ≡ flat_map (items_or_blank item 0) rs
list_items-lists k item n rs kind = ap (λ x. flat_map (items_or_blank x 0) rs) (item_of-lists k item n kind)

pub item_counts-lists : (k item : Kind) (n : Bool) (rs : List Row) → k ≡ lists item n → item_counts k rs ≡ list_sizes item rs
item_counts-lists k item n rs kind = ap (λ x. list_sizes x rs) (item_of-lists k item n kind)

-- ---- items of rows

-- of one row more
pub list_items_more : (k : Kind) (p : Piece) (i : ℕ)
    → list_items k (map (piece_row k p) (range_with_len 0 (i + 1)))
    ≡ list_items k (map (piece_row k p) (range_with_len 0 i)) ++ items_or_blank (item_of k) 0 (piece_row k p i)
list_items_more k p i =
    let f = items_or_blank (item_of k) 0 in
    let rows = map (piece_row k p) (range_with_len 0 i) in
    ap (list_items k) (piece_rows_more k p i) ∙ flat_map-append f rows (piece_row k p i ∷ [])
    ∙ ap (λ xs. list_items k rows ++ xs) (append-nil (f (piece_row k p i)))

-- the first rows and the next one have no more than all
pub list_items_within : (k : Kind) (p : Piece) (i : ℕ) → i < piece_len p
    → length (list_items k (map (piece_row k p) (range_with_len 0 i))) + length (items_or_blank (item_of k) 0 (piece_row k p i))
    ≤ length (list_items k (piece_rows k p))
list_items_within k p i l =
    let f = items_or_blank (item_of k) 0 in
    let inside : i < length (piece_rows k p) = omega (arith, length-piece_rows k p, l) in
    let first : take i (piece_rows k p) ≡ map (piece_row k p) (range_with_len 0 i) =
    take-map-range_with_len (piece_row k p) 0 (piece_len p) i (omega (arith, l)) in
    let next : get_or (piece_rows k p) i null ≡ piece_row k p i =
    get_or-map-range_with_len (piece_row k p) 0 (piece_len p) i i null l (zero-add i) in
    omega (arith, length-flat_map-take f (piece_rows k p) i null inside, ap (λ rs. length (list_items k rs)) first, ap (λ r. length (f r)) next)

-- the rows of the list of the next row stand behind those of the rows before it
pub list_items_step : (k item : Kind) (n : Bool) (p q : Piece) (i : ℕ) (rs : List Row) → k ≡ lists item n
    → IsListPiece item 0 (piece_row k p i) q
    → (rs ++ list_items k (map (piece_row k p) (range_with_len 0 i))) ++ piece_rows item q
    ≡ rs ++ list_items k (map (piece_row k p) (range_with_len 0 (i + 1)))
list_items_step k item n p q i rs kind list =
    let before = list_items k (map (piece_row k p) (range_with_len 0 i)) in
    let r = piece_row k p i in
    let here : piece_rows item q ≡ items_or_blank (item_of k) 0 r =
    list.rows ∙ ap (λ x. items_or_blank x 0 r) (sym (item_of-lists k item n kind)) in
    append_assoc rs before (piece_rows item q)
    ∙ ap (λ xs. rs ++ xs) (ap (λ xs. before ++ xs) here ∙ sym (list_items_more k p i))

-- and can be counted with them, where all can
pub list_items_room : (k item : Kind) (n : Bool) (p q : Piece) (i : ℕ) (rs : List Row) → k ≡ lists item n → i < piece_len p
    → IsListPiece item 0 (piece_row k p i) q → length rs + length (list_items k (piece_rows k p)) < 2 ^ 64
    → length (rs ++ list_items k (map (piece_row k p) (range_with_len 0 i))) + piece_len q < 2 ^ 64
list_items_room k item n p q i rs kind l list room =
    let before = list_items k (map (piece_row k p) (range_with_len 0 i)) in
    let r = piece_row k p i in
    omega (
      arith,
      length-append rs before,
      list_items_within k p i l,
      length-piece_rows item q,
      ap length list.rows,
      ap (λ x. length (items_or_blank x 0 r)) (item_of-lists k item n kind),
      room,
    )

-- ---- items of pieces

-- of one piece more
pub pieces_items_more : (k : Kind) (ps : List Piece) (i : ℕ) (p : Piece) → i < length ps → p ≡ get_or ps i p
    → list_items k (pieces_rows k (take (i + 1) ps)) ≡ list_items k (pieces_rows k (take i ps)) ++ list_items k (piece_rows k p)
pieces_items_more k ps i p l at =
    ap (list_items k) (pieces_rows_more k ps i p l at)
    ∙ flat_map-append (items_or_blank (item_of k) 0) (pieces_rows k (take i ps)) (piece_rows k p)

items_by_pieces : (k : Kind) (ps : List Piece) → list_items k (pieces_rows k ps) ≡ flat_map (λ p. list_items k (piece_rows k p)) ps
items_by_pieces k [] = refl
items_by_pieces k (p ∷ ps) =
    flat_map-append (items_or_blank (item_of k) 0) (piece_rows k p) (pieces_rows k ps)
    ∙ ap (λ xs. list_items k (piece_rows k p) ++ xs) (items_by_pieces k ps)

-- the first pieces and the next one have no more than all
pub pieces_items_within : (k : Kind) (ps : List Piece) (i : ℕ) (p : Piece) → i < length ps → p ≡ get_or ps i p
    → length (list_items k (pieces_rows k (take i ps))) + length (list_items k (piece_rows k p)) ≤ length (list_items k (pieces_rows k ps))
pieces_items_within k ps i p l at =
    let f : Piece → List Row = λ q. list_items k (piece_rows k q) in
    omega (
      arith,
      length-flat_map-take f ps i p l,
      ap length (items_by_pieces k (take i ps)),
      ap length (items_by_pieces k ps),
      ap (λ q. length (f q)) at,
    )

-- ---- counts

-- of one row more
pub item_counts_push : (k : Kind) (p : Piece) (i : ℕ)
    → item_counts k (map (piece_row k p) (range_with_len 0 (i + 1)))
    ≡ item_counts k (map (piece_row k p) (range_with_len 0 i)) ++ length (items_or_blank (item_of k) 0 (piece_row k p i)) ∷ []
item_counts_push k p i =
    ap (item_counts k) (piece_rows_more k p i)
    ∙ map_push (λ r. length (items_or_blank (item_of k) 0 r)) (map (piece_row k p) (range_with_len 0 i)) (piece_row k p i)

-- where each list begins, of one list more
pub list_starts_push : (ns : List ℕ) (n : ℕ) → list_starts (ns ++ n ∷ []) ≡ list_starts ns ++ sum ns ∷ []
list_starts_push ns n =
    let all = ns ++ n ∷ [] in
    let len = length ns in
    ap (λ m. map (place_of all) (range_with_len 0 m)) (length_push ns n)
    ∙ map-range_with_len_more (place_of all) 0 len len (zero-add len)
    ∙ (λ j. map_range_same (place_of all) (place_of ns) 0 0 len (λ i l. ap sum (take-append-le (0 + i) ns (n ∷ []) (omega (arith, l)))) j
    ++ sum ((take-append-le len ns (n ∷ []) (omega arith) ∙ take_all len ns (omega arith)) j) ∷ [])

-- those of one piece more
pub item_counts_more : (k : Kind) (ps : List Piece) (i : ℕ) (p : Piece) → i < length ps → p ≡ get_or ps i p
    → item_counts k (pieces_rows k (take (i + 1) ps)) ≡ item_counts k (pieces_rows k (take i ps)) ++ item_counts k (piece_rows k p)
item_counts_more k ps i p l at =
    ap (item_counts k) (pieces_rows_more k ps i p l at)
    ∙ map-append (λ r. length (items_or_blank (item_of k) 0 r)) (pieces_rows k (take i ps)) (piece_rows k p)

-- those of a piece whose lists have one size
pub same_list_items : (k : Kind) (p : Piece) (size : ℕ) → All (λ r. length (items_or_blank (item_of k) 0 r) ≡ size) (piece_rows k p)
    → length (list_items k (piece_rows k p)) ≡ piece_len p * size
same_list_items k p size same =
    length-flat_map-same (items_or_blank (item_of k) 0) size (piece_rows k p) same ∙ ap (λ n. n * size) (length-piece_rows k p)

-- ---- how many there are

pub list_items_count : (k : Kind) (p : Piece) (i : ℕ)
    → length (list_items k (map (piece_row k p) (range_with_len 0 (i + 1))))
    ≡ length (list_items k (map (piece_row k p) (range_with_len 0 i))) + length (items_or_blank (item_of k) 0 (piece_row k p i))
list_items_count k p i =
    ap length (list_items_more k p i)
    ∙ length-append (list_items k (map (piece_row k p) (range_with_len 0 i))) (items_or_blank (item_of k) 0 (piece_row k p i))

pub pieces_items_count : (k : Kind) (ps : List Piece) (i : ℕ) (p : Piece) → i < length ps → p ≡ get_or ps i p
    → length (list_items k (pieces_rows k (take (i + 1) ps)))
    ≡ length (list_items k (pieces_rows k (take i ps))) + length (list_items k (piece_rows k p))
pieces_items_count k ps i p l at =
    ap length (pieces_items_more k ps i p l at)
    ∙ length-append (list_items k (pieces_rows k (take i ps))) (list_items k (piece_rows k p))
