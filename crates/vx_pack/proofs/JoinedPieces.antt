-- The rows of lists, piece by piece.
use Rattle.std.proofs.Common.{◌≡◌, ◌∙◌, ◌+◌, ◌*◌, ◌^◌, ◌<◌, ◌≤◌, ℕ, Bool, true, List, [], ◌∷◌, ◌++◌, length, map, take, get_or, refl, sym, ap, subst}
use Rattle.std.proofs.Common.{arith, zero-add}
use Rattle.std.specs.List.{flat_map, range_with_len}
use Rattle.std.specs.Prelude.{if◌then◌else◌}
use Rattle.std.proofs.Math.Nat.{mul-le-mul_right}
use Rattle.std.proofs.lemmas.List.{map-append}
use Rattle.std.proofs.lemmas.List.Concat.{flat_map-append}
use Rattle.std.proofs.lemmas.List.Elements.{All-append, All-cons, All-nil}
use Rattle.std.proofs.lemmas.List.Folds.{flat_map-map}
use Rattle.vx_base.proofs.ListParts.{map_range_same}
use Rattle.vx_base.proofs.Runs.{list_positions_of_run}
use Rattle.vx_base.specs.Kinds.{Kind, fixed_lists}
use Rattle.vx_base.specs.Rows.{Row, null, items}
use Rattle.vx_base.specs.Selections.{list_positions}
use Rattle.vx_tree.specs.Meaning.{is_valid_at, kind_of, nullable, row_at, rows_range, tree_len}
use Rattle.vx_tree.specs.Tree.{Tree, Valid, fixed_list}
use Rattle.vx_pack.proofs.ListPieces.{elements_counted, list_from-rows_range, rows_of_lists}
use Rattle.vx_pack.proofs.PieceRows.{length-pieces_rows, pieces_rows-append, pieces_rows-one, pieces_rows_more}
use Rattle.vx_pack.specs.declared.parts.Part.{Part}
use Rattle.vx_pack.specs.declared.pieces.Piece.{Piece}
use Rattle.vx_pack.specs.declared.pieces.Piece.TheVariants as piece
use Rattle.vx_pack.specs.Lists.{IsItemOf}
use Rattle.vx_pack.specs.Packed.{items_or_blank}
use Rattle.vx_pack.specs.Parts.{IsPart, IsPartOf, part_len, part_row}
use Rattle.vx_pack.specs.Pieces.{AreAllItems, AreElements, AreJoined, AreListPieces, ArePieces, IsPiece, blank_of, piece_rows, pieces_rows}

-- ---- one after another

pub AreJoined-nil : (item : Kind) → AreJoined item [] []
AreJoined-nil item = record { each = All-nil (IsPiece item); rows = refl }

pub AreJoined-append : (item : Kind) (rs ss : List Row) (ps qs : List Piece) → AreJoined item rs ps → AreJoined item ss qs
    → AreJoined item (rs ++ ss) (ps ++ qs)
AreJoined-append item rs ss ps qs first second = record {
  each = All-append (IsPiece item) ps qs first.each second.each;
  rows = pieces_rows-append item ps qs ∙ (λ i. first.rows i ++ second.rows i);
}

-- those of one more piece
pub AreJoined-more : (item k : Kind) (size i : ℕ) (ps : List Piece) (p : Piece) (before after : List Piece) → i < length ps
    → p ≡ get_or ps i p
    → AreJoined item (flat_map (items_or_blank item size) (pieces_rows k (take i ps))) before
    → (more : List Piece) × AreJoined item (flat_map (items_or_blank item size) (piece_rows k p)) more × (after ≡ before ++ more)
    → AreJoined item (flat_map (items_or_blank item size) (pieces_rows k (take (i + 1) ps))) after
AreJoined-more item k size i ps p before after l at first more =
    let f = items_or_blank item size in
    let old = pieces_rows k (take i ps) in
    let rows : flat_map f (pieces_rows k (take (i + 1) ps)) ≡ flat_map f old ++ flat_map f (piece_rows k p) =
    ap (flat_map f) (pieces_rows_more k ps i p l at) ∙ flat_map-append f old (piece_rows k p) in
    subst (λ rs. AreJoined item rs after) (sym rows)
    (subst (AreJoined item (flat_map f old ++ flat_map f (piece_rows k p))) (sym more.2)
    (AreJoined-append item (flat_map f old) (flat_map f (piece_rows k p)) before more.0 first more.1))

-- lists by lists
pub joined_of_lists : (item : Kind) (size : ℕ) (rs : List Row) (ps : List Piece) → AreListPieces item size rs ps
    → AreJoined item (flat_map (items_or_blank item size) rs) ps
joined_of_lists item size rs ps h = record { each = h.each; rows = rows_of_lists item size rs ps h }

-- as many as so many lists have
pub elements_of_joined : (k item : Kind) (size : ℕ) (n : Bool) (ps qs : List Piece) (len : ℕ) → k ≡ fixed_lists item size n
    → ArePieces k ps len → AreJoined item (flat_map (items_or_blank item size) (pieces_rows k ps)) qs
    → AreElements item (len * size) (flat_map (items_or_blank item size) (pieces_rows k ps)) qs
elements_of_joined k item size n ps qs len kind pieces h = record {
  each = h.each;
  count = sym (length-pieces_rows item qs) ∙ ap length h.rows ∙ elements_counted k item size n ps len kind pieces;
  rows = h.rows;
}

-- so many rows
pub ArePieces-joined : (item : Kind) (rs : List Row) (ps : List Piece) (total : ℕ) → AreJoined item rs ps → total ≡ length rs → total < 2 ^ 64
    → ArePieces item ps total
ArePieces-joined item rs ps total h counted small = record {
  each = h.each;
  count = sym (length-pieces_rows item ps) ∙ ap length h.rows ∙ sym counted;
  fits = small;
}

-- ---- the elements of a part

pub joined_of_part : (item k : Kind) (blank : ℕ) (p q : Part) → AreAllItems item blank k p q
    → AreJoined item (flat_map (items_or_blank item blank) (piece_rows k (piece.Rows p))) (piece.Rows q ∷ [])
joined_of_part item k blank p q h = record {
  each = All-cons (IsPiece item) (piece.Rows q) [] h.part (All-nil (IsPiece item));
  rows = pieces_rows-one item (piece.Rows q) ∙ h.rows;
}

-- they lie among the elements
pub elements_within : (a e : Tree) (s : ℕ) (v : Valid) (m start n : ℕ) → a ≡ fixed_list e s v m → start + n ≤ tree_len a
    → tree_len e ≡ m * s → start * s + n * s ≤ tree_len e
elements_within a e s v m start n same within long =
    let below : start + n ≤ m = rw same at within in
    let scaled : (start + n) * s ≤ m * s = mul-le-mul_right s below in
    omega (arith, scaled, long)

flat_map_same : {X : Type 0} (f g : ℕ → List X) (from at n : ℕ) → ((j : ℕ) → j < n → f (from + j) ≡ g (at + j))
    → flat_map f (range_with_len from n) ≡ flat_map g (range_with_len at n)
flat_map_same {X} f g from at n each =
    sym (flat_map-map (λ (xs : List X). xs) f (range_with_len from n))
    ∙ ap (flat_map (λ xs. xs)) (map_range_same f g from at n each)
    ∙ flat_map-map (λ (xs : List X). xs) g (range_with_len at n)

pub map_of_flat_map : {X Y : Type 0} (g : X → Y) (f : ℕ → List X) (ks : List ℕ) → map g (flat_map f ks) ≡ flat_map (λ k. map g (f k)) ks
map_of_flat_map g f [] = refl
map_of_flat_map g f (k ∷ ks) = map-append g (f k) (flat_map f ks) ∙ ap (λ ys. map g (f k) ++ ys) (map_of_flat_map g f ks)

pub all_items_of : (a e : Tree) (s : ℕ) (v : Valid) (m start n : ℕ) (item : Kind) (size : ℕ) (b : Bool) (p q : Part) → a ≡ fixed_list e s v m
    → ((i : ℕ) → is_valid_at v i ≡ true) → kind_of a ≡ fixed_lists item size b → part_len p ≡ n
    → ((i : ℕ) → part_row (fixed_lists item size b) p i ≡ row_at a (start + i)) → IsPartOf e (start * s) (n * s) q
    → AreAllItems item size (fixed_lists item size b) p q
all_items_of a e s v m start n item size b p q same full kind len rows h =
    let k = fixed_lists item size b in
    let kinds : fixed_lists (kind_of e) s (nullable v) ≡ k = ap kind_of (sym same) ∙ kind in
    let of_item : kind_of e ≡ item = cc in
    let f = items_or_blank item size in
    let one : (j : ℕ) → j < n → f (part_row k p (0 + j)) ≡ map (row_at e) (list_positions s (start + j)) =
    λ j l. ap f (rows (0 + j) ∙ ap (row_at a) (ap (λ x. start + x) (zero-add j)) ∙ ap (λ (t : Tree). row_at t (start + j)) same
    ∙ ap (λ c. if c then items (rows_range (row_at e) ((start + j) * s) s) else null) (full (start + j)))
    ∙ list_from-rows_range (row_at e) ((start + j) * s) s in
    record {
      part = subst (λ x. IsPart x q) of_item h.part;
      rows =
          ap (λ x. map (part_row item q) (range_with_len 0 x)) h.len
          ∙ map_range_same (part_row item q) (row_at e) 0 (start * s) (n * s) (λ j l. h.rows item (0 + j) ∙ ap (row_at e) (ap (λ x. start * s + x) (zero-add j)))
          ∙ ap (map (row_at e)) (sym (list_positions_of_run s start n))
          ∙ map_of_flat_map (row_at e) (list_positions s) (range_with_len start n)
          ∙ sym (flat_map_same (λ i. f (part_row k p i)) (λ i. map (row_at e) (list_positions s i)) 0 start n one)
          ∙ sym (ap (λ x. flat_map f (map (part_row k p) (range_with_len 0 x))) len ∙ flat_map-map f (part_row k p) (range_with_len 0 n));
    }

-- the same by the kind that the array has
pub all_items_of_kind : (a e : Tree) (s : ℕ) (v : Valid) (m start n : ℕ) (item k : Kind) (blank : ℕ) (p q : Part) → a ≡ fixed_list e s v m
    → ((i : ℕ) → is_valid_at v i ≡ true) → kind_of a ≡ k → IsItemOf item k → blank_of k ≡ blank → part_len p ≡ n
    → ((x : Kind) (i : ℕ) → part_row x p i ≡ row_at a (start + i)) → IsPartOf e (start * s) (n * s) q
    → AreAllItems item blank k p q
all_items_of_kind a e s v m start n item k blank p q same full kind of_item blanks len rows h =
    let kinds : k ≡ fixed_lists (kind_of e) s (nullable v) = sym kind ∙ ap kind_of same in
    let of_e : kind_of e ≡ item = subst (IsItemOf item) kinds of_item in
    let sized : s ≡ blank = sym (ap blank_of kinds) ∙ blanks in
    let is : k ≡ fixed_lists item blank (nullable v) = kinds ∙ (λ i. fixed_lists (of_e i) (sized i) (nullable v)) in
    subst (λ x. AreAllItems item blank x p q) (sym is)
    (all_items_of a e s v m start n item blank (nullable v) p q same full (kind ∙ is) len (rows (fixed_lists item blank (nullable v))) h)
