-- What is told of the rows of pieces, in a loop over pieces and over the rows of each.
use Rattle.std.proofs.Common.{◌≡◌, ◌∙◌, ◌+◌, ◌<◌, ◌^◌, ℕ, List, [], ◌∷◌, ◌++◌, length, map, take, get_or, sym, ap, subst, arith}
use Rattle.std.proofs.lemmas.List.{append_assoc, length-append, length-map, map-append, map_push}
use Rattle.std.proofs.lemmas.List.Elements.{All-get_or}
use Rattle.std.proofs.lemmas.List.FromFn.{length-map-range_with_len}
use Rattle.std.specs.List.{All, range_with_len}
use Rattle.vx_base.specs.Kinds.{Kind}
use Rattle.vx_base.specs.Rows.{Row}
use Rattle.vx_pack.proofs.PieceRows.{length-pieces_rows, piece_len_within, piece_rows_more, pieces_rows_more}
use Rattle.vx_pack.specs.declared.pieces.Piece.{Piece}
use Rattle.vx_pack.specs.Pieces.{ArePieces, IsPiece, piece_len, piece_row, piece_rows, pieces_rows}

pub piece_at : (k : Kind) (ps : List Piece) (i : ℕ) (p : Piece) → All (IsPiece k) ps → i < length ps → p ≡ get_or ps i p → IsPiece k p
piece_at k ps i p all inside at = subst (IsPiece k) (sym at) (All-get_or (IsPiece k) ps i p inside all)

-- of one row more
pub row_pushed : {A : Type 0} (f : Row → A) (k : Kind) (p : Piece) (start xs ys : List A) (i : ℕ) (x : A)
    → xs ≡ start ++ map f (map (piece_row k p) (range_with_len 0 i)) → x ≡ f (piece_row k p i) → ys ≡ xs ++ x ∷ []
    → ys ≡ start ++ map f (map (piece_row k p) (range_with_len 0 (i + 1)))
row_pushed f k p start xs ys i x before here more =
    let rows = map (piece_row k p) (range_with_len 0 i) in
    more ∙ (λ j. before j ++ here j ∷ []) ∙ append_assoc start (map f rows) (f (piece_row k p i) ∷ [])
    ∙ ap (λ zs. start ++ zs) (sym (ap (map f) (piece_rows_more k p i) ∙ map_push f rows (piece_row k p i)))

-- of one piece more
pub piece_pushed : {A : Type 0} (f : Row → A) (k : Kind) (ps : List Piece) (i : ℕ) (p : Piece) (xs ys : List A)
    → i < length ps → p ≡ get_or ps i p → xs ≡ map f (pieces_rows k (take i ps)) → ys ≡ xs ++ map f (piece_rows k p)
    → ys ≡ map f (pieces_rows k (take (i + 1) ps))
piece_pushed f k ps i p xs ys inside at before more =
    more ∙ ap (λ zs. zs ++ map f (piece_rows k p)) before ∙ sym (map-append f (pieces_rows k (take i ps)) (piece_rows k p))
    ∙ ap (map f) (sym (pieces_rows_more k ps i p inside at))

-- the rows of the first pieces and of the next one can be counted
pub rows_fit : {A : Type 0} (f : Row → A) (k : Kind) (ps : List Piece) (n i : ℕ) (p : Piece) (xs : List A)
    → ArePieces k ps n → i < length ps → p ≡ get_or ps i p → xs ≡ map f (pieces_rows k (take i ps)) → length xs + piece_len p < 2 ^ 64
rows_fit f k ps n i p xs h inside at before =
    let rows = pieces_rows k (take i ps) in
    let within = piece_len_within ps i p inside at in
    omega (arith, ap length before, length-map rows f, length-pieces_rows k (take i ps), within, h.count, h.fits)

-- so can one row more of a piece
pub row_fits : {A : Type 0} (f : Row → A) (k : Kind) (p : Piece) (start xs : List A) (i : ℕ)
    → length start + piece_len p < 2 ^ 64 → i < piece_len p → xs ≡ start ++ map f (map (piece_row k p) (range_with_len 0 i))
    → length xs + 1 < 2 ^ 64
row_fits f k p start xs i fits inside before =
    let rows = map (piece_row k p) (range_with_len 0 i) in
    omega (arith, ap length before, length-append start (map f rows), length-map rows f, length-map-range_with_len (piece_row k p) 0 i)
