-- The rows of pieces, one after another.
use Rattle.std.proofs.Common.{◌≡◌, ◌∙◌, ◌+◌, ◌<◌, ◌≤◌, ℕ, zero, suc, List, [], ◌∷◌, ◌++◌, length, map, replicate, take, get_or, sum, refl}
use Rattle.std.proofs.Common.{sym, ap, subst, arith}
use Rattle.std.specs.List.{All, range_with_len}
use Rattle.std.proofs.lemmas.List.{append-nil, length-append, take_more}
use Rattle.std.proofs.lemmas.List.Concat.{flat_map-append}
use Rattle.std.proofs.lemmas.List.FromFn.{get_or-map-range_with_len, length-map-range_with_len, map-range_with_len_more}
use Rattle.std.proofs.lemmas.List.Sums.{sum-map, sum_by-cons, sum_by_more_le}
use Rattle.vx_base.specs.Kinds.{Kind}
use Rattle.vx_pack.specs.declared.pieces.Piece.{Piece}
use Rattle.vx_pack.specs.declared.pieces.Piece.TheVariants as piece
use Rattle.vx_pack.specs.Pieces.{IsPiece, IsWithinPiece, piece_len, piece_row, piece_rows, pieces_rows}

-- ---- lists that a function tells by place

pub map-range_with_len-replicate : {A : Type 0} (x : A) (a n : ℕ) → map (λ i. x) (range_with_len a n) ≡ replicate n x
map-range_with_len-replicate x a zero = refl
map-range_with_len-replicate x a (suc n) = ap (λ xs. x ∷ xs) (map-range_with_len-replicate x (a + 1) n)

pub All-range_with_len : {A : Type 0} (P : A → Type 0) (f : ℕ → A) (n : ℕ) → ((i : ℕ) → i < n → P (f i))
    → All P (map f (range_with_len 0 n))
All-range_with_len P f n each i d l =
    let inside : i < n = omega (arith, length-map-range_with_len f 0 n) in
    subst P (sym (get_or-map-range_with_len f 0 n i i d inside (omega arith))) (each i inside)

-- ---- the rows of a piece

pub length-piece_rows : (k : Kind) (p : Piece) → length (piece_rows k p) ≡ piece_len p
length-piece_rows k p = length-map-range_with_len (piece_row k p) 0 (piece_len p)

-- its first rows, and the next one
pub piece_rows_more : (k : Kind) (p : Piece) (i : ℕ)
    → map (piece_row k p) (range_with_len 0 (i + 1)) ≡ map (piece_row k p) (range_with_len 0 i) ++ piece_row k p i ∷ []
piece_rows_more k p i = map-range_with_len_more (piece_row k p) 0 i i (omega arith)

-- ---- the rows of pieces

pub pieces_rows-append : (k : Kind) (ps qs : List Piece) → pieces_rows k (ps ++ qs) ≡ pieces_rows k ps ++ pieces_rows k qs
pieces_rows-append k ps qs = flat_map-append (piece_rows k) ps qs

pub pieces_rows-one : (k : Kind) (p : Piece) → pieces_rows k (p ∷ []) ≡ piece_rows k p
pieces_rows-one k p = append-nil (piece_rows k p)

-- those of the first pieces, and of the next one
pub pieces_rows_more : (k : Kind) (ps : List Piece) (i : ℕ) (p : Piece) → i < length ps → p ≡ get_or ps i p
    → pieces_rows k (take (i + 1) ps) ≡ pieces_rows k (take i ps) ++ piece_rows k p
pieces_rows_more k ps i p l at =
    ap (pieces_rows k) (take_more ps i p l)
    ∙ pieces_rows-append k (take i ps) (get_or ps i p ∷ [])
    ∙ ap (λ rs. pieces_rows k (take i ps) ++ rs) (ap (λ q. pieces_rows k (q ∷ [])) (sym at) ∙ pieces_rows-one k p)

pub length-pieces_rows : (k : Kind) (ps : List Piece) → length (pieces_rows k ps) ≡ sum (map piece_len ps)
length-pieces_rows k [] = refl
length-pieces_rows k (p ∷ ps) =
    omega (
      arith,
      length-append (piece_rows k p) (pieces_rows k ps),
      length-piece_rows k p,
      length-pieces_rows k ps,
      sum_by-cons
          (λ (n : ℕ). n) (piece_len p) (map piece_len ps),
    )

-- the first pieces and the next one have no more rows than all
pub piece_len_within : (ps : List Piece) (i : ℕ) (p : Piece) → i < length ps → p ≡ get_or ps i p
    → sum (map piece_len (take i ps)) + piece_len p ≤ sum (map piece_len ps)
piece_len_within ps i p l at =
    omega (arith, sum_by_more_le piece_len ps i p l, sum-map piece_len (take i ps), sum-map piece_len ps, ap piece_len at)

-- rows of a kind stand there
pub piece_within : (k : Kind) (p : Piece) → IsPiece k p → IsWithinPiece p
piece_within k (piece.Rows p) is = is.within
piece_within k (piece.Blank n) is = is
