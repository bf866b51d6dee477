-- The rows of one piece that is a whole array.
use Rattle.std.proofs.Common.{◌≡◌, ◌∙◌, ◌+◌, ◌^◌, ◌<◌, ℕ, List, [], ◌∷◌, map, sym, ap, subst, arith, zero-add}
use Rattle.std.specs.List.{All, range_with_len}
use Rattle.std.proofs.lemmas.List.Elements.{All-cons, All-nil}
use Rattle.vx_base.specs.Kinds.{Kind, Fits}
use Rattle.vx_base.specs.Rows.{Row}
use Rattle.vx_tree.specs.Meaning.{kind_of, row_at, rows, tree_len}
use Rattle.vx_tree.specs.Tree.{Tree}
use Rattle.vx_tree.proofs.RowLists.{get_or-rows, length-rows}
use Rattle.vx_pack.specs.Parts.{IsPart, IsPartOf, part_len, part_row}
use Rattle.vx_pack.specs.Pieces.{ArePieces, IsPiece, pieces_rows}
use Rattle.vx_pack.specs.declared.parts.Part.{Part}
use Rattle.vx_pack.specs.declared.pieces.Piece.TheVariants as piece
use Rattle.vx_base.proofs.ListParts.{map_range_same}
use Rattle.vx_pack.proofs.PieceRows.{pieces_rows-one}

pub whole_pieces : (t : Tree) (k : Kind) (n : ℕ) (p : Part) → k ≡ kind_of t → n < 2 ^ 64 → IsPartOf t 0 n p
    → ArePieces k (piece.Rows p ∷ []) n
whole_pieces t k n p kind fits is = record {
  each = All-cons (IsPiece k) (piece.Rows p) [] (subst (λ x. IsPart x p) (sym kind) is.part) (All-nil (IsPiece k));
  count = zero-add (part_len p) ∙ is.len;
  fits = fits;
}

pub whole_rows : (t : Tree) (k : Kind) (n : ℕ) (p : Part) → n ≡ tree_len t → IsPartOf t 0 n p → pieces_rows k (piece.Rows p ∷ []) ≡ rows t
whole_rows t k n p all is =
    pieces_rows-one k (piece.Rows p)
    ∙ map_range_same (part_row k p) (row_at t) 0 0 (part_len p) (λ i inside. is.rows k (0 + i) ∙ ap (row_at t) (zero-add (0 + i)))
    ∙ ap (λ m. map (row_at t) (range_with_len 0 m)) (is.len ∙ all)

-- what is true of them, under the kind of the array
pub whole_told : (P : Kind → List Row → Type 0) (t : Tree) (k : Kind) (n : ℕ) (p : Part) → k ≡ kind_of t → n ≡ tree_len t → IsPartOf t 0 n p
    → P k (pieces_rows k (piece.Rows p ∷ [])) → P (kind_of t) (rows t)
whole_told P t k n p kind all is told = subst (λ x. P x (rows t)) kind (subst (P k) (whole_rows t k n p all is) told)

pub whole_fits : (t : Tree) (n : ℕ) (p : Part) → n ≡ tree_len t → IsPartOf t 0 n p → All (Fits (kind_of t)) (rows t)
whole_fits t n p all is i d l =
    let inside : i < tree_len t = omega (arith, length-rows t) in
    let here = is.part.fits i (omega (arith, is.len)) in
    subst (Fits (kind_of t)) (is.rows (kind_of t) i ∙ ap (row_at t) (zero-add i) ∙ sym (get_or-rows t i d inside)) here
