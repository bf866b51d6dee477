-- The rows of pieces fit, where default rows do.
use Rattle.std.proofs.Common.{◌<◌, ℕ, List, get_or}
use Rattle.std.specs.List.{All}
use Rattle.vx_base.specs.Defaults.{default_row}
use Rattle.vx_base.specs.Kinds.{Kind, Fits}
use Rattle.vx_pack.specs.Parts.{part_len, part_row}
use Rattle.vx_pack.specs.Pieces.{IsPiece, piece_len, piece_row, piece_rows, pieces_rows}
use Rattle.vx_pack.specs.declared.pieces.Piece.{Piece}
use Rattle.vx_pack.specs.declared.pieces.Piece.TheVariants as piece
use Rattle.vx_pack.proofs.JoinedLists.{All-flat_map}
use Rattle.vx_pack.proofs.PieceRows.{All-range_with_len}

pub piece_fits : (k : Kind) (p : Piece) → Fits k (default_row k) → IsPiece k p → All (Fits k) (piece_rows k p)
piece_fits k (piece.Rows p) default is = All-range_with_len (Fits k) (part_row k p) (part_len p) is.fits
piece_fits k (piece.Blank n) default is = All-range_with_len (Fits k) (λ i. default_row k) n (λ i l. default)

pub pieces_fit : (k : Kind) (ps : List Piece) → Fits k (default_row k) → All (IsPiece k) ps → All (Fits k) (pieces_rows k ps)
pieces_fit k ps default each = All-flat_map (Fits k) (piece_rows k) ps (λ i d l. piece_fits k (get_or ps i d) default (each i d l))

pub row_fits_at : (k : Kind) (p : Piece) (i : ℕ) → Fits k (default_row k) → IsPiece k p → i < piece_len p → Fits k (piece_row k p i)
row_fits_at k (piece.Rows p) i default is l = is.fits i l
row_fits_at k (piece.Blank n) i default is l = default
