use Rattle.std.proofs.Common.{map, sym, subst}
use Rattle.std.proofs.lemmas.Option.{IfSome_then}
use Rattle.vx_base.specs.Kinds.{integers}
use Rattle.vx_pack.specs.declared.pieces.Piece.{Piece}
use Rattle.vx_pack.specs.Packed.{number_or_zero}
use Rattle.vx_pack.specs.Pieces.{piece_rows}
use Rattle.vx_pack.specs.StoredNumbers.{AreStoredNumbers}
use Rattle.vx_pack.proofs.pieces.Piece.stored_numbers.Goals as goal

pub returns-in-Rows : goal.returns-in-Rows
returns-in-Rows c =
    IfSome_then c.stored_numbers.result c.stored_numbers.ensures (λ s h n piece.
    subst (λ (p : Piece). AreStoredNumbers c.args.ptype (map number_or_zero (piece_rows (integers c.args.ptype n) p)) s) (sym c.in-Rows.is)
    (h (integers c.args.ptype n)))
