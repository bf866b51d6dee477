use Rattle.std.proofs.Common.{◌≡◌, map, sym, subst}
use Rattle.std.proofs.lemmas.Option.{IfSome_then}
use Rattle.vx_base.specs.Kinds.{integers}
use Rattle.vx_pack.proofs.WrittenBack.{bytes_of_rows}
use Rattle.vx_pack.specs.declared.pieces.Piece.{Piece}
use Rattle.vx_pack.specs.Packed.{bytes_of_numbers, number_or_zero}
use Rattle.vx_pack.specs.Pieces.{piece_rows}
use Rattle.vx_pack.proofs.pieces.Piece.number_bytes.Goals as goal

pub returns-in-Rows : goal.returns-in-Rows
returns-in-Rows c = λ n piece.
    let k = integers c.args.ptype n in
    IfSome_then c.number_bytes.result c.number_bytes.ensures (λ bytes h.
    subst (λ (p : Piece). bytes.now ≡ bytes_of_numbers c.args.ptype (map number_or_zero (piece_rows k p))) (sym c.in-Rows.is)
    (bytes_of_rows c.args.ptype k c.in-Rows.part bytes.now h))
