use Rattle.std.proofs.Common.{◌≡◌, ◌∙◌, ◌+◌, ◌++◌, ap, subst}
use Rattle.vx_base.specs.Bits.{bool_at}
use Rattle.vx_base.specs.DTypes.{dtype_meaning}
use Rattle.vx_base.specs.Refusals.{Gives}
use Rattle.vx_base.specs.Rows.{is_present}
use Rattle.vx_pack.proofs.StoredBits.{rows_alike, rows_by_bits}
use Rattle.vx_pack.specs.declared.parts.Part.TheVariants.{Array}
use Rattle.vx_pack.specs.declared.pieces.Piece.{Piece}
use Rattle.vx_pack.specs.declared.pieces.Piece.TheVariants.{Rows}
use Rattle.vx_pack.specs.Pieces.{piece_len, piece_row}
use Rattle.vx_pack.proofs.packed_bits.push_present.Goals as goal

pub returns-in-Some : goal.returns-in-Some
returns-in-Some c =
    let k = dtype_meaning c.args.dtype.now in
    subst (λ xs. Gives c.push_same.result (λ x. c.push_same.new.bits ≡ c.args.bits.now ++ xs))
    (rows_alike is_present k c.args.piece c.len.result c.in-Some.present c.len.ensures
    (λ i. c.in-Some.ensures k i c.requires.nullable)) c.push_same.ensures

pub returns-in-Some-stored_presence : goal.returns-in-Some-stored_presence
returns-in-Some-stored_presence c =
    let k = dtype_meaning c.args.dtype.now in
    let a = c.in-Array.array in
    let start = c.in-Array.start in
    let len = c.in-Array.len in
    let valid = c.in-Some-stored_presence.valid.now.bits in
    let whole : c.args.piece ≡ Rows (Array a start len) = c.in-Rows.is ∙ ap Rows c.in-Array.is in
    subst (λ xs. Gives c.push_range.result (λ x. c.push_range.new.bits ≡ c.args.bits.now ++ xs))
    (rows_by_bits is_present k c.args.piece a.now start len (λ i. bool_at valid (start + i)) (ap piece_len whole)
    (λ i. ap (λ (p : Piece). piece_row k p i) whole) (λ i. c.in-Some-stored_presence.ensures.rows (start + i))) c.push_range.ensures
