use Rattle.std.proofs.Common.{◌≡◌, ◌∙◌, ◌+◌, ◌++◌, ap, subst}
use Rattle.std.specs.Prelude.{◌&&◌}
use Rattle.vx_base.specs.Bits.{bool_at}
use Rattle.vx_base.specs.DTypes.{dtype_meaning}
use Rattle.vx_base.specs.Refusals.{Gives}
use Rattle.vx_base.specs.Rows.{truth_of}
use Rattle.vx_pack.proofs.StoredBits.{full_truths, rows_by_bits, told_truths}
use Rattle.vx_pack.specs.declared.parts.Part.TheVariants.{Array}
use Rattle.vx_pack.specs.declared.pieces.Piece.{Piece}
use Rattle.vx_pack.specs.declared.pieces.Piece.TheVariants.{Rows}
use Rattle.vx_pack.specs.Pieces.{piece_len, piece_row}
use Rattle.vx_pack.proofs.packed_bits.push_truths.Goals as goal

pub returns-in-Some-true : goal.returns-in-Some-true
returns-in-Some-true c =
    let k = dtype_meaning c.args.dtype.now in
    let a = c.in-Array.array in
    let start = c.in-Array.start in
    let len = c.in-Array.len in
    let truths = c.in-Some.truths.now.bits in
    let whole : c.args.piece ≡ Rows (Array a start len) = c.in-Rows.is ∙ ap Rows c.in-Array.is in
    subst (λ xs. Gives c.push_range.result (λ x. c.push_range.new.bits ≡ c.args.bits.now ++ xs))
    (rows_by_bits truth_of k c.args.piece a.now start len (λ i. bool_at truths (start + i)) (ap piece_len whole)
    (λ i. ap (λ (p : Piece). piece_row k p i) whole)
    (λ i. full_truths a.now truths c.in-Some.ensures (λ j. c.in-Some-true.ensures j ∙ c.in-Some-true.field-0-test) (start + i))) c.push_range.ensures

pub returns-in-Some-stored_presence : goal.returns-in-Some-stored_presence
returns-in-Some-stored_presence c =
    let k = dtype_meaning c.args.dtype.now in
    let a = c.in-Array.array in
    let start = c.in-Array.start in
    let len = c.in-Array.len in
    let truths = c.in-Some.truths.now.bits in
    let valid = c.in-Some-stored_presence.valid.now.bits in
    let whole : c.args.piece ≡ Rows (Array a start len) = c.in-Rows.is ∙ ap Rows c.in-Array.is in
    subst (λ xs. Gives c.push_both.result (λ x. c.push_both.new.bits ≡ c.args.bits.now ++ xs))
    (rows_by_bits truth_of k c.args.piece a.now start len (λ i. bool_at valid (start + i) && bool_at truths (start + i))
    (ap piece_len whole) (λ i. ap (λ (p : Piece). piece_row k p i) whole)
    (λ i. told_truths a.now truths valid c.in-Some.ensures c.in-Some-stored_presence.ensures (start + i))) c.push_both.ensures
