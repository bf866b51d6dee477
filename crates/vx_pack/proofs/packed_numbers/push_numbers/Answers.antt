use Rattle.std.proofs.Common.{◌≡◌, ◌∙◌, ◌++◌, Bool, map, ap}
use Rattle.vx_base.proofs.Refused.{Gives-weaker}
use Rattle.vx_base.specs.Integers.{byte_width}
use Rattle.vx_base.specs.Kinds.{integers}
use Rattle.vx_pack.specs.Packed.{bytes_of_numbers, number_or_zero}
use Rattle.vx_pack.specs.Pieces.{IsPiece, piece_rows}
use Rattle.vx_pack.specs.StoredNumbers.{all_stored_bytes}
use Rattle.vx_pack.proofs.packed_numbers.push_numbers.Goals as goal

pub returns-in-Some : goal.returns-in-Some
returns-in-Some c = λ n piece.
    c.in_ok-extend_from_slice.ensures.items ∙ ap (λ bs. c.args.bytes.now.items ++ bs) (c.in-Some.ensures n piece)

pub push_stored-requires : goal.push_stored-requires
push_stored-requires c = (c.in-Some-stored_numbers.ensures c.requires.0 c.requires.1).bits

pub returns-in-Some-stored_numbers : goal.returns-in-Some-stored_numbers
returns-in-Some-stored_numbers c =
    let t = c.args.ptype in
    let old = c.args.bytes.now.items in
    let new = c.push_stored.new.bytes.items in
    Gives-weaker c.push_stored.result (λ x. new ≡ old ++ all_stored_bytes (byte_width t) c.in-Some-stored_numbers.stored)
    (λ x. (n : Bool) → IsPiece (integers t n) c.args.piece →
    new ≡ old ++ bytes_of_numbers t (map number_or_zero (piece_rows (integers t n) c.args.piece)))
    (λ x given n piece. given ∙ ap (λ bs. old ++ bs) (c.in-Some-stored_numbers.ensures n piece).bytes) c.push_stored.ensures
