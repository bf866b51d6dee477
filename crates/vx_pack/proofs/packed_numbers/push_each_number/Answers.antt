use Rattle.std.proofs.Common.{◌≡◌, ◌++◌, ◌∙◌, map, sym, subst, arith}
use Rattle.std.specs.Int.{w128, cast_signed, cast_unsigned}
use Rattle.std.specs.List.{range_with_len}
use Rattle.vx_base.proofs.NumberBytes.{number_passed}
use Rattle.vx_base.specs.Integers.{Holds}
use Rattle.vx_base.specs.Kinds.{integers}
use Rattle.vx_pack.proofs.WrittenBack.{number_pushed}
use Rattle.vx_pack.specs.Packed.{bytes_of_numbers, number_or_zero}
use Rattle.vx_pack.specs.Pieces.{piece_len, piece_row}
use Rattle.vx_pack.proofs.packed_numbers.push_each_number.Goals as goal

pub push_number-requires : goal.push_number-requires
push_number-requires c =
    let held = (c.number_or_zero.ensures c.requires.0 c.requires.1).1 in
    subst (Holds c.args.ptype) (sym (number_passed c.args.ptype c.number_or_zero.result held)) held

pub loop-i-preserved : goal.loop-i-preserved
loop-i-preserved c = λ n piece.
    let t = c.args.ptype in
    let z = c.number_or_zero.result in
    let read = c.number_or_zero.ensures n piece in
    number_pushed t (integers t n) c.args.piece c.args.bytes.now.items c.loop-i.bytes.items c.push_number.new.bytes.items
    c.loop-i.i (cast_signed w128 (cast_unsigned w128 z)) (c.loop-i.invariant n piece)
    (number_passed t z read.1 ∙ read.0) c.in_ok-push_number.ensures

pub returns : goal.returns
returns c = λ n piece.
    let t = c.args.ptype in
    let row = piece_row (integers t n) c.args.piece in
    let done : c.loop-i.i ≡ piece_len c.args.piece = omega (arith, c.len-i-end.ensures) in
    subst (λ m. c.loop-i.bytes.items
    ≡ c.args.bytes.now.items ++ bytes_of_numbers t (map number_or_zero (map row (range_with_len 0 m)))) done
    (c.loop-i.invariant n piece)
