use Rattle.std.proofs.Common.{◌≡◌, ◌-◌, ◌+◌, ◌*◌, ◌∷◌, ◌++◌, [], length, map, sym, ap, ◌∙◌, zero-add, arith}
use Rattle.std.specs.List.{range_with_len}
use Rattle.std.proofs.lemmas.List.FromFn.{map-range_with_len_more}
use Rattle.vx_base.specs.Integers.{numbers, byte_width, bytes_of, Holds}
use Rattle.vx_base.proofs.NumberBytes.{number_passed}
use Rattle.vx_base.proofs.NumberLists.{numbers_written, numbers_start}
use Rattle.vx_tree.specs.Named.{number_under}
use Rattle.vx_tree.proofs.indices.masked.put_valid_numbers.Goals as goal

pub loop-row-init : goal.loop-row-init
loop-row-init g c = numbers_start g.T.NativePType.PTYPE c.args.out.now

pub loop-row-preserved : goal.loop-row-preserved
loop-row-preserved g c =
    let t = g.T.NativePType.PTYPE in
    let width = c.byte_width-width.result in
    let zs = numbers t c.args.bytes.now in
    let f = number_under zs c.args.valid.now.bits in
    let row = c.loop-row.row in
    let z = c.valid_number-number.result in
    let wide : width ≡ byte_width t = c.byte_width-width.ensures ∙ ap byte_width c.PTYPE.ensures in
    let value : z ≡ f row = rw c.PTYPE-in-loop-row.ensures at c.valid_number-number.ensures.value in
    let holds : Holds t z = rw c.PTYPE-in-loop-row.ensures at c.valid_number-number.ensures.holds in
    let written : c.put_int.new.out ≡ bytes_of t z = (rw c.PTYPE-in-loop-row-2.ensures at c.put_int.ensures) ∙ ap (bytes_of t) (number_passed t z holds) in
    numbers_written t c.loop-row.out c.put_int.new.out width (length zs) row (row * width + width - row * width) z (map f (range_with_len 0 row)) wide written holds (omega arith) (omega arith) c.loop-row.invariant
    ∙ ap (λ y. map f (range_with_len 0 row) ++ y ∷ []) value ∙ sym (map-range_with_len_more f 0 row row (zero-add row))
