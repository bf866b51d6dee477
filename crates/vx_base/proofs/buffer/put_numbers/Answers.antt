use Rattle.std.proofs.Common.{◌≡◌, ◌-◌, ◌+◌, ◌*◌, ◌∷◌, ◌++◌, [], length, take, map, sym, ap, ◌∙◌, arith}
use Rattle.std.proofs.lemmas.List.{map_more}
use Rattle.vx_base.specs.Integers.{byte_width}
use Rattle.vx_base.proofs.NumberLists.{numbers_written, numbers_start}
use Rattle.vx_base.proofs.buffer.put_numbers.Goals as goal

pub loop-i-init : goal.loop-i-init
loop-i-init g c = numbers_start g.T.NativePType.PTYPE c.args.out.now

pub loop-i-preserved : goal.loop-i-preserved
loop-i-preserved g c =
    let t = g.T.NativePType.PTYPE in
    let value = g.T.Number.value in
    let width = c.byte_width-width.result in
    let xs = c.args.items.now in
    let i = c.loop-i.i in
    let x = c.index-items-i.result in
    let wide : width ≡ byte_width t = c.byte_width-width.ensures ∙ ap byte_width c.PTYPE.ensures in
    let more = map_more value xs i x c.loop-i-test.true in
    numbers_written t c.loop-i.out c.put_le.new.out width (length xs) i (i * width + width - i * width) (value x) (map value (take i xs)) wide c.put_le.ensures.bytes c.put_le.ensures.holds (omega arith) c.loop-i-test.true c.loop-i.invariant
    ∙ ap (λ y. map value (take i xs) ++ value y ∷ []) c.index-items-i.is ∙ sym more
