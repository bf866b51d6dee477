use Rattle.std.proofs.Common.{◌≡◌, ◌-◌, ◌+◌, ◌*◌, length, take, map, sym, ap, ◌∙◌, arith, get_or, None}
use Rattle.std.proofs.lemmas.List.{map_more, get_or_default}
use Rattle.vx_base.specs.Integers.{bytes_of}
use Rattle.vx_base.proofs.NumberLists.{numbers_written, numbers_start}
use Rattle.vx_canonical.specs.PlainValues.{number_or_zero}
use Rattle.vx_canonical.proofs.canonical_values.put_numbers.Goals as goal

pub loop-i-init : goal.loop-i-init
loop-i-init c = numbers_start c.args.ptype c.args.out.now

pub loop-i-preserved : goal.loop-i-preserved
loop-i-preserved c =
    let t = c.args.ptype in
    let width = c.byte_width-width.result in
    let xs = c.args.values.now in
    let i = c.loop-i.i in
    let v = get_or xs i None in
    let here : c.index-values-i.result ≡ v = c.index-values-i.is ∙ get_or_default xs i c.index-values-i.result None c.loop-i-test.true in
    let written : c.put_value.new.out ≡ bytes_of t (number_or_zero v) = c.put_value.ensures ∙ ap (λ x. bytes_of t (number_or_zero x)) here in
    numbers_written t c.loop-i.out c.put_value.new.out width (length xs) i (i * width + width - i * width) (number_or_zero v) (map number_or_zero (take i xs)) c.byte_width-width.ensures written (c.requires.holds i None c.loop-i-test.true) (omega arith) c.loop-i-test.true c.loop-i.invariant
    ∙ sym (map_more number_or_zero xs i None c.loop-i-test.true)
