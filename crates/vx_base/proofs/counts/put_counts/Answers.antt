use Rattle.std.proofs.Common.{◌≡◌, ◌-◌, ◌+◌, ◌*◌, length, take, map, sym, ap, ◌∙◌, arith, get_or, refl}
use Rattle.std.specs.Prelude.{pos}
use Rattle.std.proofs.lemmas.List.{map_more}
use Rattle.vx_base.specs.Integers.{byte_width, bytes_of}
use Rattle.vx_base.proofs.NumberLists.{numbers_written, numbers_start}
use Rattle.vx_base.proofs.Positions.{signed_position}
use Rattle.vx_base.proofs.counts.put_counts.Goals as goal

pub loop-i-init : goal.loop-i-init
loop-i-init g c = numbers_start g.T.NativePType.PTYPE c.args.out.now

pub loop-i-preserved : goal.loop-i-preserved
loop-i-preserved g c =
    let t = g.T.NativePType.PTYPE in
    let width = c.byte_width-width.result in
    let xs = c.args.counts.now in
    let i = c.loop-i.i in
    let n = get_or xs i 0 in
    let wide : width ≡ byte_width t = c.byte_width-width.ensures ∙ ap byte_width c.PTYPE.ensures in
    let written : c.put_int.new.out ≡ bytes_of t (pos n) = c.put_int.ensures ∙ rw (c.PTYPE-in-loop-i.ensures, signed_position n (c.type_inv.counts i).fits) refl in
    numbers_written t c.loop-i.out c.put_int.new.out width (length xs) i (i * width + width - i * width) (pos n) (map pos (take i xs)) wide written (c.requires.holds i 0 c.loop-i-test.true) (omega arith) c.loop-i-test.true c.loop-i.invariant
    ∙ sym (map_more pos xs i 0 c.loop-i-test.true)
