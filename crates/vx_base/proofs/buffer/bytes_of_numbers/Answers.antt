use Rattle.std.proofs.Common.{rules, ◌≡◌, ◌≤◌, ◌+◌, ◌*◌, length, take, sym, ap, ◌∙◌, arith}
use Rattle.std.proofs.lemmas.List.{length-take-le}
use Rattle.vx_base.proofs.Blocks.{block_room, next_numbers, end_of_block}
use Rattle.std.specs.Prelude.{slice_range}
use Rattle.vx_base.proofs.ListParts.{length_part}
use Rattle.vx_base.proofs.NumberLists.{numbers_none}
use Rattle.vx_base.specs.Integers.{byte_width, numbers}
use Rattle.vx_base.proofs.buffer.bytes_of_numbers.Goals as goal

pub loop-at-init : goal.loop-at-init
loop-at-init g c = (ap (numbers g.T.NativePType.PTYPE) c.in_ok-bytes.ensures.items ∙ numbers_none g.T.NativePType.PTYPE, ap length c.in_ok-bytes.ensures.items ∙ omega arith)

pub loop-at-preserved : goal.loop-at-preserved
loop-at-preserved g c =
    let t = g.T.NativePType.PTYPE in
    let xs = c.args.items.now in
    let start = c.loop-at.at * 128 in
    let size = c.min-size.result in
    let wide : c.byte_width-width.result ≡ byte_width t = c.byte_width-width.ensures ∙ ap byte_width c.PTYPE.ensures in
    let room : size * c.byte_width-width.result ≤ 1024 = rw wide (block_room t size (omega (arith, c.min-size.ensures))) in
    let held : 1024 ≤ length c.loop-at.block = omega (arith, c.min-size.array_long) in
    let long : length c.put_numbers.new.out ≡ size * byte_width t = c.put_numbers.ensures.len ∙ length-take-le (size * c.byte_width-width.result) c.loop-at.block (omega (arith, room, held)) ∙ ap (λ n. size * n) wide in
    let within : start + size ≤ length xs = search rules in
    next_numbers t g.T.Number.value xs start size ((c.loop-at.at + 1) * 128) _ _ _ (end_of_block xs start size 128 (length xs) (omega arith) c.min-size.ensures ∙ ap (λ n. take n xs) (omega arith)) within
    c.loop-at.invariant.0 c.loop-at.invariant.1 c.put_numbers.ensures.numbers long c.in_ok-extend_from_slice.ensures.items

pub put_numbers-requires : goal.put_numbers-requires
put_numbers-requires g c =
    let t = g.T.NativePType.PTYPE in
    let xs = c.args.items.now in
    let start = c.loop-at.at * 128 in
    let size = c.min-size.result in
    let wide : c.byte_width-width.result ≡ byte_width t = c.byte_width-width.ensures ∙ ap byte_width c.PTYPE.ensures in
    let room : size * c.byte_width-width.result ≤ 1024 = rw wide (block_room t size (omega (arith, c.min-size.ensures))) in
    let within : start + size ≤ length xs = search rules in
    let long : length (slice_range xs start (start + size)) ≡ size = length_part xs start (start + size) (omega arith) within ∙ omega arith in
    length-take-le (size * c.byte_width-width.result) c.loop-at.block (omega (arith, room, c.min-size.array_long)) ∙ ap (λ n. size * n) wide ∙ ap (λ n. n * byte_width t) (sym long)
