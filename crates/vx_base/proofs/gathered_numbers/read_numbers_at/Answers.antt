use Rattle.std.proofs.Common.{◌≡◌, ◌<◌, ◌≤◌, ◌+◌, ◌*◌, ◌∷◌, ◌++◌, [], length, get_or, drop, take, map, sym, ap, ◌∙◌, arith}
use Rattle.std.proofs.lemmas.List.{take_more_set, map_more, get_or-drop, length-drop}
use Rattle.vx_base.proofs.Chunks.{whole_chunk}
use Rattle.vx_base.specs.Selections.{bytes_of_position}
use Rattle.vx_base.proofs.gathered_numbers.read_numbers_at.Goals as goal

pub loop-i-preserved : goal.loop-i-preserved
loop-i-preserved g c =
    let w = g.row.WIDTH in
    let f = bytes_of_position w c.args.bytes.now in
    let ps = g.P.Places.positions c.args.places in
    let i = c.loop-i.i in
    let here : c.args.start + i < length ps = omega (arith, c.requires.room, c.loop-i-test.true) in
    let within : i < length (drop c.args.start ps) = omega (arith, length-drop c.args.start ps, here) in
    let room : c.at.result * w + w ≤ length c.args.bytes.now = rw (sym c.at.ensures) at (c.requires.within (c.args.start + i) 0 here) in
    let read : c.index-numbers-at.result ≡ f c.at.result = whole_chunk w c.at.result c.args.bytes.now _ _ _ c.requires.some room c.as_chunks.ensures.front c.index-numbers-at.is in
    let number : c.index-numbers-at.result ≡ f (get_or (drop c.args.start ps) i 0) = read ∙ ap f (c.at.ensures ∙ sym (get_or-drop c.args.start ps i 0)) in
    take_more_set c.loop-i.out i c.index-numbers-at.result (omega (arith, c.loop-i-test.true, c.loop-i.auto.out)) ∙ ap (λ xs. xs ++ c.index-numbers-at.result ∷ []) c.loop-i.invariant
    ∙ ap (λ y. map f (take i (drop c.args.start ps)) ++ y ∷ []) number ∙ sym (map_more f (drop c.args.start ps) i 0 within)
