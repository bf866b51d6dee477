use Rattle.std.proofs.Common.{◌≡◌, ◌-◌, ◌<◌, ◌++◌, [], length, take, replicate, get_or, vec_len, sym, subst, ap, ◌∙◌, arith}
use Rattle.std.proofs.lemmas.List.{get_or_default, get_or-replicate, length-replicate, take_all}
use Rattle.vx_base.specs.Selections.{item_of_position}
use Rattle.vx_base.proofs.Repeated.{map_repeated}
use Rattle.vx_base.proofs.gathered_items.ItemsGather.repeated.Goals as goal

pub returns : goal.returns
returns g c = λ d.
    let xs = c.args.self.items.now in
    let k = c.args.position in
    let len = c.args.len in
    let x = get_or xs k c.index-self-position.result in
    let within : k < length xs = subst (λ n. n < length xs) (get_or-replicate len 0 k 0 (omega arith)) (c.requires 0 0 (omega (arith, length-replicate len k))) in
    let none : take len c.in_ok-picked.picked.items ≡ [] = ap (take len) c.in_ok-picked.ensures.items ∙ take_all len [] (omega arith) in
    let count : len - vec_len c.in_ok-picked.picked ≡ len = omega (arith, c.in_ok-picked.ensures.len) in
    c.in_ok-resize.ensures.items ∙ ap (λ ys. ys ++ replicate (len - vec_len c.in_ok-picked.picked) x) none ∙ ap (λ n. replicate n x) count
    ∙ ap (replicate len) (get_or_default xs k c.index-self-position.result d within) ∙ sym (map_repeated (item_of_position d xs) k len)
