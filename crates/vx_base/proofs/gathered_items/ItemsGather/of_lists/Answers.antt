use Rattle.std.proofs.Common.{◌+◌, ◌*◌, ◌<◌, ◌≤◌, ◌++◌, length, get_or, take, map, subst, sym, ap, ◌∙◌, arith}
use Rattle.std.specs.List.{All, flat_map}
use Rattle.std.proofs.lemmas.List.{map-append, take_all}
use Rattle.vx_base.specs.Selections.{run_positions, list_positions, item_of_position}
use Rattle.vx_base.proofs.Runs.{All-run, runs_more}
use Rattle.vx_base.proofs.SizedLists.{list_is_run, list_below}
use Rattle.vx_base.proofs.gathered_items.ItemsGather.of_lists.Goals as goal

pub overflow_mul-start : goal.overflow_mul-start
overflow_mul-start g c =
    let ps = g.P.Places.positions c.args.lists in
    let n = length c.args.self.items.now in
    let list = All-run (λ k. k < n) (list_positions c.args.size) ps c.loop-i.i 0 (omega (arith, c.loop-i-test.true, c.count-i-end.ensures)) c.requires.within in
    let end : c.at.result * c.args.size + c.args.size ≤ n = rw c.at.ensures (list_below c.args.size n (get_or ps c.loop-i.i 0) list) in
    omega (arith, end)

pub overflow_add-start : goal.overflow_add-start
overflow_add-start g c =
    let ps = g.P.Places.positions c.args.lists in
    let n = length c.args.self.items.now in
    let list = All-run (λ k. k < n) (list_positions c.args.size) ps c.loop-i.i 0 (omega (arith, c.loop-i-test.true, c.count-i-end.ensures)) c.requires.within in
    let end : c.at.result * c.args.size + c.args.size ≤ n = rw c.at.ensures (list_below c.args.size n (get_or ps c.loop-i.i 0) list) in
    omega (arith, end)

pub append_items-requires : goal.append_items-requires
append_items-requires g c =
    let ps = g.P.Places.positions c.args.lists in
    let n = length c.args.self.items.now in
    let list = All-run (λ k. k < n) (list_positions c.args.size) ps c.loop-i.i 0 (omega (arith, c.loop-i-test.true, c.count-i-end.ensures)) c.requires.within in
    subst (All (λ k. k < n)) (sym (list_is_run c.args.size c.at.result)) (rw c.at.ensures list)

pub loop-i-preserved : goal.loop-i-preserved
loop-i-preserved g c = λ d.
    let size = c.args.size in
    let ps = g.P.Places.positions c.args.lists in
    let i = c.loop-i.i in
    let f = item_of_position d c.args.self.items.now in
    let k = c.at.result in
    c.in_ok-append_items.ensures d ∙ ap (λ xs. xs ++ map f (run_positions (k * size, k * size + size))) (c.loop-i.invariant d)
    ∙ ap (λ ks. map f (flat_map (list_positions size) (take i ps)) ++ map f ks) (list_is_run size k ∙ ap (list_positions size) c.at.ensures)
    ∙ sym (ap (map f) (runs_more (list_positions size) ps i 0 (omega (arith, c.loop-i-test.true, c.count-i-end.ensures))) ∙ map-append f (flat_map (list_positions size) (take i ps)) (list_positions size (get_or ps i 0)))

pub returns : goal.returns
returns g c = λ d.
    let ps = g.P.Places.positions c.args.lists in
    let f = item_of_position d c.args.self.items.now in
    c.loop-i.invariant d ∙ ap (λ ks. map f (flat_map (list_positions c.args.size) ks)) (take_all c.loop-i.i ps (omega (arith, c.loop-i-test.false, c.count-i-end.ensures)))
