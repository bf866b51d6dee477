use Rattle.std.proofs.Common.{◌+◌, ◌*◌, ◌<◌, ◌≤◌, length, get_or, take, subst, sym, ap, ◌∙◌, arith}
use Rattle.std.specs.List.{All, flat_map}
use Rattle.std.proofs.lemmas.List.{length-map}
use Rattle.std.proofs.lemmas.Bool.{leb-false, eqb-false}
use Rattle.std.proofs.lemmas.List.Folds.{length-flat_map-take}
use Rattle.vx_base.specs.Bits.{bool_at}
use Rattle.vx_base.specs.Selections.{list_positions}
use Rattle.vx_base.proofs.Runs.{All-run}
use Rattle.vx_base.proofs.SizedLists.{list_is_run, list_below, no_list_longer}
use Rattle.vx_base.proofs.gathered_bits.append_lists.Goals.{then-size-len, else-size-len}
use Rattle.vx_base.proofs.gathered_bits.append_lists.Goals as goal

pub prove-unreachable-requires : goal.prove-unreachable-requires
prove-unreachable-requires g c =
    let ps = g.P.Places.positions c.args.lists in
    let none = no_list_longer c.args.size (length c.args.bits.now.bits) ps c.requires.within in
    elim c.if-size-len.branch [
      | then-size-len w ↦ omega (arith, leb-false c.args.size c.len.result (sym w.prove-is ∙ c.if-prove.true), w.if-size-len.true)
      | else-size-len w ↦ eqb-false c.count-count.result 0 (sym w.prove-is ∙ c.if-prove.true) (c.count-count.ensures ∙ none (omega (arith, w.if-size-len.false, c.len.ensures)))
    ]

pub overflow_mul-start : goal.overflow_mul-start
overflow_mul-start g c =
    let ps = g.P.Places.positions c.args.lists in
    let n = length c.args.bits.now.bits in
    let list = All-run (λ k. k < n) (list_positions c.args.size) ps c.loop-i.i 0 (omega (arith, c.loop-i-test.true, c.count-count.ensures)) c.requires.within in
    let end : c.at.result * c.args.size + c.args.size ≤ n = rw c.at.ensures (list_below c.args.size n (get_or ps c.loop-i.i 0) list) in
    omega (arith, end, c.len.ensures)

pub overflow_add-start : goal.overflow_add-start
overflow_add-start g c =
    let ps = g.P.Places.positions c.args.lists in
    let n = length c.args.bits.now.bits in
    let list = All-run (λ k. k < n) (list_positions c.args.size) ps c.loop-i.i 0 (omega (arith, c.loop-i-test.true, c.count-count.ensures)) c.requires.within in
    let end : c.at.result * c.args.size + c.args.size ≤ n = rw c.at.ensures (list_below c.args.size n (get_or ps c.loop-i.i 0) list) in
    omega (arith, end, c.len.ensures)

pub append_run-requires-clause-within : goal.append_run-requires-clause-within
append_run-requires-clause-within g c =
    let ps = g.P.Places.positions c.args.lists in
    let n = length c.args.bits.now.bits in
    let list = All-run (λ k. k < n) (list_positions c.args.size) ps c.loop-i.i 0 (omega (arith, c.loop-i-test.true, c.count-count.ensures)) c.requires.within in
    subst (All (λ k. k < n)) (sym (list_is_run c.args.size c.at.result)) (rw c.at.ensures list)

pub append_run-requires-clause-countable : goal.append_run-requires-clause-countable
append_run-requires-clause-countable g c =
    let ps = g.P.Places.positions c.args.lists in
    let size = c.args.size in
    let i = c.loop-i.i in
    let long = ap length c.loop-i.invariant ∙ length-map (flat_map (list_positions size) (take i ps)) (bool_at c.args.bits.now.bits) in
    let more = length-flat_map-take (list_positions size) ps i 0 (omega (arith, c.loop-i-test.true, c.count-count.ensures)) in
    let here = ap (λ k. length (list_positions size k)) (sym c.at.ensures) in
    let same = ap length (list_is_run size c.at.result) in
    omega (arith, long, more, here, same, c.requires.len)
