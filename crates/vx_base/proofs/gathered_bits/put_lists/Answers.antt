use Rattle.std.proofs.Common.{◌+◌, ◌*◌, ◌<◌, ◌≤◌, get_or, length, refl, subst, sym, ap, ◌∙◌, arith}
use Rattle.std.specs.List.{All}
use Rattle.std.proofs.lemmas.Bool.{leb-false, eqb-false}
use Rattle.std.proofs.lemmas.List.Folds.{length-flat_map-take}
use Rattle.vx_base.specs.Selections.{list_positions}
use Rattle.vx_base.proofs.PackedBits.{unpacked_none}
use Rattle.vx_base.proofs.Runs.{All-run}
use Rattle.vx_base.proofs.SizedLists.{list_is_run, list_below, no_list_longer}
use Rattle.vx_base.proofs.gathered_bits.put_lists.Goals.{then-size-len, else-size-len}
use Rattle.vx_base.proofs.gathered_bits.put_lists.Goals as goal

pub prove-unreachable-requires : goal.prove-unreachable-requires
prove-unreachable-requires g c =
    let ps = g.P.Places.positions c.args.lists in
    let none = no_list_longer c.args.size (length c.args.bits.now.bits) ps c.requires.within in
    elim c.if-size-len.branch [
      | then-size-len w ↦ omega (arith, leb-false c.args.size c.len.result (sym w.prove-is ∙ c.if-prove.true), w.if-size-len.true)
      | else-size-len w ↦ eqb-false c.count-count.result 0 (sym w.prove-is ∙ c.if-prove.true) (c.count-count.ensures ∙ none (omega (arith, w.if-size-len.false, c.len.ensures)))
    ]

pub overflow_mul-start : goal.overflow_mul-start
overflow_mul-start g c =
    let ps = g.P.Places.positions c.args.lists in
    let n = length c.args.bits.now.bits in
    let list = All-run (λ k. k < n) (list_positions c.args.size) ps c.loop-i.i 0 (omega (arith, c.loop-i-test.true, c.count-count.ensures)) c.requires.within in
    let end : c.at.result * c.args.size + c.args.size ≤ n = rw c.at.ensures (list_below c.args.size n (get_or ps c.loop-i.i 0) list) in
    omega (arith, end, c.len.ensures)

pub overflow_add-start : goal.overflow_add-start
overflow_add-start g c =
    let ps = g.P.Places.positions c.args.lists in
    let n = length c.args.bits.now.bits in
    let list = All-run (λ k. k < n) (list_positions c.args.size) ps c.loop-i.i 0 (omega (arith, c.loop-i-test.true, c.count-count.ensures)) c.requires.within in
    let end : c.at.result * c.args.size + c.args.size ≤ n = rw c.at.ensures (list_below c.args.size n (get_or ps c.loop-i.i 0) list) in
    omega (arith, end, c.len.ensures)

pub loop-i-init : goal.loop-i-init
loop-i-init g c = (refl, unpacked_none c.args.out.now 0)

pub put_run-at-requires-clause-within : goal.put_run-at-requires-clause-within
put_run-at-requires-clause-within g c =
    let ps = g.P.Places.positions c.args.lists in
    let n = length c.args.bits.now.bits in
    let list = All-run (λ k. k < n) (list_positions c.args.size) ps c.loop-i.i 0 (omega (arith, c.loop-i-test.true, c.count-count.ensures)) c.requires.within in
    subst (All (λ k. k < n)) (sym (list_is_run c.args.size c.at.result)) (rw c.at.ensures list)

pub put_run-at-requires-clause-room : goal.put_run-at-requires-clause-room
put_run-at-requires-clause-room g c =
    let ps = g.P.Places.positions c.args.lists in
    let size = c.args.size in
    let more = length-flat_map-take (list_positions size) ps c.loop-i.i 0 (omega (arith, c.loop-i-test.true, c.count-count.ensures)) in
    let here = ap (λ k. length (list_positions size k)) (sym c.at.ensures) in
    let same = ap length (list_is_run size c.at.result) in
    omega (arith, more, here, same, c.loop-i.invariant.0, c.requires.room)

pub put_run-at-requires-clause-fits : goal.put_run-at-requires-clause-fits
put_run-at-requires-clause-fits g c =
    let ps = g.P.Places.positions c.args.lists in
    let size = c.args.size in
    let more = length-flat_map-take (list_positions size) ps c.loop-i.i 0 (omega (arith, c.loop-i-test.true, c.count-count.ensures)) in
    let here = ap (λ k. length (list_positions size k)) (sym c.at.ensures) in
    let same = ap length (list_is_run size c.at.result) in
    omega (arith, more, here, same, c.loop-i.invariant.0, c.requires.fits)
