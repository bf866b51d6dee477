use Rattle.std.proofs.Common.{◌≡◌, ◌*◌, ◌/◌, ℕ, cond, length, sym, ap, ◌∙◌, subst, arith}
use Rattle.std.specs.Prelude.{pos}
use Rattle.std.proofs.Math.Nat.{mul-le-mul_right}
use Rattle.std.proofs.lemmas.List.{ext_get_or, length-replicate}
use Rattle.vx_base.specs.Integers.{byte_width, numbers, number_nth, Holds}
use Rattle.vx_base.proofs.NumberLists.{length_numbers, whole}
use Rattle.vx_base.proofs.RunLoops.{row_of_run}
use Rattle.vx_leaves.specs.Narrow.{zeroed}
use Rattle.vx_leaves.proofs.NarrowedRows.{zeroed_at, length-zeroed}
use Rattle.vx_leaves.proofs.NumbersPlaced.{zero_nth}
use Rattle.vx_leaves.proofs.RunRows.{runs_all, put_runs}
use Rattle.vx_leaves.proofs.narrow.put_numbers.Goals as goal

pub loop-run-init : goal.loop-run-init
loop-run-init g c = λ k. zero_nth g.U.NativePType.PTYPE (length c.args.mask.now) c.args.out.now k c.requires.zeroes

pub put_run-requires-clause-here : goal.put_run-requires-clause-here
put_run-requires-clause-here g c =
    let within = c.runs-run-items.ensures.apart.within c.loop-run.run-index (0, 0) c.loop-run-test.true in
    omega (arith, within, c.requires.same_len)

pub put_run-requires-clause-holds : goal.put_run-requires-clause-holds
put_run-requires-clause-holds g c = λ k low high.
    let mask = c.args.mask.now in
    let zs = numbers g.T.NativePType.PTYPE c.args.bytes.now in
    let runs = c.runs-run-items.result.now in
    let are = c.runs-run-items.ensures.apart in
    let within = are.within c.loop-run.run-index (0, 0) c.loop-run-test.true in
    let on = row_of_run mask runs c.loop-run.run-index k (0, 0) are c.runs-run-items.ensures.trues c.loop-run-test.true low high in
    subst (Holds g.U.NativePType.PTYPE) (zeroed_at mask zs k ∙ ap (λ b. cond b (number_nth zs k) (pos 0)) on)
    (c.requires.holds k (pos 0) (omega (arith, within, high, length-zeroed mask zs c.requires.same_len)))

pub put_run-requires-clause-room : goal.put_run-requires-clause-room
put_run-requires-clause-room g c =
    let u = g.U.NativePType.PTYPE in
    let within = c.runs-run-items.ensures.apart.within c.loop-run.run-index (0, 0) c.loop-run-test.true in
    let room = mul-le-mul_right (byte_width u) within in
    omega (arith, room, length-replicate {A = ℕ} (length c.args.mask.now * byte_width u) 0, ap length c.requires.zeroes, c.loop-run.auto.out)

pub loop-run-preserved : goal.loop-run-preserved
loop-run-preserved g c = λ k.
    let u = g.U.NativePType.PTYPE in
    let zs = numbers g.T.NativePType.PTYPE c.args.bytes.now in
    put_runs (length c.args.mask.now) c.runs-run-items.result.now c.loop-run.run-index (0, 0) k (number_nth zs k) (pos 0) (number_nth (numbers u c.loop-run.out) k) (number_nth (numbers u c.put_run.new.out) k) c.loop-run-test.true
    (c.loop-run.invariant k) (c.put_run.ensures.numbers k)

pub returns-clause-numbers : goal.returns-clause-numbers
returns-clause-numbers g c =
    let u = g.U.NativePType.PTYPE in
    let mask = c.args.mask.now in
    let zs = numbers g.T.NativePType.PTYPE c.args.bytes.now in
    let runs = c.runs-run-items.result.now in
    let out = c.loop-run.out in
    let size : length out ≡ length mask * byte_width u = c.loop-run.auto.out ∙ ap length c.requires.zeroes ∙ length-replicate {A = ℕ} (length mask * byte_width u) 0 in
    let count : length (numbers u out) ≡ length mask = length_numbers u out ∙ ap (λ n. n / byte_width u) size ∙ whole u (length mask) in
    ext_get_or (pos 0) (numbers u out) (zeroed mask zs) (count ∙ sym (length-zeroed mask zs c.requires.same_len)) (λ k inside.
    c.loop-run.invariant k
    ∙ ap (λ b. cond b (number_nth zs k) (pos 0)) (runs_all mask runs c.runs-run-items.ensures.apart c.runs-run-items.ensures.trues c.loop-run.run-index k (omega arith) (omega (arith, count)))
    ∙ sym (zeroed_at mask zs k))
