use Rattle.std.proofs.Common.{◌≡◌, ◌+◌, ◌*◌, ◌/◌, ℕ, Bool, cond, length, get_or, take, count_by, sym, ◌∙◌, ap, arith}
use Rattle.std.specs.Prelude.{pos}
use Rattle.std.proofs.Math.Nat.{mul-le-mul_right}
use Rattle.std.proofs.lemmas.List.{ext_get_or, length-take, length-replicate}
use Rattle.std.proofs.lemmas.List.Sums.{count_by-le-length}
use Rattle.vx_base.specs.Integers.{numbers, number_nth, byte_width}
use Rattle.vx_base.proofs.NumberLists.{length_numbers, whole}
use Rattle.vx_base.proofs.RunLoops.{row_of_run}
use Rattle.vx_leaves.specs.Spread.{spread}
use Rattle.vx_leaves.proofs.NumbersPlaced.{zero_nth}
use Rattle.vx_leaves.proofs.RunRows.{start_of, start_is, start_within, gap_first, gap_after, end_before, runs_all, count_gap, count_run}
use Rattle.vx_leaves.proofs.SpreadRows.{spread_at, spread_run, length-spread}
use Rattle.vx_leaves.proofs.spread.put_spread.Goals as goal

pub loop-run-init : goal.loop-run-init
loop-run-init c =
    let mask = c.args.mask.now in
    let runs = c.runs-run-items.result.now in
    let are = c.runs-run-items.ensures.apart in
    let same = c.runs-run-items.ensures.trues in
    record {
      counted = sym (count_gap mask 0 (start_of (length mask) runs 0) (omega arith) (start_within mask runs are same 0) (λ k low high. gap_first mask runs are same k high));
      written = λ k. zero_nth c.args.ptype (length mask) c.args.out.now k c.requires;
    }

pub put_values-requires-clause-room : goal.put_values-requires-clause-room
put_values-requires-clause-room c =
    let within = c.runs-run-items.ensures.apart.within c.loop-run.run-index (0, 0) c.loop-run-test.true in
    let room = mul-le-mul_right (byte_width c.args.ptype) within in
    omega (arith, room, length-replicate {A = ℕ} (length c.args.mask.now * byte_width c.args.ptype) 0, ap length c.requires, c.loop-run.auto.out)

pub overflow_add-next : goal.overflow_add-next
overflow_add-next c =
    let mask = c.args.mask.now in
    let runs = c.runs-run-items.result.now in
    let are = c.runs-run-items.ensures.apart in
    let same = c.runs-run-items.ensures.trues in
    let i = c.loop-run.run-index in
    let there = c.loop-run-test.true in
    let run = get_or runs i (0, 0) in
    let start = start_is mask runs are same i (0, 0) there in
    let filled = are.filled i (0, 0) there in
    let more = count_run mask run.0 run.1 (omega arith) (are.within i (0, 0) there) (λ k low high. row_of_run mask runs i k (0, 0) are same there low high) in
    omega (arith, more, c.loop-run.invariant.counted, ap (λ n. count_by (λ b. b) (take n mask)) start, count_by-le-length (λ (b : Bool). b) (take run.1 mask), length-take run.1 mask)

pub loop-run-preserved : goal.loop-run-preserved
loop-run-preserved c =
    let mask = c.args.mask.now in
    let vs = numbers c.args.ptype c.args.values.now in
    let runs = c.runs-run-items.result.now in
    let are = c.runs-run-items.ensures.apart in
    let same = c.runs-run-items.ensures.trues in
    let i = c.loop-run.run-index in
    let there = c.loop-run-test.true in
    let run = get_or runs i (0, 0) in
    let start = start_is mask runs are same i (0, 0) there in
    let filled = are.filled i (0, 0) there in
    let more = count_run mask run.0 run.1 (omega arith) (are.within i (0, 0) there) (λ k low high. row_of_run mask runs i k (0, 0) are same there low high) in
    let gap = count_gap mask run.1 (start_of (length mask) runs (i + 1)) (end_before mask runs are same i (0, 0) there) (start_within mask runs are same (i + 1)) (λ k low high. gap_after mask runs are same i (0, 0) k there low high) in
    record {
      counted = omega (arith, more, gap, c.loop-run.invariant.counted, ap (λ n. count_by (λ b. b) (take n mask)) start);
      written = λ k. spread_run mask runs are same vs i (0, 0) c.loop-run.next k (number_nth (numbers c.args.ptype c.loop-run.out) k) (number_nth (numbers c.args.ptype c.put_values.new.out) k) there c.loop-run.invariant.counted
          (c.loop-run.invariant.written k) (c.put_values.ensures.numbers k);
    }

pub returns-clause-numbers : goal.returns-clause-numbers
returns-clause-numbers c =
    let t = c.args.ptype in
    let mask = c.args.mask.now in
    let vs = numbers t c.args.values.now in
    let runs = c.runs-run-items.result.now in
    let out = c.loop-run.out in
    let size : length out ≡ length mask * byte_width t = c.loop-run.auto.out ∙ ap length c.requires ∙ length-replicate {A = ℕ} (length mask * byte_width t) 0 in
    let count : length (numbers t out) ≡ length mask = length_numbers t out ∙ ap (λ n. n / byte_width t) size ∙ whole t (length mask) in
    ext_get_or (pos 0) (numbers t out) (spread mask vs) (count ∙ sym (length-spread mask vs)) (λ k inside.
    c.loop-run.invariant.written k
    ∙ ap (λ b. cond b (number_nth vs (count_by (λ b. b) (take k mask))) (pos 0)) (runs_all mask runs c.runs-run-items.ensures.apart c.runs-run-items.ensures.trues c.loop-run.run-index k (omega arith) (omega (arith, count)))
    ∙ sym (spread_at mask vs k))
