use Rattle.std.proofs.Common.{◌≡◌, ◌∙◌, ◌+◌, ◌<◌, ◌≤◌, ℕ, List, length, get_or, sum, take, refl, sym, ap, arith}
use Rattle.std.specs.List.{flat_map}
use Rattle.std.proofs.lemmas.List.{length-set, take_all}
use Rattle.std.proofs.lemmas.List.Sums.{sum_by_more, sum_by_more_le}
use Rattle.vx_base.specs.Integers.{numbers}
use Rattle.vx_base.specs.Selections.{run_positions}
use Rattle.vx_pack.specs.CountBytes.{counts_of}
use Rattle.vx_pack.proofs.ReadCounts.{length-counts_of, numbers_few}
use Rattle.vx_pack.proofs.StoredLists.{positions_count, run_put}
use Rattle.vx_pack.proofs.list_runs.put_typed_runs.Goals as goal

pub loop-i-init : goal.loop-i-init
loop-i-init g c =
    let ss : List ℕ = counts_of g.S.NativePType.PTYPE c.args.sizes.now in
    let none : c.args.first + 0 ≡ c.args.first = omega arith in
    record { room = refl; put = refl; count = refl; total = omega (arith, ap (λ n. sum (take n ss)) none) }

pub overflow_add-first : goal.overflow_add-first
overflow_add-first g c =
    omega (arith, c.requires.within, c.loop-i.invariant.room, numbers_few g.S.NativePType.PTYPE c.args.sizes.now)

pub overflow_add-first-in-loop-i : goal.overflow_add-first-in-loop-i
overflow_add-first-in-loop-i g c =
    omega (arith, c.requires.within, c.loop-i.invariant.room, numbers_few g.S.NativePType.PTYPE c.args.sizes.now)

pub overflow_add-len : goal.overflow_add-len
overflow_add-len g c =
    let ss : List ℕ = counts_of g.S.NativePType.PTYPE c.args.sizes.now in
    let i : ℕ = c.loop-i.i in
    let at : ℕ = c.args.first + i in
    let inside : at < length ss =
    omega (arith, length-counts_of g.S.NativePType.PTYPE c.args.sizes.now, c.requires.within, c.loop-i.invariant.room) in
    let within : sum (take at ss) + get_or ss at 0 ≤ sum ss = sum_by_more_le (λ (x : ℕ). x) ss at 0 inside in
    omega (arith, within, c.loop-i.invariant.total, c.count_of_bytes-size.ensures, c.requires.countable)

pub loop-i-preserved : goal.loop-i-preserved
loop-i-preserved g c =
    let os : List ℕ = counts_of g.O.NativePType.PTYPE c.args.offsets.now in
    let ss : List ℕ = counts_of g.S.NativePType.PTYPE c.args.sizes.now in
    let i : ℕ = c.loop-i.i in
    let at : ℕ = c.args.first + i in
    let inside : at < length ss =
    omega (arith, length-counts_of g.S.NativePType.PTYPE c.args.sizes.now, c.requires.within, c.loop-i.invariant.room) in
    let more : sum (take (at + 1) ss) ≡ sum (take at ss) + get_or ss at 0 = sum_by_more (λ (x : ℕ). x) ss at 0 inside in
    let next : at + 1 ≡ c.args.first + (i + 1) = omega arith in
    record {
      room = length-set c.loop-i.runs i _ ∙ c.loop-i.invariant.room;
      put = run_put os ss c.args.first i c.count_of_bytes-start.result c.count_of_bytes-size.result c.loop-i.runs (omega
          (arith, c.loop-i.invariant.room)) c.loop-i.invariant.put
          c.count_of_bytes-start.ensures c.count_of_bytes-size.ensures;
      count = positions_count os ss c.args.first i c.count_of_bytes-size.result c.loop-i.len _ c.count_of_bytes-size.ensures refl
          c.loop-i.invariant.count;
      total = omega (arith, c.loop-i.invariant.total, more, ap (λ n. sum (take n ss)) next, c.count_of_bytes-size.ensures);
    }
