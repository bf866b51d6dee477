use Rattle.std.proofs.Common.{◌≡◌, ◌≤◌, ◌<◌, ◌+◌, ◌^◌, ◌++◌, ℕ, List, length, take, get_or, ap, ◌∙◌, arith}
use Rattle.std.specs.List.{All}
use Rattle.std.proofs.lemmas.List.{take_all, get_or-take, length-take-le}
use Rattle.std.proofs.lemmas.List.Elements.{All-take}
use Rattle.vx_base.specs.MaskRuns.{marked, AreRuns}
use Rattle.vx_base.proofs.MaskRuns.{ends_before, AreRuns-longer, shifted_more, marked-append, marked_from_trues}
use Rattle.vx_base.proofs.mask.Mask.append_to.Goals as goal

-- the runs end by their length
room : (at len i : ℕ) (runs : List (ℕ × ℕ)) (d : ℕ × ℕ) → i < length runs → AreRuns len runs → at + len < 2 ^ 64 → (at + (get_or runs i d).0 < 2 ^ 64) × (at + (get_or runs i d).1 < 2 ^ 64)
room at len i runs d l are fits =
    let filled = are.filled i d l in
    let within = are.within i d l in
    (omega arith, omega arith)

next : (at i : ℕ) (new runs : List (ℕ × ℕ)) (d : ℕ × ℕ) → i < length runs → AreRuns (at + (get_or runs i d).1) new
    → (low : ℕ) → All (λ run. run.1 ≤ low) (take (i + 1) runs) → AreRuns (at + low) new
next at i new runs d l are low all =
    let small : i < i + 1 = omega arith in
    let last : (get_or runs i d).1 ≤ low = rw get_or-take at (all i d (omega (arith, length-take-le (i + 1) runs))) in
    AreRuns-longer (at + (get_or runs i d).1) (at + low) new (omega arith) are

pub overflow_add-at : goal.overflow_add-at
overflow_add-at c =
    let r = room c.args.at (length c.args.self.now) c.loop-run.run-index c.runs-run-items.result.now (0, 0) c.loop-run-test.true c.runs-run-items.ensures.apart c.requires.fits in
    omega arith

pub overflow_add-at-in-loop-run : goal.overflow_add-at-in-loop-run
overflow_add-at-in-loop-run c =
    let r = room c.args.at (length c.args.self.now) c.loop-run.run-index c.runs-run-items.result.now (0, 0) c.loop-run-test.true c.runs-run-items.ensures.apart c.requires.fits in
    omega arith

pub push_run-requires-clause-runs : goal.push_run-requires-clause-runs
push_run-requires-clause-runs c =
    let runs = c.runs-run-items.result.now in
    let i = c.loop-run.run-index in
    c.loop-run.invariant.apart (get_or runs i (0, 0)).0 (ends_before (length c.args.self.now) i runs (0, 0) c.loop-run-test.true c.runs-run-items.ensures.apart)

pub push_run-requires-clause-filled : goal.push_run-requires-clause-filled
push_run-requires-clause-filled c =
    let filled = c.runs-run-items.ensures.apart.filled c.loop-run.run-index (0, 0) c.loop-run-test.true in
    omega arith

pub loop-run-preserved : goal.loop-run-preserved
loop-run-preserved c =
    let runs = c.runs-run-items.result.now in
    let i = c.loop-run.run-index in
    record {
      apart = next c.args.at i c.push_run.new.runs.items runs (0, 0) c.loop-run-test.true c.in_ok-push_run.ensures.apart;
      rows = λ k. shifted_more c.args.at i k c.args.runs.now.items c.loop-run.runs.items c.push_run.new.runs.items runs (0, 0) c.loop-run-test.true (c.loop-run.invariant.rows k) (c.in_ok-push_run.ensures.rows k);
    }

pub returns-clause-apart : goal.returns-clause-apart
returns-clause-apart c =
    let n = length c.args.self.now in
    c.loop-run.invariant.apart n (All-take (λ (r : ℕ × ℕ). r.1 ≤ n) c.loop-run.run-index c.runs-run-items.result.now c.runs-run-items.ensures.apart.within)

pub returns-clause-rows : goal.returns-clause-rows
returns-clause-rows c =
    let n = length c.args.self.now in
    let runs = c.runs-run-items.result.now in
    let all : take c.loop-run.run-index runs ≡ runs = take_all c.loop-run.run-index runs (omega arith) in
    marked-append c.args.at n c.args.runs.now.items c.loop-run.runs.items runs c.requires.runs (rw all at c.loop-run.invariant.rows)
    ∙ ap (λ bs. marked c.args.at c.args.runs.now.items ++ bs) (marked_from_trues c.args.self.now runs c.runs-run-items.ensures.apart c.runs-run-items.ensures.trues)
