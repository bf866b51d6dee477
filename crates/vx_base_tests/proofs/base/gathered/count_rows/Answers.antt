use Rattle.std.proofs.Common.{ℕ, ◌-◌, ◌<◌, ◌≤◌, take, get_or, length, refl, sym, ap, subst, arith}
use Rattle.std.specs.List.{All, flat_map}
use Rattle.std.proofs.lemmas.List.{length-append}
use Rattle.std.proofs.lemmas.List.Elements.{All-nil, All-append}
use Rattle.std.proofs.lemmas.List.FromFn.{length-range_with_len, get_or-range_with_len}
use Rattle.vx_base.specs.Selections.{run_positions}
use Rattle.vx_base.proofs.Runs.{runs_more}
use Rattle.vx_base_tests.proofs.base.gathered.count_rows.Goals as goal

-- the positions of a run that ends within n lie below n
run_below : (n : ℕ) (run : ℕ × ℕ) → run.1 ≤ n → All (λ k. k < n) (run_positions run)
run_below n run e = λ i d l.
    let inside : i < run.1 - run.0 = omega (arith, length-range_with_len run.0 (run.1 - run.0)) in
    subst (λ k. k < n) (sym (get_or-range_with_len run.0 (run.1 - run.0) i d inside)) (omega (arith, e, inside))

pub loop-run-init : goal.loop-run-init
loop-run-init c = (refl, All-nil (λ k. k < c.args.rows))

pub loop-run-preserved : goal.loop-run-preserved
loop-run-preserved c =
    let runs = c.args.runs.now in
    let i = c.loop-run.run-index in
    let run = get_or runs i (0, 0) in
    let all = runs_more run_positions runs i (0, 0) c.loop-run-test.true in (
      omega (arith, c.loop-run.invariant.0, ap length all, length-append (flat_map run_positions (take i runs)) (run_positions run), length-range_with_len run.0 (run.1 - run.0)),
      subst (All (λ k. k < c.args.rows)) (sym all) (All-append (λ k. k < c.args.rows) (flat_map run_positions (take i runs)) (run_positions run) c.loop-run.invariant.1 (run_below c.args.rows run (omega arith))),
    )
