use Rattle.std.proofs.Common.{◌+◌, ◌-◌, ◌*◌, ◌<◌, ◌≤◌, ◌≡◌, ◌^◌, ℕ, ap, ◌∙◌, arith}
use Rattle.std.proofs.Math.Nat.{mul-le-mul_right}
use Rattle.vx_base.proofs.Runs.{in_run, list_run}
use Rattle.vx_base.proofs.selection.list_run.Goals as goal

room : (size start end n : ℕ) → start < end → (end - 1) * size + size < n → (start * size ≤ end * size) × (end * size < n)
room size start end n l h =
    let same : end ≡ end - 1 + 1 = omega arith in
    let last : (end - 1 + 1) * size ≡ (end - 1) * size + size = omega arith in
    let whole : end * size ≡ (end - 1) * size + size = ap (λ m. m * size) same ∙ last in
    (mul-le-mul_right size (omega arith), omega arith)

pub overflow_mul-result : goal.overflow_mul-result
overflow_mul-result c =
    let h = in_run (λ k. k * c.args.size + c.args.size < 2 ^ 64) (c.args.start, c.args.end) (c.args.end - 1) c.requires (omega arith) (omega arith) in
    let r = room c.args.size c.args.start c.args.end (2 ^ 64) c.if-start-end.true h in
    omega arith

pub overflow_mul-result-then-start-end : goal.overflow_mul-result-then-start-end
overflow_mul-result-then-start-end c =
    let h = in_run (λ k. k * c.args.size + c.args.size < 2 ^ 64) (c.args.start, c.args.end) (c.args.end - 1) c.requires (omega arith) (omega arith) in
    let r = room c.args.size c.args.start c.args.end (2 ^ 64) c.if-start-end.true h in
    omega arith

pub returns-then-start-end : goal.returns-then-start-end
returns-then-start-end c = list_run c.args.size (c.args.start, c.args.end) c.if-start-end.true
