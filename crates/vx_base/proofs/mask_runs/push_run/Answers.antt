use Rattle.std.proofs.Common.{◌≡◌, ◌<◌, ◌-◌, ℕ, get_or, set, subst, sym, ap, ◌∙◌, arith}
use Rattle.std.specs.List.{All}
use Rattle.std.proofs.lemmas.List.{get_or_default}
use Rattle.vx_base.specs.MaskRuns.{is_in_runs, AreRuns}
use Rattle.vx_base.proofs.MaskRuns.{touching, apart_from, AreRuns-push, is_in_runs-push}
use Rattle.vx_base.proofs.mask_runs.push_run.Goals as goal
use Rattle.vx_base.proofs.mask_runs.push_run.Goals.{else-count-gt0-via-then-count-gt0+else-index-start, else-count-gt0-via-else-count-gt0}

pub returns-then-index-start-clause-apart : goal.returns-then-index-start-clause-apart
returns-then-index-start-clause-apart c =
    let runs = c.args.runs.now.items in
    let n = c.len-count.result - 1 in
    let d = c.index_mut.result.now in
    let last : d ≡ get_or runs n d = c.index_mut.ensures.value in
    let seen : (get_or runs n d).1 ≡ c.args.start =
    ap (λ (r : ℕ × ℕ). r.1) (get_or_default runs n d c.index.result.now (omega arith) ∙ sym c.index.ensures) ∙ c.if-index-start.true in
    let both = touching runs n d c.args.start c.args.end (omega arith) seen c.requires.filled c.requires.runs in
    subst (λ (r : ℕ × ℕ). AreRuns c.args.end (set runs n (r.0, c.args.end))) (sym last) both.0

pub returns-then-index-start-clause-rows : goal.returns-then-index-start-clause-rows
returns-then-index-start-clause-rows c =
    let runs = c.args.runs.now.items in
    let n = c.len-count.result - 1 in
    let d = c.index_mut.result.now in
    let last : d ≡ get_or runs n d = c.index_mut.ensures.value in
    let seen : (get_or runs n d).1 ≡ c.args.start =
    ap (λ (r : ℕ × ℕ). r.1) (get_or_default runs n d c.index.result.now (omega arith) ∙ sym c.index.ensures) ∙ c.if-index-start.true in
    let both = touching runs n d c.args.start c.args.end (omega arith) seen c.requires.filled c.requires.runs in
    λ k. ap (λ (r : ℕ × ℕ). is_in_runs (set runs n (r.0, c.args.end)) k) last ∙ both.1 k

pub returns-clause-apart : goal.returns-clause-apart
returns-clause-apart c =
    let runs = c.args.runs.now.items in
    let past : All (λ (r : ℕ × ℕ). r.1 < c.args.start) runs = elim c.else-count-gt0.branch [
      | else-count-gt0-via-then-count-gt0+else-index-start w ↦
          apart_from runs (c.len-count.result - 1) c.args.start w.index.result.now (omega arith) (λ h. w.if-index-start.false (ap (λ (r : ℕ × ℕ). r.1) w.index.ensures ∙ h)) c.requires.runs
      | else-count-gt0-via-else-count-gt0 w ↦ λ k d l. absurd (omega arith)
    ] in
    rw c.in_ok-push.ensures.items (AreRuns-push c.args.start c.args.end runs (c.args.start, c.args.end) c.requires.runs past c.requires.filled (omega arith))

pub returns-clause-rows : goal.returns-clause-rows
returns-clause-rows c = rw c.in_ok-push.ensures.items (is_in_runs-push c.args.runs.now.items (c.args.start, c.args.end))
