use Rattle.std.proofs.Common.{◌≡◌, ◌++◌, ◌∷◌, [], ◌≤◌, ℕ, List, min, max, sym, ap, ◌∙◌}
use Rattle.std.specs.Prelude.{◌||◌, ◌&&◌}
use Rattle.vx_base.specs.MaskRuns.{is_in_run, is_in_runs}
use Rattle.vx_base.proofs.MaskRuns.{is_in_runs-push, or_false}
use Rattle.vx_base.proofs.SharedRuns.{in_shared, in_none}
use Rattle.vx_base.proofs.mask_runs.push_shared.Goals as goal

pushed : (runs new : List (ℕ × ℕ)) (one other : ℕ × ℕ) (start end : ℕ) → start ≡ max one.0 other.0 → end ≡ min one.1 other.1 → new ≡ runs ++ (start, end) ∷ []
    → (k : ℕ) → is_in_runs new k ≡ (is_in_runs runs k || (is_in_run one k && is_in_run other k))
pushed runs new one other start end low high push k =
    ap (λ rs. is_in_runs rs k) (push ∙ ap (λ s. runs ++ (s, end) ∷ []) low ∙ ap (λ e. runs ++ (max one.0 other.0, e) ∷ []) high)
    ∙ is_in_runs-push runs (max one.0 other.0, min one.1 other.1) k ∙ ap (λ b. is_in_runs runs k || b) (in_shared one other k)

kept : (runs : List (ℕ × ℕ)) (one other : ℕ × ℕ) → min one.1 other.1 ≤ max one.0 other.0 → (k : ℕ) → is_in_runs runs k ≡ (is_in_runs runs k || (is_in_run one k && is_in_run other k))
kept runs one other le k =
    sym (ap (λ b. is_in_runs runs k || b) (sym (in_shared one other k) ∙ in_none (max one.0 other.0) (min one.1 other.1) k le) ∙ or_false (is_in_runs runs k))

pub returns-in_ok-push-clause-rows : goal.returns-in_ok-push-clause-rows
returns-in_ok-push-clause-rows c =
    pushed c.args.runs.now.items c.push.new.self.items c.args.one c.args.other c.max-start.result c.min-end.result c.max-start.ensures c.min-end.ensures c.in_ok-push.ensures.items
