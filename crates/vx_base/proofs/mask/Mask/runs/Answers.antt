use Rattle.std.proofs.Common.{◌≡◌, ◌∷◌, [], ℕ, length, replicate, true, false, sym, ap, subst, ◌∙◌}
use Rattle.std.specs.List.{flat_map}
use Rattle.vx_base.specs.Selections.{run_positions}
use Rattle.vx_base.specs.Trues.{trues}
use Rattle.vx_base.specs.MaskRuns.{AreRuns}
use Rattle.vx_base.proofs.MaskCounts.{length-all}
use Rattle.vx_base.proofs.MaskRuns.{AreRuns-one}
use Rattle.vx_base.proofs.TrueRuns.{trues_of_all, trues_of_none}
use Rattle.vx_base.proofs.mask.Mask.runs.Goals as goal

-- the run of all rows, where it lies
whole : (all : ℕ × ℕ) → all.0 ≡ 0 → all ≡ (0, all.1)
whole all first = ap (λ (n : ℕ). (n, all.1)) first

pub returns-in-AllTrue-clause-apart : goal.returns-in-AllTrue-clause-apart
returns-in-AllTrue-clause-apart c =
    let all = c.in-AllTrue.all in
    let first : all.0 ≡ 0 = rw c.in-AllTrue.is at c.self.invariant in
    let is : replicate all.1 true ≡ c.args.self.now = rw c.in-AllTrue.is at c.self.view_is in
    let long : length c.args.self.now ≡ all.1 = sym (ap length is) ∙ length-all all.1 true in
    rw (c.from_ref.ensures.value, long) (subst (λ (r : ℕ × ℕ). AreRuns all.1 (r ∷ [])) (sym (whole all first)) (AreRuns-one all.1 c.if-all-gt0.true))

pub returns-in-AllTrue-clause-trues : goal.returns-in-AllTrue-clause-trues
returns-in-AllTrue-clause-trues c =
    let all = c.in-AllTrue.all in
    let first : all.0 ≡ 0 = rw c.in-AllTrue.is at c.self.invariant in
    let is : replicate all.1 true ≡ c.args.self.now = rw c.in-AllTrue.is at c.self.view_is in
    ap (flat_map run_positions) (c.from_ref.ensures.value ∙ ap (λ r. r ∷ []) (whole all first)) ∙ trues_of_all all.1 ∙ ap trues is

pub returns-in-AllFalse-clause-trues : goal.returns-in-AllFalse-clause-trues
returns-in-AllFalse-clause-trues c =
    let is : replicate c.in-AllFalse.field-0 false ≡ c.args.self.now = rw c.in-AllFalse.is at c.self.view_is in
    trues_of_none c.in-AllFalse.field-0 ∙ ap trues is
