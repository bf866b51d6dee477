use Rattle.std.proofs.Common.{◌≡◌, length, subst, sym, ap, ◌∙◌}
use Rattle.std.proofs.lemmas.Bool.{eqb-true}
use Rattle.vx_base.specs.MaskRuns.{marked, AreRuns}
use Rattle.vx_base.proofs.MaskRuns.{marked_from_trues, same_from_marked}
use Rattle.vx_base.proofs.mask.Mask.same.Goals as goal

pub returns-then-len : goal.returns-then-len
returns-then-len c =
    let mine = c.args.self.now in
    let theirs = c.args.other.now in
    let n = length mine in
    let len : length theirs ≡ n = sym (c.len-2.ensures) ∙ sym c.if-len.true ∙ c.len.ensures in
    let other : AreRuns n c.runs-then-len.result.now = subst (λ m. AreRuns m c.runs-then-len.result.now) len c.runs-then-len.ensures.apart in
    let left : marked n c.runs.result.now ≡ mine = marked_from_trues mine c.runs.result.now c.runs.ensures.apart c.runs.ensures.trues in
    let right : marked n c.runs-then-len.result.now ≡ theirs =
    ap (λ m. marked m c.runs-then-len.result.now) (sym len) ∙ marked_from_trues theirs c.runs-then-len.result.now c.runs-then-len.ensures.apart c.runs-then-len.ensures.trues in (
      λ h. sym left ∙ ap (marked n) (c.same_runs.ensures.0 h) ∙ right,
      λ e. c.same_runs.ensures.1 (same_from_marked n c.runs.result.now c.runs-then-len.result.now c.runs.ensures.apart other (left ∙ e ∙ sym right)),
    )

pub returns-else-len : goal.returns-else-len
returns-else-len c = (
  λ h. absurd (c.if-len.false (eqb-true c.len.result c.len-2.result h)),
  λ e. absurd (c.if-len.false (c.len.ensures ∙ ap length e ∙ sym c.len-2.ensures)),
)
