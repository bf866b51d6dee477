use Rattle.std.proofs.Common.{◌≡◌, ℕ, eqb, ap, ◌∙◌}
use Rattle.std.specs.Bool.{Decides}
use Rattle.std.specs.Prelude.{◌&&◌}
use Rattle.std.proofs.lemmas.Bool.Decides.{Decides-and, Decides-like, Decides-eqb}
use Rattle.std.proofs.lemmas.Slice.Eq.{slice_eq-Decides}
use Rattle.vx_base.proofs.mask_runs.same_runs.Goals as goal

same_run : (x y : ℕ × ℕ) → Decides (eqb x.0 y.0 && eqb x.1 y.1) (x ≡ y)
same_run x y =
    Decides-like (eqb x.0 y.0 && eqb x.1 y.1) (λ h. ap (λ (n : ℕ). (n, x.1)) h.0 ∙ ap (λ (n : ℕ). (y.0, n)) h.1) (λ e. (ap (λ (r : ℕ × ℕ). r.0) e, ap (λ (r : ℕ × ℕ). r.1) e))
    (Decides-and (eqb x.0 y.0) (eqb x.1 y.1) (Decides-eqb x.0 y.0) (Decides-eqb x.1 y.1))

pub returns : goal.returns
returns c = slice_eq-Decides same_run c.args.left.now c.args.right.now c.eq.result c.eq.ensures
