-- Steps on columns, one after another, and what stops them.
use Rattle.std.proofs.Common.{◌≡◌, ℕ, zero, suc, ◌+◌, ◌<◌, ◌≤◌, List, [], ◌∷◌, ◌++◌, length, take, map, get_or, refl, sym, ◌∙◌, ap, subst, arith, add-zero, append_assoc, length-append}
use Rattle.std.specs.Prelude.{Option, IsSomeAnd}
use Rattle.std.specs.List.{All}
use Rattle.std.proofs.Math.Seq.{take-append_seam}
use Rattle.std.proofs.lemmas.List.{take_more, take_all}
use Rattle.std.proofs.lemmas.Option.{slice_get_read}
use Rattle.vx_base.specs.declared.errors.VortexError.{VortexError}
use Rattle.vx_tree.specs.Fitting.{AllFormed}
use Rattle.vx_tree.specs.Tree.{Tree}
use Rattle.vx_run.specs.declared.steps.Step.{Step}
use Rattle.vx_run.specs.Steps.{IsRun, HasRun, IsStop}
use Rattle.vx_run.proofs.StepRuns.{has_run}
use Rattle.vx_c.specs.declared.column_steps.ColumnStep.{ColumnStep}
use Rattle.vx_c.specs.declared.column_steps.ColumnStep.TheVariants.{Of}
use Rattle.vx_c.specs.declared.faults.RunError.TheVariants as error
use Rattle.vx_c.specs.ColumnSteps.{IsColumnStep, IsStepRefused, IsColumnRun, HasColumnRun, IsColumnStop}
use Rattle.vx_c.specs.Runs.{IsRanOr}

-- ---- what follows of a run

-- the given arrays stand in front
front : (ss : List ColumnStep) (arrays results : List Tree) → IsColumnRun ss arrays results → (more : List Tree) × (results ≡ arrays ++ more)
front [] arrays results run = ([], run ∙ sym (append-nil arrays))
  where
    append-nil : (ts : List Tree) → ts ++ [] ≡ ts
    append-nil [] = refl
    append-nil (t ∷ ts) = ap (λ us. t ∷ us) (append-nil ts)
front (s ∷ ss) arrays results run =
    let rest = front ss (arrays ++ run.0 ∷ []) results run.2 in
    (run.0 ∷ rest.0, rest.1 ∙ append_assoc arrays (run.0 ∷ []) rest.0)

run-given : (ss : List ColumnStep) (arrays results : List Tree) → IsColumnRun ss arrays results → take (length arrays) results ≡ arrays
run-given ss arrays results run =
    let before = front ss arrays results run in
    ap (take (length arrays)) before.1 ∙ take-append_seam arrays before.0

run-len : (ss : List ColumnStep) (arrays results : List Tree) → IsColumnRun ss arrays results → length results ≡ length arrays + length ss
run-len [] arrays results run = ap length run ∙ sym (add-zero (length arrays))
run-len (s ∷ ss) arrays results run =
    let rest = run-len ss (arrays ++ run.0 ∷ []) results run.2 in omega (arith, rest, length-append arrays (run.0 ∷ []))

has_column_run : (ss : List ColumnStep) (arrays results : List Tree) → IsColumnRun ss arrays results → HasColumnRun ss arrays results
has_column_run ss arrays results run = record {
  len = run-len ss arrays results run;
  given = run-given ss arrays results run;
  each = run;
}

-- ---- one more step

run-more : (ss : List ColumnStep) (s : ColumnStep) (arrays results : List Tree) (r : Tree) → IsColumnRun ss arrays results → IsColumnStep s results r
    → IsColumnRun (ss ++ s ∷ []) arrays (results ++ r ∷ [])
run-more [] s arrays results r run made = (r, subst (λ ts. IsColumnStep s ts r) run made, ap (λ ts. ts ++ r ∷ []) run)
run-more (t ∷ ss) s arrays results r run made = (run.0, run.1, run-more ss s (arrays ++ run.0 ∷ []) results r run.2 made)

pub run-next : (steps : List ColumnStep) (i : ℕ) (s : ColumnStep) (arrays results lent after : List Tree) (r : Tree) → IsColumnRun (take i steps) arrays results
    → i < length steps → s ≡ get_or steps i s → lent ≡ results → IsColumnStep s lent r → after ≡ results ++ r ∷ [] → IsColumnRun (take (i + 1) steps) arrays after
run-next steps i s arrays results lent after r run inside is same made more =
    let taken : take (i + 1) steps ≡ take i steps ++ s ∷ [] = take_more steps i s inside ∙ ap (λ x. take i steps ++ x ∷ []) (sym is) in
    let P : List ColumnStep → Type 0 = λ ss. IsColumnRun ss arrays after in
    let Q : List Tree → Type 0 = λ ts. IsColumnRun (take i steps ++ s ∷ []) arrays ts in
    subst P (sym taken) (subst Q (sym more) (run-more (take i steps) s arrays results r run (subst (λ ts. IsColumnStep s ts r) same made)))

-- after the last step
pub run-all : (steps : List ColumnStep) (i : ℕ) (arrays results : List Tree) → IsColumnRun (take i steps) arrays results → length steps ≤ i → HasColumnRun steps arrays results
run-all steps i arrays results run past =
    has_column_run steps arrays results (subst (λ ss. IsColumnRun ss arrays results) (take_all i steps past) run)

-- a step at its place is refused
pub stops_at : (steps : List ColumnStep) (i : ℕ) (s : ColumnStep) (arrays results lent : List Tree) (e : VortexError) → IsColumnRun (take i steps) arrays results
    → i < length steps → s ≡ get_or steps i s → lent ≡ results → All AllFormed results → IsStepRefused s lent e → IsRanOr steps arrays (error.Step i e)
stops_at steps i s arrays results lent e run inside is same formed refused =
    let P : Option ColumnStep → Type 0 = λ o. IsSomeAnd o (λ t. IsStepRefused t results e) in
    let here : IsStepRefused s results e = subst (λ ts. IsStepRefused s ts e) same refused in
    (results, has_column_run (take i steps) arrays results run, formed, subst P (sym (slice_get_read steps (length steps) i s refl inside is)) here)

-- ---- steps of vx_run alone

plain-run : (steps : List Step) (arrays results : List Tree) → IsColumnRun (map Of steps) arrays results → IsRun steps arrays results
plain-run [] arrays results run = run
plain-run (s ∷ ss) arrays results run = (run.0, run.1.0, run.1.1, plain-run ss (arrays ++ run.0 ∷ []) results run.2)

pub runs_are_runs : (steps : List Step) (arrays results : List Tree) → HasColumnRun (map Of steps) arrays results → HasRun steps arrays results
runs_are_runs steps arrays results ran = has_run steps arrays results (plain-run steps arrays results ran.each)

pub stops_are_stops : (steps : List Step) (k : ℕ) (arrays : List Tree) (e : VortexError) → IsColumnStop (map Of steps) k arrays e → IsStop steps k arrays e
stops_are_stops [] k arrays e stop = stop
stops_are_stops (s ∷ ss) zero arrays e stop = stop
stops_are_stops (s ∷ ss) (suc k) arrays e stop = stops_are_stops ss k arrays e stop
