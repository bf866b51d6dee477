-- Lists of steps, one step after another.
use Rattle.std.proofs.Common.{◌≡◌, ℕ, zero, suc, ◌+◌, ◌<◌, ◌≤◌, List, [], ◌∷◌, ◌++◌, length, take, map, get_or, refl, sym, ◌∙◌, ap, subst, arith, add-zero, append_assoc, length-append, length-take, inl}
use Rattle.std.specs.Prelude.{Option, None, IsSomeAnd}
use Rattle.std.proofs.Math.ListN.{get_or-map}
use Rattle.std.proofs.Math.Seq.{take-append_seam}
use Rattle.std.proofs.lemmas.List.{map-append, take_more, take_all}
use Rattle.std.proofs.lemmas.Option.{slice_get_read}
use Rattle.vx_base.specs.declared.errors.VortexError.{VortexError}
use Rattle.vx_base.specs.declared.errors.VortexError.TheVariants.{Memory}
use Rattle.vx_base.specs.Refusals.{IsMemoryOr}
use Rattle.vx_tree.specs.Tree.{Tree, bools, non_nullable}
use Rattle.vx_run.specs.declared.steps.Step.{Step}
use Rattle.vx_run.specs.Steps.{rows_of, rows_at, array_at, step_rows, run_rows, step_fault, IsStep, IsRun, HasRun, IsStop}

-- ---- what follows of a run

-- the given arrays stand in front
front : (ss : List Step) (arrays results : List Tree) → IsRun ss arrays results → (more : List Tree) × (results ≡ arrays ++ more)
front [] arrays results run = ([], run ∙ sym (append-nil arrays))
  where
    append-nil : (ts : List Tree) → ts ++ [] ≡ ts
    append-nil [] = refl
    append-nil (t ∷ ts) = ap (λ us. t ∷ us) (append-nil ts)
front (s ∷ ss) arrays results run =
    let rest = front ss (arrays ++ run.0 ∷ []) results run.3 in
    (run.0 ∷ rest.0, rest.1 ∙ append_assoc arrays (run.0 ∷ []) rest.0)

run-given : (ss : List Step) (arrays results : List Tree) → IsRun ss arrays results → take (length arrays) results ≡ arrays
run-given ss arrays results run =
    let before = front ss arrays results run in
    ap (take (length arrays)) before.1 ∙ take-append_seam arrays before.0

run-len : (ss : List Step) (arrays results : List Tree) → IsRun ss arrays results → length results ≡ length arrays + length ss
run-len [] arrays results run = ap length run ∙ sym (add-zero (length arrays))
run-len (s ∷ ss) arrays results run =
    let rest = run-len ss (arrays ++ run.0 ∷ []) results run.3 in omega (arith, rest, length-append arrays (run.0 ∷ []))

rows_at-map : (arrays : List Tree) → rows_at (map rows_of arrays) ≡ (λ i. rows_of (array_at arrays i))
rows_at-map arrays = λ j i. get_or-map rows_of arrays i (bools 0 [] non_nullable) j

run-rows : (ss : List Step) (arrays results : List Tree) → IsRun ss arrays results → map rows_of results ≡ run_rows ss (map rows_of arrays)
run-rows [] arrays results run = ap (map rows_of) run
run-rows (s ∷ ss) arrays results run =
    let made : rows_of run.0 ≡ step_rows s (rows_at (map rows_of arrays)) = run.2.same_rows ∙ ap (step_rows s) (sym (rows_at-map arrays)) in
    let more : map rows_of (arrays ++ run.0 ∷ []) ≡ map rows_of arrays ++ step_rows s (rows_at (map rows_of arrays)) ∷ [] =
    map-append rows_of arrays (run.0 ∷ []) ∙ ap (λ x. map rows_of arrays ++ x ∷ []) made in
    run-rows ss (arrays ++ run.0 ∷ []) results run.3 ∙ ap (run_rows ss) more

pub has_run : (ss : List Step) (arrays results : List Tree) → IsRun ss arrays results → HasRun ss arrays results
has_run ss arrays results run = record {
  len = run-len ss arrays results run;
  given = run-given ss arrays results run;
  each = run;
  same_rows = run-rows ss arrays results run;
}

-- ---- one more step

run-more : (ss : List Step) (s : Step) (arrays results : List Tree) (r : Tree) → IsRun ss arrays results → step_fault s results ≡ None → IsStep s results r
    → IsRun (ss ++ s ∷ []) arrays (results ++ r ∷ [])
run-more [] s arrays results r run none made =
    (r, subst (λ ts. step_fault s ts ≡ None) run none, subst (λ ts. IsStep s ts r) run made, ap (λ ts. ts ++ r ∷ []) run)
run-more (t ∷ ss) s arrays results r run none made =
    (run.0, run.1, run.2, run-more ss s (arrays ++ run.0 ∷ []) results r run.3 none made)

pub run-next : (steps : List Step) (i : ℕ) (s : Step) (arrays results lent after : List Tree) (r : Tree) → IsRun (take i steps) arrays results → i < length steps
    → s ≡ get_or steps i s → lent ≡ results → step_fault s lent ≡ None → IsStep s lent r → after ≡ results ++ r ∷ [] → IsRun (take (i + 1) steps) arrays after
run-next steps i s arrays results lent after r run inside is same none made more =
    let taken : take (i + 1) steps ≡ take i steps ++ s ∷ [] = take_more steps i s inside ∙ ap (λ x. take i steps ++ x ∷ []) (sym is) in
    let P : List Step → Type 0 = λ ss. IsRun ss arrays after in
    let Q : List Tree → Type 0 = λ ts. IsRun (take i steps ++ s ∷ []) arrays ts in
    let none2 : step_fault s results ≡ None = ap (step_fault s) (sym same) ∙ none in
    subst P (sym taken) (subst Q (sym more) (run-more (take i steps) s arrays results r run none2 (subst (λ ts. IsStep s ts r) same made)))

-- a step at its place is refused
pub stops_at : (steps : List Step) (i : ℕ) (s : Step) (results lent : List Tree) (e : VortexError) → i < length steps → s ≡ get_or steps i s → lent ≡ results
    → IsMemoryOr (step_fault s lent) e → IsStop steps i results e
stops_at steps i s results lent e inside is same refused =
    let P : Option Step → Type 0 = λ o. IsSomeAnd o (λ t. IsMemoryOr (step_fault t results) e) in
    subst P (sym (slice_get_read steps (length steps) i s refl inside is)) (subst (λ ts. IsMemoryOr (step_fault s ts) e) same refused)

-- memory is refused before the first step
pub stops_first : (steps : List Step) (results : List Tree) (capacity : ℕ) → length results ≤ capacity → capacity < length results + length steps
    → IsStop steps 0 results Memory
stops_first [] results capacity holds full = absurd (omega (arith, holds, full))
stops_first (s ∷ ss) results capacity holds full = inl refl

-- room for the given arrays and a result of each step is there still
pub room_left : (steps : List Step) (i held capacity : ℕ) (arrays results : List Tree) → IsRun (take i steps) arrays results → i < length steps
    → held ≡ length results → held + length steps ≤ capacity + i → length arrays + length steps ≤ capacity
room_left steps i held capacity arrays results run inside is fits =
    let made = run-len (take i steps) arrays results run in
    let count = length-take i steps in
    omega (arith, made, count, is, fits, inside)

-- after the last step
pub run-all : (steps : List Step) (i : ℕ) (arrays results : List Tree) → IsRun (take i steps) arrays results → length steps ≤ i → HasRun steps arrays results
run-all steps i arrays results run past =
    has_run steps arrays results (subst (λ ss. IsRun ss arrays results) (take_all i steps past) run)

-- ---- one step alone

-- where it is refused, the arrays are as they were
pub one-stop : (s : Step) (k : ℕ) (arrays results : List Tree) (e : VortexError) → HasRun (take k (s ∷ [])) arrays results → IsStop (s ∷ []) k results e
    → (results ≡ arrays) × IsMemoryOr (step_fault s arrays) e
one-stop s zero arrays results e run refused = (run.each, subst (λ ts. IsMemoryOr (step_fault s ts) e) run.each refused)
one-stop s (suc k) arrays results e run refused = absurd refused
