-- Two steps, each of which cuts what stands before it.
use Rattle.std.proofs.Common.{◌≡◌, ℕ, zero, suc, ◌-◌, ◌≤◌, List, [], ◌∷◌, length, take, slice_index_or, slice_range, None, sym, ◌∙◌, ap, subst, arith, inl, inr}
use Rattle.vx_base.specs.declared.errors.VortexError.{VortexError}
use Rattle.vx_base.specs.Refusals.{IsMemoryOr, or_else}
use Rattle.vx_base.proofs.ListParts.{length_part}
use Rattle.vx_tree.specs.Tree.{Tree}
use Rattle.vx_tree.specs.Faults.{slice_fault}
use Rattle.vx_tree.specs.Meaning.{tree_len, kind_of, rows}
use Rattle.vx_tree.proofs.RowLists.{length-rows}
use Rattle.vx_run.specs.declared.steps.Step.{Step}
use Rattle.vx_run.specs.declared.steps.Step.TheVariants.{Slice}
use Rattle.vx_run.specs.Steps.{step_fault, HasRun, IsStop}
use Rattle.vx_uses.proofs.TwoFaults.{refused_before}
use Rattle.vx_uses.proofs.RowLists.{slice_within}

-- a step that cuts array 0, and one that cuts what the first one made
abbrev pub cuts : ℕ → ℕ → ℕ → ℕ → List Step
cuts a b c d = Slice 0 a b ∷ Slice 1 c d ∷ []

-- ---- one part

-- what a step that cuts t makes
record IsPart (t : Tree) (a b : ℕ) (r : Tree) : Type 0 where
  accepted : slice_fault (tree_len t) a b ≡ None
  kind : kind_of r ≡ kind_of t
  same : rows r ≡ slice_range (rows t) a b
  len : tree_len r ≡ b - a

part-len : (t r : Tree) (a b : ℕ) → slice_fault (tree_len t) a b ≡ None → rows r ≡ slice_range (rows t) a b → tree_len r ≡ b - a
part-len t r a b accepted same =
    let within = slice_within (tree_len t) a b accepted in
    sym (length-rows r) ∙ ap length same ∙ length_part (rows t) a b within.0 (omega (arith, within.1, length-rows t))

is_part : (t r : Tree) (a b : ℕ) → slice_fault (tree_len t) a b ≡ None → kind_of r ≡ kind_of t → rows r ≡ slice_range (rows t) a b → IsPart t a b r
is_part t r a b accepted kind same = record { accepted = accepted; kind = kind; same = same; len = part-len t r a b accepted same }

-- ---- two parts

pub record IsPartOfPart (t : Tree) (a b c d : ℕ) (part : Tree) : Type 0 where
  pub outer : slice_fault (tree_len t) a b ≡ None
  pub inner : slice_fault (b - a) c d ≡ None
  pub kind : kind_of part ≡ kind_of t
  pub same : rows part ≡ slice_range (slice_range (rows t) a b) c d

pub part_of_part : (t : Tree) (a b c d : ℕ) (arrays results : List Tree) (part : Tree) → arrays ≡ t ∷ [] → HasRun (cuts a b c d) arrays results
    → part ≡ slice_index_or results 2 part → IsPartOfPart t a b c d part
part_of_part t a b c d arrays results part are run last =
    let first = (subst (λ ts. HasRun (cuts a b c d) ts results) are run).each in
    let second = first.3 in
    let r = first.0 in
    let outer = is_part t r a b first.1 (first.2.kind) (ap (λ x. x.row_list) first.2.same_rows) in
    let inner = is_part r second.0 c d second.1 (second.2.kind) (ap (λ x. x.row_list) second.2.same_rows) in
    let is : part ≡ second.0 = last ∙ ap (λ ts. slice_index_or ts 2 part) second.3 in
    record {
      outer = outer.accepted;
      inner = ap (λ n. slice_fault n c d) (sym outer.len) ∙ inner.accepted;
      kind = ap kind_of is ∙ inner.kind ∙ outer.kind;
      same = ap rows is ∙ inner.same ∙ ap (λ rs. slice_range rs c d) outer.same;
    }

-- the inner range lies within the outer one
pub inner_within : (t part : Tree) (a b c d : ℕ) → IsPartOfPart t a b c d part → (c ≤ d) × (d ≤ b - a)
inner_within t part a b c d parts = slice_within (b - a) c d parts.inner

pub accepted : (t part : Tree) (a b c d : ℕ) → IsPartOfPart t a b c d part → or_else (slice_fault (tree_len t) a b) (slice_fault (b - a) c d) ≡ None
accepted t part a b c d parts = λ i. or_else (parts.outer i) (parts.inner i)

-- ---- refused

refused-at : (t : Tree) (a b c d k : ℕ) (arrays : List Tree) (e : VortexError) → HasRun (take k (cuts a b c d)) (t ∷ []) arrays
    → IsStop (cuts a b c d) k arrays e → IsMemoryOr (or_else (slice_fault (tree_len t) a b) (slice_fault (b - a) c d)) e
refused-at t a b c d zero arrays e run stop =
    refused_before (slice_fault (tree_len t) a b) (slice_fault (b - a) c d) e (subst (λ ts. IsMemoryOr (step_fault (Slice 0 a b) ts) e) run.each stop)
refused-at t a b c d (suc zero) arrays e run stop =
    let first = run.each in
    let r = first.0 in
    let outer = is_part t r a b first.1 (first.2.kind) (ap (λ x. x.row_list) first.2.same_rows) in
    let inner : IsMemoryOr (slice_fault (tree_len r) c d) e = subst (λ ts. IsMemoryOr (step_fault (Slice 1 c d) ts) e) first.3 stop in
    subst (λ f. IsMemoryOr (or_else f (slice_fault (b - a) c d)) e) (sym outer.accepted) (subst (λ n. IsMemoryOr (slice_fault n c d) e) outer.len inner)
refused-at t a b c d (suc (suc k)) arrays e run stop = absurd stop

pub cuts-refused : (t : Tree) (a b c d k : ℕ) (given arrays : List Tree) (e : VortexError) → given ≡ t ∷ [] → HasRun (take k (cuts a b c d)) given arrays
    → IsStop (cuts a b c d) k arrays e → IsMemoryOr (or_else (slice_fault (tree_len t) a b) (slice_fault (b - a) c d)) e
cuts-refused t a b c d k given arrays e are run stop =
    refused-at t a b c d k arrays e (subst (λ ts. HasRun (take k (cuts a b c d)) ts arrays) are run) stop
