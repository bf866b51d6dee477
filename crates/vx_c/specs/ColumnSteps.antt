-- What the steps of a run append to a list of arrays, and why one is refused.
use Rattle.std.specs.Prelude.{◌≡◌, ◌+◌, ◌++◌, ◌⊎◌, ℕ, List, [], ◌∷◌, length, map, take, Option, None, IsSomeAnd, slice_get}
use Rattle.vx_base.specs.declared.errors.VortexError.{VortexError}
use Rattle.vx_base.specs.declared.errors.VortexError.TheVariants.{Overflow}
use Rattle.vx_base.specs.Fields.{place_of_name}
use Rattle.vx_base.specs.Refusals.{Refusal, IsMemoryOr, or_else}
use Rattle.vx_tree.specs.Faults.{position_fault}
use Rattle.vx_tree.specs.Meaning.{kind_of, rows}
use Rattle.vx_tree.specs.Shapes.{tree_state}
use Rattle.vx_tree.specs.Tree.{Tree}
use Rattle.vx_tree.specs.Validities.{is_full_state}
use Rattle.vx_structs.specs.Structs.Faults.{unknown_fault}
use Rattle.vx_structs.specs.Structs.Records.{field_rows, field_kind}
use Rattle.vx_structs.specs.Structs.{names_of, IsField}
use Rattle.vx_pack.specs.Packed.{IsPacked, IsTooLarge}
use Rattle.vx_run.specs.declared.steps.Step.{Step}
use Rattle.vx_run.specs.Steps.{array_at, records_fault, step_fault, IsStep, HasRun, IsStop}
use Rattle.vx_c.specs.declared.column_steps.ColumnStep.{ColumnStep}
use Rattle.vx_c.specs.declared.column_steps.ColumnStep.TheVariants.{Of, Pack, Field}

-- ---- one step

-- an array of the same kind, with the same rows, in the form that these alone determine
pub record IsPackedForm (t r : Tree) : Type 0 where
  pub packed : IsPacked (kind_of t) (rows t) r
  pub same_rows : rows r ≡ rows t
  pub kind : kind_of r ≡ kind_of t

-- the first column of a name, null also where the records are
pub record IsColumnOf (t : Tree) (name : List ℕ) (r : Tree) : Type 0 where
  pub column : IsField t name r
  pub same_rows : rows r ≡ field_rows name (rows t)
  pub kind : kind_of r ≡ field_kind (is_full_state (tree_state t)) name (kind_of t)

-- no array at a position, one that has not the struct layout, or a name that none of its columns has
abbrev pub field_fault : List Tree → ℕ → List ℕ → Option Refusal
field_fault arrays i name = or_else (records_fault arrays i) (unknown_fault (place_of_name (names_of (array_at arrays i)) name))

-- what a step appends to arrays in which it finds no fault
abbrev pub IsColumnStep : ColumnStep → List Tree → Tree → Type 0
IsColumnStep (Of s) arrays r = (step_fault s arrays ≡ None) × IsStep s arrays r
IsColumnStep (Pack i) arrays r = (position_fault (length arrays) i ≡ None) × IsPackedForm (array_at arrays i) r
IsColumnStep (Field i name) arrays r = (field_fault arrays i name ≡ None) × IsColumnOf (array_at arrays i) name r

-- the rows at a position have no packed form
abbrev pub IsTooLargeAt : List Tree → ℕ → VortexError → Type 0
IsTooLargeAt arrays i e =
    (position_fault (length arrays) i ≡ None) × (e ≡ Overflow) × IsTooLarge (kind_of (array_at arrays i)) (rows (array_at arrays i))

-- why a step is refused: want of memory, or its first fault in these arrays
abbrev pub IsStepRefused : ColumnStep → List Tree → VortexError → Type 0
IsStepRefused (Of s) arrays e = IsMemoryOr (step_fault s arrays) e
IsStepRefused (Pack i) arrays e = IsMemoryOr (position_fault (length arrays) i) e ⊎ IsTooLargeAt arrays i e
IsStepRefused (Field i name) arrays e = IsMemoryOr (field_fault arrays i name) e

-- ---- lists of steps

-- the arrays after steps: each step finds no fault in the arrays before it, and appends one array
abbrev pub IsColumnRun : List ColumnStep → List Tree → List Tree → Type 0
IsColumnRun [] arrays results = results ≡ arrays
IsColumnRun (s ∷ ss) arrays results = (r : Tree) × IsColumnStep s arrays r × IsColumnRun ss (arrays ++ r ∷ []) results

-- the arrays after steps: the given ones in front, then one a step
pub record HasColumnRun (steps : List ColumnStep) (arrays results : List Tree) : Type 0 where
  pub len : length results ≡ length arrays + length steps
  pub given : take (length arrays) results ≡ arrays
  pub each : IsColumnRun steps arrays results

-- a step that finds these arrays is refused
abbrev pub IsColumnStop : List ColumnStep → ℕ → List Tree → VortexError → Type 0
IsColumnStop steps k arrays error = IsSomeAnd (slice_get steps k) (λ s. IsStepRefused s arrays error)

-- ---- laws

-- where all steps are those of vx_run, what is run is a run of theirs
abbrev pub RunsAreRuns : Type 0
RunsAreRuns =
    (steps : List Step) (arrays results : List Tree) → HasColumnRun (map Of steps) arrays results → HasRun steps arrays results

-- and what stops one stops the other
abbrev pub StopsAreStops : Type 0
StopsAreStops =
    (steps : List Step) (k : ℕ) (arrays : List Tree) (error : VortexError) → IsColumnStop (map Of steps) k arrays error
    → IsStop steps k arrays error
