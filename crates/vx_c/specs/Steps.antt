-- Which step C means, and why a step is none.
use Rattle.std.specs.Prelude.{◌≡◌, ℕ, Bool, List, map, Option, Some, None}
use Rattle.std.specs.Global.{Vec}
use Rattle.std.specs.Option.{option_map}
use Rattle.vx_lists.specs.declared.list_view.rebuild.ListViewRebuildMode.{ListViewRebuildMode}
use Rattle.vx_run.specs.declared.steps.Step.TheVariants as step
use Rattle.vx_c.specs.declared.column_steps.ColumnStep.{ColumnStep}
use Rattle.vx_c.specs.declared.column_steps.ColumnStep.TheVariants as column
use Rattle.vx_c.specs.declared.steps.CodraskStep.{CodraskStep}
use Rattle.vx_c.specs.declared.steps.StepKind.{StepKind}
use Rattle.vx_c.specs.declared.steps.StepKind.TheVariants.{Slice, Take, Filter, Mask, Concat, Canonical, Rebuild, Narrow, Project}
use Rattle.vx_c.specs.declared.steps.StepKind.TheVariants.{WithColumn, RemoveColumn, PushValidity, Pack, Field}
use Rattle.vx_c.specs.StepKinds.{step_numbered, mode_numbered, flag_numbered}
use Rattle.vx_c.specs.Tables.{NodeFault, unknown_kind, bad_mode, refused, utf8_fault, names_fault}

-- ---- what a step has

abbrev pub names_in : CodraskStep → List (List ℕ)
names_in c = map (λ b. b.bytes.now) c.names.now

-- ---- what it means

-- the step of a kind that C means
abbrev pub MeansStep : Option StepKind → CodraskStep → ColumnStep → Type 0
MeansStep None c s = ⊥
MeansStep (Some Slice) c s = s ≡ column.Of (step.Slice c.array c.start c.end)
MeansStep (Some Take) c s = s ≡ column.Of (step.Take c.array c.other)
MeansStep (Some Filter) c s = s ≡ column.Of (step.Filter c.array c.other)
MeansStep (Some Mask) c s = s ≡ column.Of (step.Mask c.array c.other)
MeansStep (Some Concat) c s = (arrays : Vec ℕ) × (arrays.items ≡ c.arrays.now) × (s ≡ column.Of (step.Concat arrays))
MeansStep (Some Canonical) c s = s ≡ column.Of (step.Canonical c.array)
MeansStep (Some Rebuild) c s =
    (mode : ListViewRebuildMode) × (mode_numbered c.mode ≡ Some mode) × (s ≡ column.Of (step.Rebuild c.array mode))
MeansStep (Some Narrow) c s = s ≡ column.Of (step.Narrow c.array)
MeansStep (Some Project) c s = (names : Vec (List ℕ)) × (names.items ≡ names_in c) × (s ≡ column.Of (step.Project c.array names))
MeansStep (Some WithColumn) c s = s ≡ column.Of (step.WithColumn c.array c.name.now c.other)
MeansStep (Some RemoveColumn) c s = s ≡ column.Of (step.RemoveColumn c.array c.name.now)
MeansStep (Some PushValidity) c s =
    (remove : Bool) × (flag_numbered c.mode ≡ Some remove) × (s ≡ column.Of (step.PushValidity c.array remove))
MeansStep (Some Pack) c s = s ≡ column.Pack c.array
MeansStep (Some Field) c s = s ≡ column.Field c.array c.name.now

-- ---- why it is none

-- a mode that is not there
abbrev pub mode_fault : {A : Type 0} → Option A → Option NodeFault
mode_fault None = Some bad_mode
mode_fault (Some mode) = None

-- no kind has the number, the kind has no such mode, or a name is no text
abbrev pub form_fault : Option StepKind → CodraskStep → Option NodeFault
form_fault None c = Some unknown_kind
form_fault (Some Rebuild) c = mode_fault (mode_numbered c.mode)
form_fault (Some PushValidity) c = mode_fault (flag_numbered c.mode)
form_fault (Some Project) c = option_map refused (names_fault (names_in c))
form_fault (Some WithColumn) c = option_map refused (utf8_fault c.name.now 0)
form_fault (Some RemoveColumn) c = option_map refused (utf8_fault c.name.now 0)
form_fault (Some Field) c = option_map refused (utf8_fault c.name.now 0)
form_fault (Some _) c = None

abbrev pub step_form_fault : CodraskStep → Option NodeFault
step_form_fault c = form_fault (step_numbered c.kind) c

-- ---- both

-- the step that C means, which has no fault
abbrev pub IsStepOf : CodraskStep → ColumnStep → Type 0
IsStepOf c s = MeansStep (step_numbered c.kind) c s × (step_form_fault c ≡ None)
