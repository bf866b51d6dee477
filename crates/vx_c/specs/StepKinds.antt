-- The number of each kind of step, and of its modes.
use Rattle.std.specs.Prelude.{ℕ, Bool, true, false, List, [], ◌∷◌, Option, slice_get}
use Rattle.vx_lists.specs.declared.list_view.rebuild.ListViewRebuildMode.{ListViewRebuildMode}
use Rattle.vx_lists.specs.declared.list_view.rebuild.ListViewRebuildMode.TheVariants.{MakeZeroCopyToList, TrimElements, MakeExact, OverlapCompression}
use Rattle.vx_c.specs.declared.steps.StepKind.{StepKind}
use Rattle.vx_c.specs.declared.steps.StepKind.TheVariants.{Slice, Take, Filter, Mask, Concat, Canonical, Rebuild, Narrow, Project}
use Rattle.vx_c.specs.declared.steps.StepKind.TheVariants.{WithColumn, RemoveColumn, PushValidity, Pack, Field}

abbrev pub step_kinds : List StepKind
step_kinds =
    Slice ∷ Take ∷ Filter ∷ Mask ∷ Concat ∷ Canonical ∷ Rebuild ∷ Narrow ∷ Project
    ∷ WithColumn ∷ RemoveColumn ∷ PushValidity ∷ Pack ∷ Field ∷ []

-- the kind of a number, if there is one
abbrev pub step_numbered : ℕ → Option StepKind
step_numbered n = slice_get step_kinds n

abbrev pub modes : List ListViewRebuildMode
modes = MakeZeroCopyToList ∷ TrimElements ∷ MakeExact ∷ OverlapCompression ∷ []

-- how lists are laid out anew
abbrev pub mode_numbered : ℕ → Option ListViewRebuildMode
mode_numbered n = slice_get modes n

-- whether no record is null any more
abbrev pub flag_numbered : ℕ → Option Bool
flag_numbered n = slice_get (false ∷ true ∷ []) n
