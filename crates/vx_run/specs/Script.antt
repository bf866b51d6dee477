-- What a script makes of a step, and of its input.
use Rattle.std.specs.Prelude.{◌≡◌, ◌≤◌, ℕ, List, length, Option}
use Rattle.std.specs.Io.KnownBytes.{Consumes}
use Rattle.vx_base.specs.declared.errors.VortexError.{VortexError}
use Rattle.vx_base.specs.Refusals.{IsMemoryOr}
use Rattle.vx_tree.specs.Tree.{Tree}
use Rattle.vx_run.specs.declared.faults.LineFault.{LineFault}
use Rattle.vx_run.specs.declared.faults.LineFault.TheVariants.{Refused}
use Rattle.vx_run.specs.declared.steps.Step.{Step}
use Rattle.vx_run.specs.Steps.{step_fault}

-- a line whose step is refused by its first fault, or for want of memory
abbrev pub IsRefusedStep : Step → List Tree → LineFault → Type 0
IsRefusedStep step arrays fault = (error : VortexError) × (fault ≡ Refused error) × IsMemoryOr (step_fault step arrays) error

-- of its known bytes a reader loses the first ones, so many at most
abbrev pub ConsumesAtMost : ℕ → Option (List ℕ) → Option (List ℕ) → Type 0
ConsumesAtMost most before after = (bytes : List ℕ) × Consumes before after bytes × (length bytes ≤ most)
