-- Columns in the one form that their rows have.
use Rattle.std.specs.Prelude.{◌≡◌, ◌⊎◌, ◌<◌, ℕ, List, length, get_or, Result, MatchResult, Option, None}
use Rattle.vx_base.specs.Kinds.{Kind}
use Rattle.vx_base.specs.Refusals.{Refusal, IsMemoryOr}
use Rattle.vx_base.specs.Rows.{Row}
use Rattle.vx_base.specs.declared.errors.VortexError.{VortexError}
use Rattle.vx_tree.specs.Meaning.{kind_of, rows}
use Rattle.vx_tree.specs.Tree.{Tree}
use Rattle.vx_pack.specs.Packed.{IsPackRefused, IsPacked, IsTooLarge}

-- whatever has this kind and these rows, in any layout, packs to this tree and to no other
abbrev pub IsFormOfAll : Kind → List Row → Tree → Type 0
IsFormOfAll k rs t = (u p : Tree) → kind_of u ≡ k → rows u ≡ rs → IsPacked (kind_of u) (rows u) p → p ≡ t

-- what packs to itself
abbrev pub IsPackedForm : Tree → Type 0
IsPackedForm t = IsPacked (kind_of t) (rows t) t

-- rows are picked and then packed: Ok only where nothing refuses the picking and a packed form can be held; else want of
-- memory, what refuses the picking, and then that they are too large
abbrev pub RefusesPicked : {A : Type 0} → Result A VortexError → Option Refusal → Kind → List Row → Type 0
RefusesPicked r fault k rs =
    MatchResult r (λ _. (fault ≡ None) × ¬ IsTooLarge k rs) (λ e. IsMemoryOr fault e ⊎ ((fault ≡ None) × IsPackRefused k rs e))

-- the same kind and the same rows, whatever the layouts
abbrev pub HaveSameRows : Tree → Tree → Type 0
HaveSameRows t u = (kind_of t ≡ kind_of u) × (rows t ≡ rows u)

-- the column at a place has the kind and the rows of another
abbrev pub HasRowsAt : List Tree → Tree → ℕ → Type 0
HasRowsAt ts t i = HaveSameRows (get_or ts i t) t

-- no two columns have the same kind and the same rows
abbrev pub AreDistinct : List Tree → Type 0
AreDistinct ts = (i j : ℕ) (d : Tree) → i < j → j < length ts → ¬ HaveSameRows (get_or ts i d) (get_or ts j d)
