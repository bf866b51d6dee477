-- The booleans of a mask, however they are kept.
use Rattle.std.specs.Prelude.{◌≡◌, ◌<◌, Bool, true, false, List, replicate}
use Rattle.vx_base.specs.declared.mask.MaskState.{MaskState}
use Rattle.vx_base.specs.declared.mask.MaskState.TheVariants.{AllTrue, AllFalse, Mixed}
use Rattle.vx_base.specs.Booleans.{IsMixed}

abbrev pub booleans_of : MaskState → List Bool
booleans_of (AllTrue run) = replicate run.1 true
booleans_of (AllFalse len) = replicate len false
booleans_of (Mixed values) = values

-- the run of all rows starts at the first, the empty mask is all true, and where runs are kept, both values stand
abbrev pub IsMixedState : MaskState → Type 0
IsMixedState (AllTrue run) = run.0 ≡ 0
IsMixedState (AllFalse len) = 0 < len
IsMixedState (Mixed values) = IsMixed values
