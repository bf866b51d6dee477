-- Lists of booleans, as masks are.
use Rattle.std.specs.Prelude.{◌<◌, ◌^◌, ℕ, Bool, List, Option, Some, None, length, count_by, nat_lt, if◌then◌else◌}
use Rattle.std.specs.List.{flat_map}
use Rattle.vx_base.specs.Refusals.{Refusal, overflow}

-- both values stand
abbrev pub IsMixed : List Bool → Type 0
IsMixed bs = (0 < count_by (λ b. b) bs) × (count_by (λ b. b) bs < length bs)

-- the booleans of several lists, one list after another
abbrev pub joined : List (List Bool) → List Bool
joined lists = flat_map (λ bs. bs) lists

-- so many cannot be counted
abbrev pub count_fault : ℕ → Option Refusal
count_fault n = if nat_lt n (2 ^ 64) then None else Some overflow
