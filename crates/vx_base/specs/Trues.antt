-- The places at which a mask is true.
use Rattle.std.specs.Prelude.{◌≡◌, ◌<◌, ◌≤◌, ℕ, Bool, List, length}
use Rattle.std.specs.List.{filter, range_with_len}
use Rattle.vx_base.specs.Bits.{bool_at}

-- the positions at which a mask is true, in order
abbrev pub trues : List Bool → List ℕ
trues mask = filter (bool_at mask) (range_with_len 0 (length mask))

-- the booleans from a place up to another are all this one
abbrev pub AreAll : List Bool → ℕ → ℕ → Bool → Type 0
AreAll bits start end value = (k : ℕ) → start ≤ k → k < end → bool_at bits k ≡ value
