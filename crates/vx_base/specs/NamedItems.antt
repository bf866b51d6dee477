-- Items with a name each.
use Rattle.std.specs.Prelude.{ℕ, List, map}

-- the names, in order
abbrev pub names_in : {X : Type 0} → List (List ℕ × X) → List (List ℕ)
names_in ns = map (λ n. n.0) ns

-- the items, in order
abbrev pub items_in : {X : Type 0} → List (List ℕ × X) → List X
items_in ns = map (λ n. n.1) ns
