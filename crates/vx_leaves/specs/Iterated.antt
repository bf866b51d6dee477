-- What an iterator gives: places at which truth values are true, and items that may be none.
use Rattle.std.specs.Prelude.{◌≡◌, ◌≤◌, ◌<◌, ◌↔◌, ℕ, Bool, List, length, map, All, Contains, IsTrue, Option, Some, unwrap_or}
use Rattle.std.specs.Option.{is_some}
use Rattle.std.specs.Iterator.{YieldsThen, Drains}
use Rattle.vx_base.specs.Bits.{bool_at}

-- n truth values, true just at the indices
pub record AreMarked (n : ℕ) (indices : List ℕ) (bits : List Bool) : Type 0 where
  pub len : length bits ≡ n
  pub each : (k : ℕ) → IsTrue (bool_at bits k) ↔ Contains indices k

-- the items of an iterator, all of them below n
pub record AllBelow {S : Type 0} (steps : S → Option ℕ → S → Type 0) (s : S) (n : ℕ) (items : List ℕ) : Type 0 where
  pub came : Drains steps s items
  pub below : All (λ i. i < n) items

-- an item of an iterator that is the first not to be below n
pub record IsFirstPast {S : Type 0} (steps : S → Option ℕ → S → Type 0) (s : S) (n : ℕ) (item : ℕ) : Type 0 where
  pub before : List ℕ
  pub rest : S
  pub came : YieldsThen steps s before (Some item) rest
  pub below : All (λ i. i < n) before
  pub past : n ≤ item

-- what the items of an iterator are, with another in the place of none, and which are there
pub record AreOptions {S A : Type 0} (steps : S → Option (Option A) → S → Type 0) (s : S) (other : A)
    (items : List A) (present : List Bool) : Type 0 where
  pub all : List (Option A)
  pub came : Drains steps s all
  pub given : items ≡ map (λ x. unwrap_or x other) all
  pub there : present ≡ map is_some all
