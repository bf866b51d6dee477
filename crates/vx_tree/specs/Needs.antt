-- What arrays need where they are taken, made plain and joined: as much as others in the same layouts.
use Rattle.std.specs.Prelude.{◌≡◌, ℕ}
use Rattle.vx_tree.specs.Tree.{Tree, Trees}
use Rattle.vx_tree.specs.Faults.{take_overflow, columns_overflow}
use Rattle.vx_tree.specs.Extents.{extent_of, extents_of}
use Rattle.vx_tree.specs.CanonicalFaults.{rows_canonical_fault, columns_canonical_fault}

-- an array needs the elements and the buffers of another one: so many of its rows have the same fault where they are taken, and
-- where they are made plain
pub record HasNeedsOf (t r : Tree) : Type 0 where
  pub extent : extent_of r ≡ extent_of t
  pub take : (n : ℕ) → take_overflow r n ≡ take_overflow t n
  pub canonical : (n : ℕ) → rows_canonical_fault r n ≡ rows_canonical_fault t n

-- columns, one by one
pub record HaveNeedsOf (ts us : Trees) : Type 0 where
  pub extents : extents_of us ≡ extents_of ts
  pub take : (n : ℕ) → columns_overflow us n ≡ columns_overflow ts n
  pub canonical : (n : ℕ) → columns_canonical_fault us n ≡ columns_canonical_fault ts n
