use Rattle.std.proofs.Common.{◌≡◌, take, None}
use Rattle.std.specs.List.{AllZip}
use Rattle.vx_tree.specs.Meaning.{trees_from}
use Rattle.vx_canonical.specs.Canonical.{IsCanonical, IsCanonicalWithin}
use Rattle.vx_tree.specs.CanonicalFaults.{columns_fault}
use Rattle.vx_canonical.proofs.concat.plain_arrays.Given as goal

abbrev pub invariant-loop-array : goal.invariant-loop-array
invariant-loop-array l = AllZip IsCanonical (take l.array-index l.arrays) l.plain.items × (columns_fault (trees_from (take l.array-index l.arrays)) ≡ None) × AllZip IsCanonicalWithin (take l.array-index l.arrays) l.plain.items
