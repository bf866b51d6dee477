use Rattle.std.proofs.Common.{◌≡◌, take, None}
use Rattle.std.specs.List.{AllZip}
use Rattle.vx_tree.specs.Meaning.{trees_from}
use Rattle.vx_canonical.specs.Canonical.{IsCanonical, IsCanonicalAt, IsCanonicalWithin, IsPickedWithin}
use Rattle.vx_tree.specs.CanonicalFaults.{columns_fault}
use Rattle.vx_canonical.proofs.canonical.+canonical.Given as goal

abbrev pub invariant-canonical_columns-loop-column : goal.invariant-canonical_columns-loop-column
invariant-canonical_columns-loop-column l = AllZip IsCanonical (take l.column-index l.columns) l.made.items × (columns_fault (trees_from (take l.column-index l.columns)) ≡ None) × AllZip IsCanonicalWithin (take l.column-index l.columns) l.made.items

abbrev pub invariant-canonical_columns_at-loop-column : goal.invariant-canonical_columns_at-loop-column
invariant-canonical_columns_at-loop-column l =
    AllZip (λ t u. IsCanonicalAt t l.fn.selection u) (take l.column-index l.columns) l.made.items × (columns_fault (trees_from (take l.column-index l.columns)) ≡ None) × AllZip IsPickedWithin (take l.column-index l.columns) l.made.items
