-- Columns of tables, by their names.
use Rattle.std.specs.Prelude.{ℕ, List, [], ◌∷◌, Option, Some, None}
use Rattle.std.specs.List.{filter_map}
use Rattle.vx_base.specs.Refusals.{Refusal, unknown_field}
use Rattle.vx_base.specs.Rows.{Row}
use Rattle.vx_canonical.specs.Concatenated.{concat_fault}
use Rattle.vx_tree.specs.Meaning.{rows}
use Rattle.vx_tree.specs.Tree.{Tree}
use Rattle.vx_structs.specs.Structs.{column_named, with_columns}

-- the rows of a column: none where there is no column
abbrev pub rows_in : Option Tree → List Row
rows_in None = []
rows_in (Some column) = rows column

-- the rows of the first column of a name
abbrev pub rows_named : Tree → List ℕ → List Row
rows_named t name = rows_in (column_named t name)

-- why two columns are not joined: either is missing; else what refuses the one after the other
abbrev pub join_fault : Option Tree → Option Tree → Option Refusal
join_fault None d = Some unknown_field
join_fault (Some c) None = Some unknown_field
join_fault (Some c) (Some d) = concat_fault (c ∷ d ∷ [])

-- the table of the first column of each of these names
abbrev pub chosen : Tree → List (List ℕ) → Tree
chosen t names = with_columns t names (filter_map (column_named t) names)
