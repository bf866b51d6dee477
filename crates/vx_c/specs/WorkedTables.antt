-- Small tables, worked by hand: some are the arrays that vx_tree works by hand, and some are refused.
use Rattle.std.specs.Prelude.{ℕ, List, [], ◌∷◌}
use Rattle.vx_c.specs.declared.table.CodraskNode.{CodraskNode}
use Rattle.vx_c.specs.TablesOf.{node_numbered}

-- the numbers -2 and 513 in two bytes each, the lower byte first
abbrev pub numbers_table : List CodraskNode
numbers_table = node_numbered 6 0 2 0 0 (254 ∷ 255 ∷ 1 ∷ 2 ∷ []) [] [] ∷ []

-- true, null and false: the bits 0, 0, 1, 1, 0 from the third on, and which rows are valid, the bits 1, 0, 1
abbrev pub nulls_table : List CodraskNode
nulls_table = node_numbered 0 3 3 0 2 (12 ∷ []) [] [] ∷ node_numbered 0 0 3 0 0 (5 ∷ []) [] [] ∷ []

-- numbers of four bytes
abbrev pub words_node : List ℕ → CodraskNode
words_node bs = node_numbered 3 0 3 0 0 bs [] []

-- three lists over the numbers 1 to 4, by offsets and sizes
abbrev pub lists_table : List ℕ → List ℕ → List CodraskNode
lists_table offsets sizes =
    node_numbered 13 0 3 0 0 [] [] []
    ∷ node_numbered 1 0 4 0 0 (1 ∷ 2 ∷ 3 ∷ 4 ∷ []) [] [] ∷ words_node offsets ∷ words_node sizes ∷ []

-- the offsets 2, 0, 1 and the sizes 2, 1, 2
abbrev pub overlapping_table : List CodraskNode
overlapping_table =
    lists_table (2 ∷ 0 ∷ 0 ∷ 0 ∷ 0 ∷ 0 ∷ 0 ∷ 0 ∷ 1 ∷ 0 ∷ 0 ∷ 0 ∷ [])
    (2 ∷ 0 ∷ 0 ∷ 0 ∷ 1 ∷ 0 ∷ 0 ∷ 0 ∷ 2 ∷ 0 ∷ 0 ∷ 0 ∷ [])

-- the same with 4 as the last size: that list ends at 5, past the four elements
abbrev pub long_list_table : List CodraskNode
long_list_table =
    lists_table (2 ∷ 0 ∷ 0 ∷ 0 ∷ 0 ∷ 0 ∷ 0 ∷ 0 ∷ 1 ∷ 0 ∷ 0 ∷ 0 ∷ [])
    (2 ∷ 0 ∷ 0 ∷ 0 ∷ 1 ∷ 0 ∷ 0 ∷ 0 ∷ 4 ∷ 0 ∷ 0 ∷ 0 ∷ [])

-- numbers of two bytes that have three bytes, and behind them a node of no kind
abbrev pub two_faults_table : List CodraskNode
two_faults_table = node_numbered 6 0 2 0 0 (254 ∷ 255 ∷ 1 ∷ []) [] [] ∷ node_numbered 15 0 0 0 0 [] [] [] ∷ []

-- lists without elements, offsets and sizes
abbrev pub lone_list_table : List CodraskNode
lone_list_table = node_numbered 13 0 0 0 0 [] [] [] ∷ []

-- two columns
abbrev pub two_columns_table : List CodraskNode
two_columns_table = node_numbered 1 0 1 0 0 (7 ∷ []) [] [] ∷ node_numbered 1 0 1 0 0 (8 ∷ []) [] [] ∷ []
