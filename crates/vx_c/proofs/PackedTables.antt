-- Packed arrays, as a run writes them.
use Rattle.std.proofs.Common.{◌≡◌, List, map, ◌∙◌, ap, subst}
use Rattle.std.specs.Prelude.{Ok}
use Rattle.vx_base.specs.Kinds.{Kind}
use Rattle.vx_base.specs.Rows.{Row}
use Rattle.vx_tree.specs.Plain.{IsPlain}
use Rattle.vx_tree.specs.Tree.{Tree}
use Rattle.vx_pack.specs.Packed.{IsPacked}
use Rattle.vx_pack.proofs.PackedOne.{packed_is_one}
use Rattle.vx_c.specs.declared.table.CodraskTable.{CodraskTable}
use Rattle.vx_c.specs.Runs.{IsExactTable, IsReadBack, column_in}
use Rattle.vx_c.specs.Unflagged.{unflagged}
use Rattle.vx_c.specs.Written.{plainly}
use Rattle.vx_c.proofs.ExactRuns.{exact_same}
use Rattle.vx_c.proofs.PackedPlain.{packed_plain}
use Rattle.vx_c.proofs.ReadBack.{read_plain}

-- the column that a table is, of which a plain array is read back
column_is : (table : CodraskTable) (t : Tree) → IsPlain t → IsReadBack t (column_in table) → column_in table ≡ Ok (unflagged t)
column_is table t plain back =
    back.is ∙ ap Ok (read_plain t (unflagged back.plain) plain (subst (IsReadBack t) back.is back))

-- the tables of two packed arrays of the same rows
pub packed_tables_same : (a b : CodraskTable) (k : Kind) (rs : List Row) (t u : Tree) → IsPacked k rs t → IsPacked k rs u
    → IsReadBack t (column_in a) → IsReadBack u (column_in b) → IsExactTable a → IsExactTable b → map plainly a.nodes.now ≡ map plainly b.nodes.now
packed_tables_same a b k rs t u first second read again left right =
    exact_same a b (unflagged t) left right (column_is a t (packed_plain k rs t first) read)
    (column_is b u (packed_plain k rs u second) again ∙ ap (λ x. Ok (unflagged x)) (packed_is_one k rs u t second first))
