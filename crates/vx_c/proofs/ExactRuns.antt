-- The tables of a run are the tables of their columns, byte for byte.
use Rattle.std.proofs.Common.{◌≡◌, ◌≤◌, List, [], ◌∷◌, ◌++◌, length, map, sym, ◌∙◌, ap, subst, arith}
use Rattle.std.specs.Prelude.{Ok}
use Rattle.std.specs.List.{All}
use Rattle.std.proofs.lemmas.List.{append-nil, length-map}
use Rattle.std.proofs.lemmas.List.Elements.{All-append, All-cons, All-head, All-map, All-nil, All-tail}
use Rattle.vx_tree.specs.Tree.{Tree}
use Rattle.vx_c.specs.declared.reading.TheConstants.{MAX_NODES}
use Rattle.vx_c.specs.declared.table.CodraskNode.{CodraskNode}
use Rattle.vx_c.specs.declared.table.CodraskTable.{CodraskTable}
use Rattle.vx_c.specs.declared.written.WrittenNode.{WrittenNode}
use Rattle.vx_c.specs.declared.written.WrittenTable.{WrittenTable}
use Rattle.vx_c.specs.Tables.{column_of}
use Rattle.vx_c.specs.TablesOf.{table_of}
use Rattle.vx_c.specs.Unflagged.{unflagged, node_count}
use Rattle.vx_c.specs.Written.{IsWritten, plainly, node_of}
use Rattle.vx_c.specs.Runs.{AreExact, IsExactTable}
use Rattle.vx_c.proofs.ReadBack.{column_or}
use Rattle.vx_c.proofs.RunParts.{written_alone}
use Rattle.vx_c.proofs.SameNodes.{same-column}
use Rattle.vx_c.proofs.WrittenTables.{tables-column}

-- the nodes that were written where there were none
pub exact_made : (c : Tree) (nodes made : List WrittenNode) → IsWritten [] (unflagged c ∷ []) nodes → node_count c ≤ MAX_NODES → made ≡ nodes
    → AreExact (map node_of made)
exact_made c nodes made written short kept t is =
    let same : map node_of made ≡ map node_of written.more = ap (map node_of) (kept ∙ written.put) in
    let counted : length (map node_of written.more) ≤ MAX_NODES =
    omega (arith, length-map written.more node_of, ap length written.put, written_alone c nodes written, short) in
    let read : column_of (map node_of made) ≡ Ok (unflagged c) = ap column_of same ∙ tables-column (map node_of written.more) (unflagged c) written.tables counted in
    let column : unflagged c ≡ t = ap (column_or t) (sym read ∙ is) in
    same ∙ written.exact ∙ append-nil (table_of (unflagged c)) ∙ ap table_of column

-- one table more
pub exact_more : (tables made : List WrittenTable) (t : WrittenTable) → All (λ (w : WrittenTable). AreExact (map node_of w.nodes.items)) tables
    → AreExact (map node_of t.nodes.items) → made ≡ tables ++ t ∷ [] → All (λ (w : WrittenTable). AreExact (map node_of w.nodes.items)) made
exact_more tables made t before here pushed =
    let P : WrittenTable → Type 0 = λ w. AreExact (map node_of w.nodes.items) in
    subst (All P) (sym pushed) (All-append P tables (t ∷ []) before (All-cons P t [] here (All-nil P)))

-- tables that are lent
exact_each : (tables : List CodraskTable) → All AreExact (map (λ (t : CodraskTable). map plainly t.nodes.now) tables) → All IsExactTable tables
exact_each [] all = All-nil IsExactTable
exact_each (t ∷ ts) all =
    let rest : List (List CodraskNode) = map (λ (u : CodraskTable). map plainly u.nodes.now) ts in
    let first : AreExact (map plainly t.nodes.now) = All-head AreExact (map plainly t.nodes.now) rest all in
    All-cons IsExactTable t ts (λ c is. first c (same-column t.nodes.now ∙ is)) (exact_each ts (All-tail AreExact (map plainly t.nodes.now) rest all))

pub exact_lent : (tables : List CodraskTable) (written : List WrittenTable) → All (λ (w : WrittenTable). AreExact (map node_of w.nodes.items)) written
    → map (λ (t : CodraskTable). map plainly t.nodes.now) tables ≡ map (λ (w : WrittenTable). map node_of w.nodes.items) written → All IsExactTable tables
exact_lent tables written all same =
    exact_each tables (subst (All AreExact) (sym same) (All-map AreExact (λ (w : WrittenTable). map node_of w.nodes.items) written all))

-- two tables of a column
pub exact_same : (a b : CodraskTable) (t : Tree) → IsExactTable a → IsExactTable b → column_of a.nodes.now ≡ Ok t → column_of b.nodes.now ≡ Ok t
    → map plainly a.nodes.now ≡ map plainly b.nodes.now
exact_same a b t left right is same = left t is ∙ sym (right t same)
