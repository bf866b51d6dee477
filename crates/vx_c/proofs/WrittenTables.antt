-- Tables that follow one another.
use Rattle.std.proofs.Common.{◌≡◌, ◌+◌, ◌≤◌, suc, List, [], ◌∷◌, ◌++◌, length, map, refl, sym, ◌∙◌, ap, subst, arith, rules, append_assoc, length-append, zero-add}
use Rattle.std.specs.List.{flat_map}
use Rattle.std.specs.Prelude.{Some, Ok}
use Rattle.std.proofs.lemmas.Grind.{flat_map-append}
use Rattle.std.proofs.lemmas.List.{append-nil, map-append}
use Rattle.vx_tree.specs.Tree.{Tree, Valid, non_nullable, all_valid, all_invalid, by_array}
use Rattle.vx_tree.specs.Meaning.{tree_len}
use Rattle.vx_c.specs.declared.table.CodraskNode.{CodraskNode}
use Rattle.vx_c.specs.declared.table.NodeKind.{NodeKind}
use Rattle.vx_c.specs.declared.written.WrittenNode.{WrittenNode}
use Rattle.vx_c.specs.declared.reading.TheConstants.{MAX_NODES}
use Rattle.vx_c.specs.NodeKinds.{kind_numbered, valid_number}
use Rattle.vx_c.specs.Tables.{arrays_from, node_made, layout_made, valid_of_number, then_node, at_node, only, column_of}
use Rattle.vx_c.specs.TablesOf.{table_of, valid_table}
use Rattle.vx_c.specs.Unflagged.{node_count, nodes_of, unflagged_valid}
use Rattle.vx_c.specs.Written.{AreTablesOf, IsWritten, IsPut, node_of, valid_trees}
use Rattle.vx_c.proofs.ExactTables.{exact-valid}
use Rattle.vx_c.proofs.Nodes.{node-made}

-- ---- tables

pub tables-none : AreTablesOf [] []
tables-none = λ i rest others h. ap (λ k. arrays_from k rest) (sym (zero-add i)) ∙ h

pub tables-both : (ns ms : List CodraskNode) (ts us : List Tree) → AreTablesOf ns ts → AreTablesOf ms us → AreTablesOf (ns ++ ms) (ts ++ us)
tables-both ns ms ts us first second = λ i rest others h.
    let at : length ms + (length ns + i) ≡ length (ns ++ ms) + i = omega (arith, length-append ns ms) in
    let behind = second (length ns + i) rest others (ap (λ k. arrays_from k rest) at ∙ h) in
    ap (arrays_from i) (append_assoc ns ms rest) ∙ first i (ms ++ rest) (us ++ others) behind ∙ ap Ok (sym (append_assoc ts us others))

pub tables-node : (n : CodraskNode) (ns : List CodraskNode) (ts : List Tree) (t : Tree) → AreTablesOf ns ts
    → ((others : List Tree) → node_made n (ts ++ others) ≡ Ok (t ∷ others)) → AreTablesOf (n ∷ ns) (t ∷ [])
tables-node n ns ts t parts made = λ i rest others h.
    let at : length ns + suc i ≡ suc (length ns) + i = omega arith in
    let behind : arrays_from (suc i) (ns ++ rest) ≡ Ok (ts ++ others) = parts (suc i) rest others (ap (λ k. arrays_from k rest) at ∙ h) in
    ap (then_node i n) behind ∙ ap (at_node i) (made others)

append_none : (ns : List CodraskNode) → ns ++ [] ≡ ns
append_none [] = refl
append_none (n ∷ ns) = ap (λ ms. n ∷ ms) (append_none ns)

-- the table of an array is a column
pub tables-column : (ns : List CodraskNode) (t : Tree) → AreTablesOf ns (t ∷ []) → length ns ≤ MAX_NODES → column_of ns ≡ Ok t
tables-column ns t is short = fits
  where
    read : only (arrays_from 0 ns) ≡ Ok t
    read = ap (λ ms. only (arrays_from 0 ms)) (sym (append_none ns)) ∙ ap only (is 0 [] [] refl)

    fits : column_of ns ≡ Ok t
    fits = search (rules, arith, short, read)

-- ---- what is written

nodes_of-append : (ts us : List Tree) → nodes_of (ts ++ us) ≡ nodes_of ts + nodes_of us
nodes_of-append [] us = sym (zero-add (nodes_of us))
nodes_of-append (t ∷ ts) us = omega (arith, nodes_of-append ts us)

append_nothing : (ws : List WrittenNode) → ws ≡ ws ++ []
append_nothing [] = refl
append_nothing (w ∷ ws) = ap (λ xs. w ∷ xs) (append_nothing ws)

pub none_written : (old : List WrittenNode) → IsWritten old [] old
none_written old = record { more = []; put = append_nothing old; len = refl; tables = tables-none; exact = refl }

pub written-both : (old mid new : List WrittenNode) (ts us : List Tree) → IsWritten old ts mid → IsWritten mid us new → IsWritten old (ts ++ us) new
written-both old mid new ts us first second = record {
  more = first.more ++ second.more;
  put = second.put ∙ ap (λ ws. ws ++ second.more) first.put ∙ append_assoc old first.more second.more;
  len = omega (arith, length-append first.more second.more, first.len, second.len, nodes_of-append ts us);
  tables = subst (λ ns. AreTablesOf ns (ts ++ us)) (sym (map-append node_of first.more second.more))
      (tables-both (map node_of first.more) (map node_of second.more) ts us first.tables second.tables);
  exact = map-append node_of first.more second.more ∙ (λ j. first.exact j ++ second.exact j) ∙ sym (flat_map-append table_of ts us);
}

written-node : (w : WrittenNode) (old mid new : List WrittenNode) (ts : List Tree) (t : Tree) → mid ≡ old ++ w ∷ [] → IsWritten mid ts new
    → ((others : List Tree) → node_made (node_of w) (ts ++ others) ≡ Ok (t ∷ others)) → node_count t ≡ suc (nodes_of ts)
    → node_of w ∷ flat_map table_of ts ≡ table_of t → IsWritten old (t ∷ []) new
written-node w old mid new ts t first parts made count exact = record {
  more = w ∷ parts.more;
  put = parts.put ∙ ap (λ ws. ws ++ parts.more) first ∙ append_assoc old (w ∷ []) parts.more;
  len = omega (arith, parts.len, count);
  tables = tables-node (node_of w) (map node_of parts.more) ts t parts.tables made;
  exact = ap (λ (ns : List CodraskNode). node_of w ∷ ns) parts.exact ∙ exact ∙ sym (append-nil (table_of t));
}

-- ---- one node with its validity

valid-read : (v : Valid) (others : List Tree) → valid_of_number (valid_number v) (valid_trees v ++ others) ≡ Ok (v, others)
valid-read non_nullable others = refl
valid-read all_valid others = refl
valid-read all_invalid others = refl
valid-read (by_array t) others = refl

pub node-read : (n : CodraskNode) (k : NodeKind) (v : Valid) (us others : List Tree) (t : Tree) → kind_numbered n.kind ≡ Some k → n.validity ≡ valid_number v
    → layout_made k n v (us ++ others) ≡ Ok (t, others) → tree_len t ≡ n.length → node_made n ((valid_trees v ++ us) ++ others) ≡ Ok (t ∷ others)
node-read n k v us others t known number made len =
    let validity : valid_of_number n.validity (valid_trees v ++ (us ++ others)) ≡ Ok (v, us ++ others) =
    ap (λ x. valid_of_number x (valid_trees v ++ (us ++ others))) number ∙ valid-read v (us ++ others) in
    ap (node_made n) (append_assoc (valid_trees v) us others)
    ∙ node-made n (valid_trees v ++ (us ++ others)) (us ++ others) others k v t known validity made len

pub valid_number-kept : (v : Valid) → valid_number v ≡ valid_number (unflagged_valid v)
valid_number-kept non_nullable = refl
valid_number-kept all_valid = refl
valid_number-kept all_invalid = refl
valid_number-kept (by_array t) = refl

-- an array whose node, validity and parts were put after some nodes
pub parts-written : (w : WrittenNode) (k : NodeKind) (v : Valid) (old mid new : List WrittenNode) (us : List Tree) (t : Tree)
    → kind_numbered (node_of w).kind ≡ Some k → w.validity ≡ valid_number v → IsPut w v old mid → IsWritten mid us new
    → ((others : List Tree) → layout_made k (node_of w) (unflagged_valid v) (us ++ others) ≡ Ok (t, others)) → tree_len t ≡ w.length
    → node_count t ≡ suc (nodes_of (valid_trees (unflagged_valid v) ++ us))
    → node_of w ∷ (valid_table (unflagged_valid v) ++ flat_map table_of us) ≡ table_of t → IsWritten old (t ∷ []) new
parts-written w k v old mid new us t known number put parts made len count exact =
    let u = unflagged_valid v in
    let all : IsWritten put.mid (valid_trees u ++ us) new = written-both put.mid mid new (valid_trees u) us put.valid parts in
    written-node w old put.mid new (valid_trees u ++ us) t put.first all
    (λ others. node-read (node_of w) k u us others t known (number ∙ valid_number-kept v) (made others) len) count
    (ap (λ (ns : List CodraskNode). node_of w ∷ ns) (exact-valid u us) ∙ exact)

pub leaf-written : (w : WrittenNode) (k : NodeKind) (v : Valid) (old new : List WrittenNode) (t : Tree)
    → kind_numbered (node_of w).kind ≡ Some k → w.validity ≡ valid_number v → IsPut w v old new
    → ((others : List Tree) → layout_made k (node_of w) (unflagged_valid v) others ≡ Ok (t, others)) → tree_len t ≡ w.length
    → node_count t ≡ suc (nodes_of (valid_trees (unflagged_valid v) ++ [])) → node_of w ∷ valid_table (unflagged_valid v) ≡ table_of t
    → IsWritten old (t ∷ []) new
leaf-written w k v old new t known number put made len count exact =
    parts-written w k v old new new [] t known number put (none_written new) made len count
    (ap (λ (ns : List CodraskNode). node_of w ∷ ns) (append-nil (valid_table (unflagged_valid v))) ∙ exact)
