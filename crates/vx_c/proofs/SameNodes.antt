-- A table says the same wherever its blocks lie.
use Rattle.std.proofs.Common.{◌≡◌, ℕ, suc, List, [], ◌∷◌, length, map, take, drop, refl, sym, ◌∙◌, ap}
use Rattle.std.specs.Prelude.{Option, Some, None, Result, Ok, Err, nat_lt, if◌then◌else◌}
use Rattle.std.specs.Global.{Vec}
use Rattle.std.proofs.lemmas.Simd.{map-map}
use Rattle.vx_base.specs.Kinds.{Kind, texts, binaries}
use Rattle.vx_base.specs.Refusals.{or_else}
use Rattle.vx_structs.specs.Structs.Faults.{struct_fault}
use Rattle.vx_text.specs.TextFaults.{view_array_fault}
use Rattle.vx_text.specs.Texts.{array_of_views}
use Rattle.vx_tree.specs.Meaning.{nullable, trees_from}
use Rattle.vx_tree.specs.Tree.{Tree, structure, Valid, non_nullable, all_valid, all_invalid, by_array}
use Rattle.vx_c.specs.declared.reading.TheConstants.{MAX_NODES}
use Rattle.vx_c.specs.declared.table.CodraskBytes.{CodraskBytes}
use Rattle.vx_c.specs.declared.table.CodraskNode.{CodraskNode}
use Rattle.vx_c.specs.declared.table.CodraskTable.{CodraskTable}
use Rattle.vx_c.specs.declared.table.NodeKind.{NodeKind}
use Rattle.vx_c.specs.declared.table.NodeKind.TheVariants.{Bool, Number, Utf8, Binary, Dictionary, FixedSizeList, ListView, Struct}
use Rattle.vx_c.specs.NodeKinds.{kind_numbered}
use Rattle.vx_c.specs.Tables.{NodeFault, missing_nodes, too_many_nodes, unless, names_fault, buffers_in, views_in, layout_made, records_made, views_made, valid_made}
use Rattle.vx_c.specs.Tables.{valid_of_number, kind_made, put, node_made, at_node, then_node, arrays_from, only, column_of}
use Rattle.vx_c.specs.declared.written.WrittenTable.{WrittenTable}
use Rattle.vx_c.specs.Written.{plainly, node_of}

same-bytes : (bs : List CodraskBytes) → map (λ (b : CodraskBytes). b.bytes.now) (map (λ (b : CodraskBytes). record { bytes = record { ref_ptr = (0, 0); now = b.bytes.now } }) bs) ≡ map (λ (b : CodraskBytes). b.bytes.now) bs
same-bytes [] = refl
same-bytes (b ∷ bs) = ap (λ x. b.bytes.now ∷ x) (same-bytes bs)

same-buffers : (n : CodraskNode) → buffers_in (plainly n) ≡ buffers_in n
same-buffers n = same-bytes n.buffers.now

same-records : (n : CodraskNode) (v : Valid) (ts : List Tree) → records_made (plainly n) v ts ≡ records_made n v ts
same-records n v ts =
    ap (λ names.
    if nat_lt (length ts) (length names) then Err missing_nodes
    else unless (or_else (names_fault names) (struct_fault names (take (length names) ts) v n.length))
    (structure names (trees_from (take (length names) ts)) v n.length) (drop (length names) ts)) (same-buffers n)

same-views : (n : CodraskNode) (k : Kind) (v : Valid) (ts : List Tree) → views_made (plainly n) k v ts ≡ views_made n k v ts
same-views n k v ts = ap (λ bs. unless (view_array_fault (views_in n) bs k v) (array_of_views (views_in n) bs k v) ts) (same-buffers n)

same-layout : (k : NodeKind) (n : CodraskNode) (v : Valid) (ts : List Tree) → layout_made k (plainly n) v ts ≡ layout_made k n v ts
same-layout Bool n v ts = refl
same-layout (Number t) n v ts = refl
same-layout Utf8 n v ts = same-views n (texts (nullable v)) v ts
same-layout Binary n v ts = same-views n (binaries (nullable v)) v ts
same-layout Dictionary n non_nullable [] = refl
same-layout Dictionary n non_nullable (c ∷ []) = refl
same-layout Dictionary n non_nullable (c ∷ d ∷ ts) = refl
same-layout Dictionary n all_valid ts = refl
same-layout Dictionary n all_invalid ts = refl
same-layout Dictionary n (by_array t) ts = refl
same-layout FixedSizeList n v [] = refl
same-layout FixedSizeList n v (e ∷ ts) = refl
same-layout ListView n v [] = refl
same-layout ListView n v (e ∷ []) = refl
same-layout ListView n v (e ∷ o ∷ []) = refl
same-layout ListView n v (e ∷ o ∷ s ∷ ts) = refl
same-layout Struct n v ts = same-records n v ts

same-valid : (k : NodeKind) (n : CodraskNode) (r : Result (Valid × List Tree) NodeFault) → valid_made k (plainly n) r ≡ valid_made k n r
same-valid k n (Ok p) = same-layout k n p.0 p.1
same-valid k n (Err f) = refl

same-kind : (o : Option NodeKind) (n : CodraskNode) (ts : List Tree) → kind_made o (plainly n) ts ≡ kind_made o n ts
same-kind None n ts = refl
same-kind (Some k) n ts = same-valid k n (valid_of_number n.validity ts)

same-put : (n : CodraskNode) (r : Result (Tree × List Tree) NodeFault) → put (plainly n) r ≡ put n r
same-put n (Ok p) = refl
same-put n (Err f) = refl

same-node : (n : CodraskNode) (ts : List Tree) → node_made (plainly n) ts ≡ node_made n ts
same-node n ts = same-put n (kind_made (kind_numbered n.kind) (plainly n) ts) ∙ ap (put n) (same-kind (kind_numbered n.kind) n ts)

same-then : (i : ℕ) (n : CodraskNode) (r : Result (List Tree) (ℕ × NodeFault)) → then_node i (plainly n) r ≡ then_node i n r
same-then i n (Ok ts) = ap (at_node i) (same-node n ts)
same-then i n (Err f) = refl

same-arrays : (i : ℕ) (ns : List CodraskNode) → arrays_from i (map plainly ns) ≡ arrays_from i ns
same-arrays i [] = refl
same-arrays i (n ∷ ns) = ap (then_node i (plainly n)) (same-arrays (suc i) ns) ∙ same-then i n (arrays_from (suc i) ns)

length-plainly : (ns : List CodraskNode) → length (map plainly ns) ≡ length ns
length-plainly [] = refl
length-plainly (n ∷ ns) = ap suc (length-plainly ns)

pub same-column : (ns : List CodraskNode) → column_of (map plainly ns) ≡ column_of ns
same-column ns = λ j. if nat_lt MAX_NODES (length-plainly ns j) then Err (0, too_many_nodes) else only (same-arrays 0 ns j)

-- the columns of tables that are lent
pub lent_columns : (tables : List CodraskTable) (written : List WrittenTable)
    → map (λ (t : CodraskTable). map plainly t.nodes.now) tables ≡ map (λ (w : WrittenTable). map node_of w.nodes.items) written
    → map (λ (t : CodraskTable). column_of t.nodes.now) tables ≡ map (λ (w : WrittenTable). column_of (map node_of w.nodes.items)) written
lent_columns tables written same =
    sym (λ j. map (λ (t : CodraskTable). same-column t.nodes.now j) tables) ∙ sym (map-map column_of (λ (t : CodraskTable). map plainly t.nodes.now) tables)
    ∙ ap (map column_of) same ∙ map-map column_of (λ (w : WrittenTable). map node_of w.nodes.items) written

abbrev pub place_of : List ℕ → CodraskBytes
place_of bytes = record { bytes = record { ref_ptr = (0, 0); now = bytes } }

pub lent_places : (bs : List CodraskBytes) (vs : List (Vec ℕ)) → map (λ (b : CodraskBytes). b.bytes.now) bs ≡ map (λ (v : Vec ℕ). v.items) vs
    → map (λ (b : CodraskBytes). place_of b.bytes.now) bs ≡ map (λ (v : Vec ℕ). place_of v.items) vs
lent_places bs vs same =
    sym (map-map place_of (λ (b : CodraskBytes). b.bytes.now) bs) ∙ ap (map place_of) same ∙ map-map place_of (λ (v : Vec ℕ). v.items) vs
