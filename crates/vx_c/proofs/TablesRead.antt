-- The table of a plain array is read back as the array without its flags.
use Rattle.std.proofs.Common.{◌≡◌, ◌+◌, ◌*◌, ◌%◌, ◌^◌, ◌<◌, ◌≤◌, ℕ, zero, suc, Bool, false, List, [], ◌∷◌, ◌++◌, length, map, replicate, refl, sym, ◌∙◌, ap, subst, arith, length-append}
use Rattle.std.specs.Prelude.{Some, None, Ok, slice_index_or}
use Rattle.std.specs.Int.{w128, from_le_bytes, to_le_bytes}
use Rattle.vx_base.specs.Bits.{unpacked}
use Rattle.vx_base.specs.Integers.{numbers}
use Rattle.vx_base.specs.Kinds.{Kind}
use Rattle.vx_base.specs.Refusals.{or_else}
use Rattle.vx_base.specs.declared.ptypes.PType.{PType}
use Rattle.vx_base.proofs.FirstFaults.{or_else-second}
use Rattle.vx_views.specs.Views.{IsView}
use Rattle.vx_leaves.specs.Spread.{whole_fault}
use Rattle.vx_lists.specs.FixedSizeLists.{element_count_fault, fixed_list_fault}
use Rattle.vx_lists.specs.ListViews.Faults.{list_view_fault}
use Rattle.vx_structs.specs.Structs.{column_list}
use Rattle.vx_structs.specs.Structs.Faults.{struct_fault}
use Rattle.vx_structs.proofs.Structs.Parts.{trees_from-list}
use Rattle.vx_tree.specs.Faults.{validity_fault}
use Rattle.vx_tree.specs.Fitting.{AllFormed, AreViews, ColumnsFormed, ValidityFormed}
use Rattle.vx_tree.specs.Formed.{WellFormed}
use Rattle.vx_tree.specs.Meaning.{tree_len, is_texts, trees_from}
use Rattle.vx_tree.specs.Plain.{IsPlain, ArePlain, IsPlainValid}
use Rattle.vx_tree.specs.Tree.{Tree, bools, primitive, constant, dictionary, fixed_list, list_view, structure, view_array}
use Rattle.vx_tree.specs.Tree.{Trees, no_trees, tree, Valid, non_nullable, all_valid, all_invalid, by_array}
use Rattle.vx_c.specs.declared.reading.TheConstants.{MAX_NODES}
use Rattle.vx_c.specs.declared.table.CodraskBytes.{CodraskBytes}
use Rattle.vx_c.specs.declared.table.CodraskNode.{CodraskNode}
use Rattle.vx_c.specs.declared.table.NodeKind.{NodeKind}
use Rattle.vx_c.specs.declared.table.NodeKind.TheVariants.{Bool as bool_kind, Number, FixedSizeList, ListView, Struct}
use Rattle.vx_c.specs.NodeKinds.{kind_numbered, view_kind, valid_number}
use Rattle.vx_c.specs.Tables.{bits_fault, names_fault, node_made, layout_made, view_bytes, buffers_in, column_of}
use Rattle.vx_c.specs.TablesOf.{view_with, bytes_with, bits_node, bytes_node, views_node, parent_node, table_of, tables_of, valid_table}
use Rattle.vx_c.specs.TablesOf.{IsHeld, AreHeld, IsHeldValid}
use Rattle.vx_c.specs.Unflagged.{unflagged, unflagged_trees, unflagged_valid, node_count, trees_count, valid_count}
use Rattle.vx_c.specs.Written.{AreTablesOf, valid_trees}
use Rattle.vx_c.proofs.LayoutParts.{made_by}
use Rattle.vx_pack.specs.BitBytes.{bits_bytes}
use Rattle.vx_pack.proofs.PackedBytes.{length-begun, unpacked-begun}
use Rattle.vx_c.proofs.Sixteen.{le_bytes_16}
use Rattle.vx_c.proofs.Unflagged.{kept_len, unflagged-trees_from}
use Rattle.vx_c.proofs.WrittenLayouts.{known, validity_none, bits_none, whole_none, count_none, lists_none, length-unflagged, column_count-from, struct_none, records-read, values-layout}
use Rattle.vx_c.proofs.WrittenTables.{tables-none, tables-both, tables-node, tables-column, node-read, valid_number-kept}

-- ---- one node with its validity and its parts

tables-parts : (n : CodraskNode) (k : NodeKind) (v : Valid) (vs ms : List CodraskNode) (us : List Tree) (t : Tree) → kind_numbered n.kind ≡ Some k
    → n.validity ≡ valid_number v → AreTablesOf vs (valid_trees (unflagged_valid v)) → AreTablesOf ms us
    → ((others : List Tree) → layout_made k n (unflagged_valid v) (us ++ others) ≡ Ok (t, others)) → tree_len t ≡ n.length → AreTablesOf (n ∷ (vs ++ ms)) (t ∷ [])
tables-parts n k v vs ms us t is number valid parts made len =
    let u = unflagged_valid v in
    tables-node n (vs ++ ms) (valid_trees u ++ us) t (tables-both vs ms (valid_trees u) us valid parts)
    (λ others. node-read n k u us others t is (number ∙ valid_number-kept v) (made others) len)

no_parts : (u : Valid) → valid_trees u ≡ valid_trees u ++ []
no_parts non_nullable = refl
no_parts all_valid = refl
no_parts all_invalid = refl
no_parts (by_array t) = refl

tables-leaf : (n : CodraskNode) (k : NodeKind) (v : Valid) (vs : List CodraskNode) (t : Tree) → kind_numbered n.kind ≡ Some k → n.validity ≡ valid_number v
    → AreTablesOf vs (valid_trees (unflagged_valid v)) → ((others : List Tree) → layout_made k n (unflagged_valid v) others ≡ Ok (t, others))
    → tree_len t ≡ n.length → AreTablesOf (n ∷ vs) (t ∷ [])
tables-leaf n k v vs t is number valid made len =
    let u = unflagged_valid v in
    tables-node n vs (valid_trees u) t valid
    (λ others. ap (λ (ts : List Tree). node_made n (ts ++ others)) (no_parts u) ∙ node-read n k u [] others t is (number ∙ valid_number-kept v) (made others) len)

-- ---- leaves

bools-table : (b : ℕ) (bits : List Bool) (v : Valid) (vs : List CodraskNode) → WellFormed (bools b bits v) → b < 8 → b + length bits < 2 ^ 64
    → AreTablesOf vs (valid_trees (unflagged_valid v)) → AreTablesOf (bits_node v b bits ∷ vs) (bools b bits (unflagged_valid v) ∷ [])
bools-table b bits v vs fits low short valid =
    let u = unflagged_valid v in
    let bs = bits_bytes (replicate b false ++ bits) in
    let n = length bits in
    let inside : b + n ≤ 8 * length bs = omega (arith, length-begun b bits) in
    let none : or_else (bits_fault bs b n) (validity_fault u n) ≡ None =
    or_else-second (bits_fault bs b n) (validity_fault u n) None (bits_none bs b n inside short) (validity_none v n n fits refl) in
    let begins : b % 8 ≡ b = omega (arith, low) in
    let same : bools (b % 8) (unpacked bs b n) u ≡ bools b bits u = λ j. bools (begins j) (unpacked-begun b bits j) u in
    tables-leaf (bits_node v b bits) bool_kind v vs (bools b bits u) (known bool_kind) refl valid
    (λ others. made_by (or_else (bits_fault bs b n) (validity_fault u n)) (bools (b % 8) (unpacked bs b n) u) (bools b bits u) others none (sym same)) refl

numbers-table : (t : PType) (bs : List ℕ) (v : Valid) (vs : List CodraskNode) → WellFormed (primitive t bs v) → AreTablesOf vs (valid_trees (unflagged_valid v))
    → AreTablesOf (bytes_node (Number t) v (length (numbers t bs)) bs ∷ vs) (primitive t bs (unflagged_valid v) ∷ [])
numbers-table t bs v vs formed valid =
    let u = unflagged_valid v in
    let n = length (numbers t bs) in
    let none : or_else (whole_fault t bs) (validity_fault u n) ≡ None =
    or_else-second (whole_fault t bs) (validity_fault u n) None (whole_none t bs n formed.1) (validity_none v n n formed.0 refl) in
    tables-leaf (bytes_node (Number t) v n bs) (Number t) v vs (primitive t bs u) (known (Number t)) refl valid
    (λ others. made_by (or_else (whole_fault t bs) (validity_fault u n)) (primitive t bs u) (primitive t bs u) others none refl) refl

same_views : (vs : List (List ℕ)) → ((i : ℕ) → i < length vs → IsView (slice_index_or vs i [])) → map view_bytes (map view_with vs) ≡ vs
same_views [] views = refl
same_views (x ∷ vs) views =
    let first : IsView x = views zero (omega arith) in
    let here : to_le_bytes w128 (from_le_bytes w128 x) ≡ x = le_bytes_16 x first.sixteen first.bytes in
    let rest : map view_bytes (map view_with vs) ≡ vs = same_views vs (λ i inside. views (suc i) (omega (arith, inside))) in
    λ j. here j ∷ rest j

same_buffers : (bs : List (List ℕ)) → map (λ (b : CodraskBytes). b.bytes.now) (map bytes_with bs) ≡ bs
same_buffers [] = refl
same_buffers (x ∷ bs) = ap (λ (xs : List (List ℕ)). x ∷ xs) (same_buffers bs)

views-table : (vs bs : List (List ℕ)) (k : Kind) (v : Valid) (ms : List CodraskNode) → WellFormed (view_array vs bs k v) → AreViews vs bs
    → AreTablesOf ms (valid_trees (unflagged_valid v))
    → AreTablesOf (views_node (view_kind (is_texts k)) v vs bs ∷ ms) (view_array vs bs k (unflagged_valid v) ∷ [])
views-table vs bs k v ms formed views valid =
    let node : CodraskNode = views_node (view_kind (is_texts k)) v vs bs in
    tables-leaf node (view_kind (is_texts k)) v ms (view_array vs bs k (unflagged_valid v)) (known (view_kind (is_texts k))) refl valid
    (λ others. values-layout (is_texts k) node vs bs k v others refl (same_views vs views.each_view) (same_buffers bs) formed) refl

-- ---- parents

fixed-table : (e : Tree) (k n : ℕ) (v : Valid) (vs es : List CodraskNode) → WellFormed (fixed_list e k v n) → tree_len e < 2 ^ 64
    → AreTablesOf vs (valid_trees (unflagged_valid v)) → AreTablesOf es (unflagged e ∷ [])
    → AreTablesOf (parent_node FixedSizeList v n k [] ∷ (vs ++ es)) (fixed_list (unflagged e) k (unflagged_valid v) n ∷ [])
fixed-table e k n v vs es formed short valid parts =
    let u = unflagged_valid v in
    let t : Tree = fixed_list (unflagged e) k u n in
    let none : fixed_list_fault (unflagged e) k u n ≡ None =
    or_else-second (validity_fault u n) (element_count_fault (tree_len (unflagged e)) k n) None (validity_none v n n formed.0 refl)
    (count_none (tree_len (unflagged e)) k n (kept_len e ∙ formed.1) (omega (arith, kept_len e, short))) in
    tables-parts (parent_node FixedSizeList v n k []) FixedSizeList v vs es (unflagged e ∷ []) t (known FixedSizeList) refl valid parts
    (λ others. made_by (fixed_list_fault (unflagged e) k u n) t t others none refl) refl

lists-table : (e o s : Tree) (v : Valid) (f : Bool) (vs es os ss : List CodraskNode) → WellFormed (list_view e o s v f) → tree_len e < 2 ^ 64
    → AreTablesOf vs (valid_trees (unflagged_valid v)) → AreTablesOf es (unflagged e ∷ []) → AreTablesOf os (unflagged o ∷ []) → AreTablesOf ss (unflagged s ∷ [])
    → AreTablesOf (parent_node ListView v (tree_len o) 0 [] ∷ (vs ++ (es ++ (os ++ ss)))) (list_view (unflagged e) (unflagged o) (unflagged s) (unflagged_valid v) false ∷ [])
lists-table e o s v f vs es os ss formed short valid first second third =
    let u = unflagged_valid v in
    let us : List Tree = unflagged e ∷ unflagged o ∷ unflagged s ∷ [] in
    let t : Tree = list_view (unflagged e) (unflagged o) (unflagged s) u false in
    let parts : AreTablesOf (es ++ (os ++ ss)) us =
    tables-both es (os ++ ss) (unflagged e ∷ []) (unflagged o ∷ unflagged s ∷ []) first (tables-both os ss (unflagged o ∷ []) (unflagged s ∷ []) second third) in
    tables-parts (parent_node ListView v (tree_len o) 0 []) ListView v vs (es ++ (os ++ ss)) us t (known ListView) refl valid parts
    (λ others. made_by (list_view_fault (unflagged e) (unflagged o) (unflagged s) u) t t others (lists_none e o s v f formed short) refl) (kept_len o)

struct-table : (names : List (List ℕ)) (ts : Trees) (v : Valid) (n : ℕ) (vs cs : List CodraskNode) → WellFormed (structure names ts v n) → names_fault names ≡ None
    → AreTablesOf vs (valid_trees (unflagged_valid v)) → AreTablesOf cs (map unflagged (column_list ts))
    → AreTablesOf (parent_node Struct v n 0 names ∷ (vs ++ cs)) (structure names (unflagged_trees ts) (unflagged_valid v) n ∷ [])
struct-table names ts v n vs cs formed named valid parts =
    let u = unflagged_valid v in
    let columns = column_list ts in
    let us = map unflagged columns in
    let node : CodraskNode = parent_node Struct v n 0 names in
    let listed : trees_from columns ≡ ts = trees_from-list ts in
    let all : WellFormed (structure names (trees_from columns) v n) = subst (λ (xs : Trees). WellFormed (structure names xs v n)) (sym listed) formed in
    let same_names : buffers_in node ≡ names = same_buffers names in
    let count : length us ≡ length (buffers_in node) =
    length-unflagged columns ∙ sym (column_count-from columns) ∙ sym all.1.named ∙ sym (ap length same_names) in
    let none : or_else (names_fault (buffers_in node)) (struct_fault (buffers_in node) us u n) ≡ None =
    ap (λ (ns : List (List ℕ)). or_else (names_fault ns) (struct_fault ns us u n)) same_names
    ∙ or_else-second (names_fault names) (struct_fault names us u n) None named (struct_none names columns v n n all refl) in
    let same_columns : trees_from us ≡ unflagged_trees ts = sym (unflagged-trees_from columns) ∙ ap unflagged_trees listed in
    let same : structure (buffers_in node) (trees_from us) u n ≡ structure names (unflagged_trees ts) u n =
    λ j. structure (same_names j) (same_columns j) u n in
    tables-parts node Struct v vs cs us (structure names (unflagged_trees ts) u n) (known Struct) refl valid parts
    (λ others. records-read node u us others count none ∙ ap (λ (x : Tree). Ok (x, others)) same) refl

-- ---- arrays

mutual
  table_read : (t : Tree) → AllFormed t → IsPlain t → IsHeld t → AreTablesOf (table_of t) (unflagged t ∷ [])
  table_read (bools b bits v) formed plain held = bools-table b bits v (valid_table v) formed.0 held.0 held.1 (validity_read v formed.1 plain held.2)
  table_read (primitive t bs v) formed plain held = numbers-table t bs v (valid_table v) formed.0 (validity_read v formed.2 plain held)
  table_read (constant k r n) formed plain held = absurd plain
  table_read (dictionary c v f) formed plain held = absurd plain
  table_read (fixed_list e k v n) formed plain held =
      fixed-table e k n v (valid_table v) (table_of e) formed.0 formed.3 (validity_read v formed.2 plain.1 held.1) (table_read e formed.1 plain.0 held.0)
  table_read (list_view e o s v f) formed plain held =
      lists-table e o s v f (valid_table v) (table_of e) (table_of o) (table_of s) formed.0 held.0 (validity_read v formed.4 plain.3 held.4)
      (table_read e formed.1 plain.0 held.1) (table_read o formed.2 plain.1 held.2) (table_read s formed.3 plain.2 held.3)
  table_read (structure ns ts v n) formed plain held =
      struct-table ns ts v n (valid_table v) (tables_of ts) formed.0 held.0 (validity_read v formed.2 plain.1 held.2) (columns_read ts formed.1 plain.0 held.1)
  table_read (view_array vs bs k v) formed plain held = views-table vs bs k v (valid_table v) formed.0 formed.1 (validity_read v formed.2 plain held)

  columns_read : (ts : Trees) → ColumnsFormed ts → ArePlain ts → AreHeld ts → AreTablesOf (tables_of ts) (map unflagged (column_list ts))
  columns_read no_trees formed plain held = tables-none
  columns_read (tree t ts) formed plain held =
      tables-both (table_of t) (tables_of ts) (unflagged t ∷ []) (map unflagged (column_list ts)) (table_read t formed.0 plain.0 held.0)
      (columns_read ts formed.1 plain.1 held.1)

  validity_read : (v : Valid) → ValidityFormed v → IsPlainValid v → IsHeldValid v → AreTablesOf (valid_table v) (valid_trees (unflagged_valid v))
  validity_read non_nullable formed plain held = tables-none
  validity_read all_valid formed plain held = tables-none
  validity_read all_invalid formed plain held = tables-none
  validity_read (by_array t) formed plain held = table_read t formed plain held

-- ---- how many nodes

mutual
  table_count : (t : Tree) → IsPlain t → length (table_of t) ≡ node_count t
  table_count (bools b bits v) plain = ap suc (validity_count v plain)
  table_count (primitive t bs v) plain = ap suc (validity_count v plain)
  table_count (constant k r n) plain = absurd plain
  table_count (dictionary c v f) plain = absurd plain
  table_count (fixed_list e k v n) plain =
      omega (arith, length-append (valid_table v) (table_of e), validity_count v plain.1, table_count e plain.0)
  table_count (list_view e o s v f) plain =
      omega (arith, length-append (valid_table v) (table_of e ++ (table_of o ++ table_of s)), length-append (table_of e) (table_of o ++ table_of s), length-append (table_of o) (table_of s), validity_count v plain.3, table_count e plain.0, table_count o plain.1, table_count s plain.2)
  table_count (structure ns ts v n) plain =
      omega (arith, length-append (valid_table v) (tables_of ts), validity_count v plain.1, columns_count ts plain.0)
  table_count (view_array vs bs k v) plain = ap suc (validity_count v plain)

  columns_count : (ts : Trees) → ArePlain ts → length (tables_of ts) ≡ trees_count ts
  columns_count no_trees plain = refl
  columns_count (tree t ts) plain = omega (arith, length-append (table_of t) (tables_of ts), table_count t plain.0, columns_count ts plain.1)

  validity_count : (v : Valid) → IsPlainValid v → length (valid_table v) ≡ valid_count v
  validity_count non_nullable plain = refl
  validity_count all_valid plain = refl
  validity_count all_invalid plain = refl
  validity_count (by_array t) plain = table_count t plain

pub tables_read_back : (t : Tree) → AllFormed t → IsPlain t → IsHeld t → node_count t ≤ MAX_NODES → column_of (table_of t) ≡ Ok (unflagged t)
tables_read_back t formed plain held few =
    tables-column (table_of t) (unflagged t) (table_read t formed plain held) (omega (arith, table_count t plain, few))
