-- The table that is written of an array of each layout: reading it again finds no fault.
use Rattle.std.proofs.Common.{◌≡◌, ◌+◌, ◌*◌, ◌^◌, ◌%◌, ◌≤◌, ◌<◌, ◌==◌, ℕ, zero, suc, Bool, true, false, List, [], ◌∷◌, ◌++◌, length, map, take, drop, replicate, get_or, refl, sym, ◌∙◌, ap, subst, arith, rules, zero-add, inl, inr}
use Rattle.std.specs.Prelude.{Some, None, Ok, Err, nat_lt, pos, slice_index_or, unwrap_or, if◌then◌else◌}
use Rattle.std.specs.Bool.{beq}
use Rattle.std.specs.Global.{Vec}
use Rattle.std.specs.List.{range_with_len}
use Rattle.std.proofs.lemmas.Bool.{cases_Bool}
use Rattle.std.proofs.lemmas.List.{append-nil, ext_get_or, map-append, take_more}
use Rattle.std.proofs.lemmas.List.FromFn.{get_or-map-range_with_len, length-map-range_with_len}
use Rattle.vx_base.specs.declared.ptypes.PType.{PType}
use Rattle.vx_base.specs.declared.ptypes.PType.TheVariants.{U8, U16, U32, U64, I8, I16, I32, I64}
use Rattle.vx_base.specs.Bits.{bool_at, unpacked}
use Rattle.vx_base.specs.Integers.{numbers, byte_width}
use Rattle.vx_base.specs.Kinds.{Kind, booleans, texts, binaries, is_nullable_kind, is_plain_integers, is_plain_booleans}
use Rattle.vx_base.specs.Refusals.{mismatched_types, nullability_mismatch, length_mismatch, or_else, first_fault}
use Rattle.vx_base.specs.Rows.{count_in, number_in}
use Rattle.vx_base.proofs.FirstFaults.{or_else-none, or_else-second, first_fault-of_none}
use Rattle.vx_views.specs.Emptied.{valid_view, emptied_views}
use Rattle.vx_views.specs.Faulty.{views_fault}
use Rattle.vx_views.proofs.FaultyViews.{views_fault-AreSoundViews}
use Rattle.vx_leaves.specs.Spread.{whole_fault}
use Rattle.vx_lists.specs.FixedSizeLists.{element_count_fault, fixed_list_fault}
use Rattle.vx_lists.specs.ListViews.Faults.{list_row_fault, list_rows_fault, list_parts_fault, list_view_fault, count_type_fault, sizes_len_fault, whole_at}
use Rattle.vx_structs.specs.Structs.Faults.{column_lens_fault, columns_fault, struct_fault}
use Rattle.vx_text.specs.Texts.{array_of_views}
use Rattle.vx_text.specs.TextFaults.{view_array_fault, parts_fault, value_type_fault, nullability_fault, is_values}
use Rattle.vx_tree.specs.Faults.{length_fault, valid_type_fault, valid_len_fault, validity_fault}
use Rattle.vx_tree.specs.Formed.{WellFormed, ValidFits, IsCounts, IsListView, AllLen, column_count, value_kind}
use Rattle.vx_tree.specs.Meaning.{tree_len, kind_of, row_at, is_valid_at, nullable, is_texts, valid_mask, trees_from}
use Rattle.vx_tree.specs.Tree.{Tree, bools, primitive, fixed_list, list_view, structure, view_array}
use Rattle.vx_tree.specs.Tree.{Valid, non_nullable, all_valid, all_invalid, by_array}
use Rattle.vx_c.specs.declared.table.CodraskBytes.{CodraskBytes}
use Rattle.vx_c.specs.declared.table.CodraskNode.{CodraskNode}
use Rattle.vx_c.specs.declared.table.NodeKind.{NodeKind}
use Rattle.vx_c.specs.declared.table.NodeKind.TheVariants.{Bool as bool_kind, Number, Utf8, Binary, Dictionary, FixedSizeList, ListView, Struct}
use Rattle.vx_c.specs.declared.written.WrittenNode.{WrittenNode}
use Rattle.vx_c.specs.NodeKinds.{kind_numbered, kind_number, view_kind, valid_number}
use Rattle.vx_c.specs.Tables.{unless, layout_made, records_made, views_made, buffers_in, views_in, view_bytes, bits_fault, names_fault, missing_nodes}
use Rattle.vx_c.specs.Unflagged.{unflagged, unflagged_trees, unflagged_valid, trees_count, valid_count, nodes_of}
use Rattle.vx_pack.specs.BitBytes.{bits_bytes}
use Rattle.vx_c.specs.TablesOf.{view_with, parent_node, table_of, tables_of, valid_table}
use Rattle.vx_c.specs.Written.{IsWritten, IsPut, IsParent, IsBitsNode, node_of, valid_trees}
use Rattle.vx_c.proofs.ExactTables.{exact-columns, exact-three, bits_exact, numbers_exact, values_exact, parent_exact}
use Rattle.vx_c.proofs.LayoutParts.{made_by}
use Rattle.vx_c.proofs.Names.{columns_taken, values_faultless}
use Rattle.vx_pack.proofs.PackedBytes.{length-begun, unpacked-begun}
use Rattle.vx_c.proofs.Unflagged.{kept_len, kept_kind, kept_row, kept_valid, kept_nullable, unflagged-trees_from, trees_count-from}
use Rattle.vx_c.proofs.WrittenTables.{parts-written, leaf-written, none_written, written-both, valid_number-kept}

-- ---- kinds and counts

pub known : (k : NodeKind) → kind_numbered (kind_number k) ≡ Some k
known bool_kind = refl
known (Number U8) = refl
known (Number U16) = refl
known (Number U32) = refl
known (Number U64) = refl
known (Number I8) = refl
known (Number I16) = refl
known (Number I32) = refl
known (Number I64) = refl
known Utf8 = refl
known Binary = refl
known Dictionary = refl
known FixedSizeList = refl
known ListView = refl
known Struct = refl

known_as : (w : WrittenNode) (k : NodeKind) → w.kind ≡ k → kind_numbered (node_of w).kind ≡ Some k
known_as w k is = ap (λ x. kind_numbered (kind_number x)) is ∙ known k

count-valid : (u : Valid) (us : List Tree) → valid_count u + nodes_of us ≡ nodes_of (valid_trees u ++ us)
count-valid non_nullable us = zero-add (nodes_of us)
count-valid all_valid us = zero-add (nodes_of us)
count-valid all_invalid us = zero-add (nodes_of us)
count-valid (by_array t) us = refl

leaf-count : (u : Valid) → suc (valid_count u) ≡ suc (nodes_of (valid_trees u ++ []))
leaf-count u = let all = count-valid u [] in omega (arith, all)

-- ---- validity

masked_none : (t : Tree) (n : ℕ) → kind_of t ≡ booleans false → tree_len t ≡ n → validity_fault (by_array t) n ≡ None
masked_none t n kind len = or_else-second (valid_type_fault (by_array t)) (valid_len_fault (by_array t) n) None plain long
  where
    plain : valid_type_fault (by_array t) ≡ None
    plain = ap (λ k. if is_plain_booleans k then None else Some mismatched_types) kind

    long : valid_len_fault (by_array t) n ≡ None
    long = search (rules, arith, len)

pub validity_none : (v : Valid) (n m : ℕ) → ValidFits v n → m ≡ n → validity_fault (unflagged_valid v) m ≡ None
validity_none non_nullable n m fits same = refl
validity_none all_valid n m fits same = refl
validity_none all_invalid n m fits same = refl
validity_none (by_array t) n m fits same = masked_none (unflagged t) m (kept_kind t ∙ fits.kind) (kept_len t ∙ fits.len ∙ sym same)

-- ---- truth values

pub bools_written : (w : WrittenNode) (first : ℕ) (bits : List Bool) (v : Valid) (old new : List WrittenNode) → IsBitsNode first bits (valid_number v) w → ValidFits v (length bits)
    → IsPut w v old new → IsWritten old (bools first bits (unflagged_valid v) ∷ []) new
bools_written w first bits v old new node fits put =
    let u = unflagged_valid v in
    let none : or_else (bits_fault w.bytes.items w.offset w.length) (validity_fault u w.length) ≡ None =
    or_else-second (bits_fault w.bytes.items w.offset w.length) (validity_fault u w.length) None node.faultless (validity_none v (length bits) w.length fits node.len) in
    let low : first % 8 ≡ first = omega (arith, node.low) in
    let begins : w.offset % 8 ≡ first = ap (λ (k : ℕ). k % 8) node.begins ∙ low in
    let is : unpacked w.bytes.items w.offset w.length ≡ bits = (λ j. unpacked (node.is j) (node.begins j) (node.len j)) ∙ unpacked-begun first bits in
    leaf-written w bool_kind v old new (bools first bits u) (known_as w bool_kind node.kind) node.number put
    (λ others. made_by (or_else (bits_fault w.bytes.items w.offset w.length) (validity_fault u w.length)) (bools (w.offset % 8) (unpacked w.bytes.items w.offset w.length) u) (bools first bits u) others none (sym (λ j. bools (begins j) (is j) u)))
    (sym node.len) (leaf-count u) (ap (λ n. n ∷ valid_table u) (bits_exact w first bits (valid_number v) u node (valid_number-kept v)))

-- ---- numbers

pub whole_none : (t : PType) (bs : List ℕ) (n : ℕ) → length bs ≡ n * byte_width t → whole_fault t bs ≡ None
whole_none t bs n exact = rest
  where
    divided : (p : PType) → length bs ≡ n * byte_width p → length bs % byte_width p ≡ 0
    divided U8 h = omega (arith, h)
    divided U16 h = omega (arith, h)
    divided U32 h = omega (arith, h)
    divided U64 h = omega (arith, h)
    divided I8 h = omega (arith, h)
    divided I16 h = omega (arith, h)
    divided I32 h = omega (arith, h)
    divided I64 h = omega (arith, h)

    rest : whole_fault t bs ≡ None
    rest = ap (λ r. if r == 0 then None else Some length_mismatch) (divided t exact)

pub numbers_written : (w : WrittenNode) (t : PType) (bs : List ℕ) (v : Valid) (old new : List WrittenNode) → w.kind ≡ Number t → w.validity ≡ valid_number v
    → w.bytes.items ≡ bs → w.length ≡ tree_len (primitive t bs v) → w.size ≡ 0 → w.offset ≡ 0 → w.views.items ≡ [] → w.buffers.blocks.items ≡ []
    → WellFormed (primitive t bs v) → IsPut w v old new → IsWritten old (primitive t bs (unflagged_valid v) ∷ []) new
numbers_written w t bs v old new kind number bytes len size begins views buffers formed put =
    let u = unflagged_valid v in
    let same : w.bytes.items ≡ bs = bytes in
    let fault = or_else (whole_fault t w.bytes.items) (validity_fault u (length (numbers t w.bytes.items))) in
    let none : fault ≡ None =
    or_else-second (whole_fault t w.bytes.items) (validity_fault u (length (numbers t w.bytes.items))) None
    (ap (whole_fault t) bytes ∙ whole_none t bs (length (numbers t bs)) formed.1)
    (validity_none v (length (numbers t bs)) (length (numbers t w.bytes.items)) formed.0 (ap (λ x. length (numbers t x)) bytes)) in
    leaf-written w (Number t) v old new (primitive t bs u) (known_as w (Number t) kind) number put
    (λ others. made_by fault (primitive t w.bytes.items u) (primitive t bs u) others none (ap (λ x. primitive t x u) (sym bytes)))
    (sym len) (leaf-count u)
    (ap (λ n. n ∷ valid_table u) (numbers_exact w t bs (valid_number v) u kind number size len begins bytes views buffers (valid_number-kept v)))

-- ---- lists of one size

pub count_none : (count size len : ℕ) → count ≡ len * size → count < 2 ^ 64 → element_count_fault count size len ≡ None
count_none count zero len is short = let none : count ≡ 0 = omega (arith, is) in search (rules, arith, none)
count_none count (suc k) len is short = let fits : len * suc k < 2 ^ 64 = omega (arith, is, short) in search (rules, arith, fits, is)

parent_of : (k : NodeKind) (size m n : ℕ) (names : List (List ℕ)) (v : Valid) (old mid : List WrittenNode) → m ≡ n → IsParent k size m names v old mid
    → IsParent k size n names v old mid
parent_of k size m n names v old mid same parent = subst (λ len. IsParent k size len names v old mid) same parent

fixed_parts : (e : Tree) (k n : ℕ) (v : Valid) (old mid new : List WrittenNode) → WellFormed (fixed_list e k v n) → tree_len e < 2 ^ 64
    → IsParent FixedSizeList k n [] v old mid → IsWritten mid (unflagged e ∷ []) new → IsWritten old (unflagged (fixed_list e k v n) ∷ []) new
fixed_parts e k n v old mid new formed short parent parts =
    let u = unflagged_valid v in
    let w = parent.node in
    let t : Tree = fixed_list (unflagged e) k u n in
    let none : fixed_list_fault (unflagged e) w.size u w.length ≡ None =
    or_else-second (validity_fault u w.length) (element_count_fault (tree_len (unflagged e)) w.size w.length) None
    (validity_none v n w.length formed.0 parent.len_is)
    (ap (λ s. element_count_fault (tree_len (unflagged e)) s w.length) parent.size_is ∙ ap (element_count_fault (tree_len (unflagged e)) k) parent.len_is
    ∙ count_none (tree_len (unflagged e)) k n (kept_len e ∙ formed.1) (omega (arith, kept_len e, short))) in
    let same : t ≡ fixed_list (unflagged e) w.size u w.length = λ j. fixed_list (unflagged e) (sym parent.size_is j) u (sym parent.len_is j) in
    parts-written w FixedSizeList v old mid new (unflagged e ∷ []) t (known_as w FixedSizeList parent.kind) parent.validity parent.put parts
    (λ others. made_by (fixed_list_fault (unflagged e) w.size u w.length) (fixed_list (unflagged e) w.size u w.length) t others none same)
    (sym parent.len_is) (let all = count-valid u (unflagged e ∷ []) in omega (arith, all))
    (λ j. parent_exact FixedSizeList k n [] v u old mid parent (valid_number-kept v) j ∷ (valid_table u ++ append-nil (table_of (unflagged e)) j))

pub fixed_written : (a e : Tree) (k n m : ℕ) (v : Valid) (old mid new : List WrittenNode) → a ≡ fixed_list e k v n → WellFormed (fixed_list e k v n) → tree_len e < 2 ^ 64
    → m ≡ tree_len a → IsParent FixedSizeList k m [] v old mid → IsWritten mid (unflagged e ∷ []) new → IsWritten old (unflagged a ∷ []) new
fixed_written a e k n m v old mid new is formed short rows parent parts =
    subst (λ t. IsWritten old (unflagged t ∷ []) new) (sym is)
    (fixed_parts e k n v old mid new formed short (parent_of FixedSizeList k m n [] v old mid (rows ∙ ap tree_len is) parent) parts)

-- ---- list views

row_none : (count i o s : ℕ) → o + s ≤ count → count < 2 ^ 64 → list_row_fault count i (pos o) (pos s) ≡ None
row_none count i o s within short = let fits : o + s < 2 ^ 64 = omega (arith, within, short) in search (rules, arith, fits, within)

whole-count : (t : Tree) (i : ℕ) → IsCounts t → i < tree_len t → whole_at t i ≡ pos (count_in (row_at t i))
whole-count t i counts inside = ap (λ r. unwrap_or (number_in r) (pos 0)) (counts.counts i inside)

rows_none : (e o s : Tree) (f : Bool) → IsListView e o s f → tree_len e < 2 ^ 64 → list_rows_fault (tree_len e) o s ≡ None
rows_none e o s f lists short =
    first_fault-of_none (λ i. list_row_fault (tree_len e) i (whole_at o i) (whole_at s i)) (tree_len o) (λ i inside.
    let offset = whole-count o i lists.offsets inside in
    let size = whole-count s i lists.sizes (omega (arith, lists.same_len, inside)) in
    ap (λ x. list_row_fault (tree_len e) i x (whole_at s i)) offset ∙ ap (list_row_fault (tree_len e) i (pos (count_in (row_at o i)))) size
    ∙ row_none (tree_len e) i (count_in (row_at o i)) (count_in (row_at s i)) (lists.within i inside) short)

kept_rows : (e o s : Tree) → list_rows_fault (tree_len (unflagged e)) (unflagged o) (unflagged s) ≡ list_rows_fault (tree_len e) o s
kept_rows e o s = λ j.
    first_fault (λ i. list_row_fault (kept_len e j) i (unwrap_or (number_in (kept_row o j i)) (pos 0)) (unwrap_or (number_in (kept_row s j i)) (pos 0))) (kept_len o j)

counts_none : (t : Tree) → IsCounts t → count_type_fault (unflagged t) ≡ None
counts_none t counts = ap (λ b. if b then None else Some mismatched_types) (ap is_plain_integers (kept_kind t) ∙ counts.kind)

sizes_none : (o s : Tree) → tree_len s ≡ tree_len o → sizes_len_fault (unflagged o) (unflagged s) ≡ None
sizes_none o s same = let len : tree_len (unflagged s) ≡ tree_len (unflagged o) = kept_len s ∙ same ∙ sym (kept_len o) in search (rules, arith, len)

pub lists_none : (e o s : Tree) (v : Valid) (f : Bool) → WellFormed (list_view e o s v f) → tree_len e < 2 ^ 64
    → list_view_fault (unflagged e) (unflagged o) (unflagged s) (unflagged_valid v) ≡ None
lists_none e o s v f formed short =
    let u = unflagged_valid v in
    let a = unflagged o in
    let b = unflagged s in
    let valid = or_else-none (valid_type_fault u) (valid_len_fault u (tree_len a)) (validity_none v (tree_len o) (tree_len a) formed.0 (kept_len o)) in
    let lens : or_else (sizes_len_fault a b) (valid_len_fault u (tree_len a)) ≡ None =
    or_else-second (sizes_len_fault a b) (valid_len_fault u (tree_len a)) None (sizes_none o s formed.1.same_len) valid.1 in
    let types : or_else (valid_type_fault u) (or_else (sizes_len_fault a b) (valid_len_fault u (tree_len a))) ≡ None =
    or_else-second (valid_type_fault u) (or_else (sizes_len_fault a b) (valid_len_fault u (tree_len a))) None valid.0 lens in
    let parts : list_parts_fault a b u ≡ None =
    or_else-second (count_type_fault a) (or_else (count_type_fault b) (or_else (valid_type_fault u) (or_else (sizes_len_fault a b) (valid_len_fault u (tree_len a))))) None
    (counts_none o formed.1.offsets)
    (or_else-second (count_type_fault b) (or_else (valid_type_fault u) (or_else (sizes_len_fault a b) (valid_len_fault u (tree_len a)))) None (counts_none s formed.1.sizes) types) in
    or_else-second (list_parts_fault a b u) (list_rows_fault (tree_len (unflagged e)) a b) None parts (kept_rows e o s ∙ rows_none e o s f formed.1 short)

lists_parts : (e o s : Tree) (v : Valid) (f : Bool) (n : ℕ) (old m1 m2 m3 new : List WrittenNode) → WellFormed (list_view e o s v f)
    → tree_len e < 2 ^ 64 → n ≡ tree_len o → IsParent ListView 0 n [] v old m1 → IsWritten m1 (unflagged e ∷ []) m2 → IsWritten m2 (unflagged o ∷ []) m3
    → IsWritten m3 (unflagged s ∷ []) new → IsWritten old (unflagged (list_view e o s v f) ∷ []) new
lists_parts e o s v f n old m1 m2 m3 new formed short rows parent first second third =
    let u = unflagged_valid v in
    let w = parent.node in
    let t : Tree = list_view (unflagged e) (unflagged o) (unflagged s) u false in
    let us : List Tree = unflagged e ∷ unflagged o ∷ unflagged s ∷ [] in
    let parts : IsWritten m1 us new =
    written-both m1 m2 new (unflagged e ∷ []) (unflagged o ∷ unflagged s ∷ []) first (written-both m2 m3 new (unflagged o ∷ []) (unflagged s ∷ []) second third) in
    parts-written w ListView v old m1 new us t (known_as w ListView parent.kind) parent.validity parent.put parts
    (λ others. made_by (list_view_fault (unflagged e) (unflagged o) (unflagged s) u) t t others (lists_none e o s v f formed short) refl)
    (kept_len o ∙ sym rows ∙ sym parent.len_is) (let all = count-valid u us in omega (arith, all))
    (λ j. (parent_exact ListView 0 n [] v u old m1 parent (valid_number-kept v) ∙ ap (λ m. parent_node ListView u m 0 []) (rows ∙ sym (kept_len o))) j
    ∷ (valid_table u ++ exact-three (unflagged e) (unflagged o) (unflagged s) j))

pub lists_written : (a e o s : Tree) (v : Valid) (f : Bool) (m : ℕ) (old m1 m2 m3 new : List WrittenNode) → a ≡ list_view e o s v f → WellFormed (list_view e o s v f)
    → tree_len e < 2 ^ 64 → m ≡ tree_len a → IsParent ListView 0 m [] v old m1 → IsWritten m1 (unflagged e ∷ []) m2 → IsWritten m2 (unflagged o ∷ []) m3
    → IsWritten m3 (unflagged s ∷ []) new → IsWritten old (unflagged a ∷ []) new
lists_written a e o s v f m old m1 m2 m3 new is formed short rows parent first second third =
    subst (λ t. IsWritten old (unflagged t ∷ []) new) (sym is)
    (lists_parts e o s v f m old m1 m2 m3 new formed short (rows ∙ ap tree_len is) parent first second third)

-- ---- records

pub buffers-names : (bs : List (Vec ℕ)) → map (λ (b : CodraskBytes). b.bytes.now) (map (λ (b : Vec ℕ). record { bytes = record { ref_ptr = (0, 0); now = b.items } }) bs) ≡ map (λ (b : Vec ℕ). b.items) bs
buffers-names [] = refl
buffers-names (b ∷ bs) = ap (λ x. b.items ∷ x) (buffers-names bs)

lens_none : (n m : ℕ) (cs : List Tree) → AllLen n (trees_from cs) → m ≡ n → column_lens_fault m (map unflagged cs) ≡ None
lens_none n m [] all same = refl
lens_none n m (c ∷ cs) all same =
    or_else-second (length_fault m (tree_len (unflagged c))) (column_lens_fault m (map unflagged cs)) None one (lens_none n m cs all.1 same)
  where
    len : tree_len (unflagged c) ≡ m
    len = kept_len c ∙ all.0 ∙ sym same

    one : length_fault m (tree_len (unflagged c)) ≡ None
    one = search (rules, arith, len)

pub column_count-from : (cs : List Tree) → column_count (trees_from cs) ≡ length cs
column_count-from [] = refl
column_count-from (c ∷ cs) = omega (arith, column_count-from cs)

pub length-unflagged : (cs : List Tree) → length (map unflagged cs) ≡ length cs
length-unflagged [] = refl
length-unflagged (c ∷ cs) = ap suc (length-unflagged cs)

pub struct_none : (names : List (List ℕ)) (cs : List Tree) (v : Valid) (n m : ℕ) → WellFormed (structure names (trees_from cs) v n) → m ≡ n
    → struct_fault names (map unflagged cs) (unflagged_valid v) m ≡ None
struct_none names cs v n m formed same =
    or_else-second (length_fault (length names) (length (map unflagged cs))) (columns_fault (map unflagged cs) (unflagged_valid v) m) None one
    (or_else-second (validity_fault (unflagged_valid v) m) (column_lens_fault m (map unflagged cs)) None (validity_none v n m formed.0 same) (lens_none n m cs formed.1.lens same))
  where
    len : length (map unflagged cs) ≡ length names
    len = length-unflagged cs ∙ sym (column_count-from cs) ∙ sym formed.1.named

    one : length_fault (length names) (length (map unflagged cs)) ≡ None
    one = search (rules, arith, len)

-- records of columns before others
pub records-read : (n : CodraskNode) (u : Valid) (cs others : List Tree) → length cs ≡ length (buffers_in n)
    → or_else (names_fault (buffers_in n)) (struct_fault (buffers_in n) cs u n.length) ≡ None
    → records_made n u (cs ++ others) ≡ Ok (structure (buffers_in n) (trees_from cs) u n.length, others)
records-read n u cs others len none =
    let names = buffers_in n in
    let parts = columns_taken (cs ++ others) cs others (length names) refl len in
    let enough : nat_lt (length (cs ++ others)) (length names) ≡ false = many in
    ap (λ b. if b then Err missing_nodes else unless (or_else (names_fault names) (struct_fault names (take (length names) (cs ++ others)) u n.length)) (structure names (trees_from (take (length names) (cs ++ others))) u n.length) (drop (length names) (cs ++ others))) enough
    ∙ (λ j. unless (or_else (names_fault names) (struct_fault names (parts.0 j) u n.length)) (structure names (trees_from (parts.0 j)) u n.length) (parts.1 j))
    ∙ made_by (or_else (names_fault names) (struct_fault names cs u n.length)) (structure names (trees_from cs) u n.length) (structure names (trees_from cs) u n.length) others none refl
  where
    long : (xs ys : List Tree) → length xs ≤ length (xs ++ ys)
    long [] ys = omega arith
    long (x ∷ xs) ys = omega (arith, long xs ys)

    many : nat_lt (length (cs ++ others)) (length (buffers_in n)) ≡ false
    many = let more = long cs others in search (rules, arith, more, len)

structure_parts : (names : List (List ℕ)) (cs : List Tree) (v : Valid) (n : ℕ) (old mid new : List WrittenNode) → WellFormed (structure names (trees_from cs) v n)
    → names_fault names ≡ None → IsParent Struct 0 n names v old mid → IsWritten mid (map unflagged cs) new
    → IsWritten old (unflagged (structure names (trees_from cs) v n) ∷ []) new
structure_parts names cs v n old mid new formed named parent parts =
    let u = unflagged_valid v in
    let w = parent.node in
    let us = map unflagged cs in
    let t : Tree = structure names (unflagged_trees (trees_from cs)) u n in
    let same_names : buffers_in (node_of w) ≡ names = buffers-names w.buffers.blocks.items ∙ parent.names_are in
    let count : length us ≡ length (buffers_in (node_of w)) =
    length-unflagged cs ∙ sym (column_count-from cs) ∙ sym formed.1.named ∙ sym (ap length same_names) in
    let none : or_else (names_fault (buffers_in (node_of w))) (struct_fault (buffers_in (node_of w)) us u w.length) ≡ None =
    ap (λ ns. or_else (names_fault ns) (struct_fault ns us u w.length)) same_names
    ∙ or_else-second (names_fault names) (struct_fault names us u w.length) None named (struct_none names cs v n w.length formed parent.len_is) in
    let same : structure (buffers_in (node_of w)) (trees_from us) u w.length ≡ t =
    λ j. structure (same_names j) (sym (unflagged-trees_from cs) j) u (parent.len_is j) in
    let all_counted : suc (valid_count u + trees_count (unflagged_trees (trees_from cs))) ≡ suc (valid_count u + nodes_of us) =
    ap (λ ts. suc (valid_count u + trees_count ts)) (unflagged-trees_from cs) ∙ ap (λ m. suc (valid_count u + m)) (trees_count-from us) in
    parts-written w Struct v old mid new us t (known_as w Struct parent.kind) parent.validity parent.put parts
    (λ others. records-read (node_of w) u us others count none ∙ ap (λ x. Ok (x, others)) same)
    (sym parent.len_is) (all_counted ∙ ap suc (count-valid u us))
    (λ j. parent_exact Struct 0 n names v u old mid parent (valid_number-kept v) j
    ∷ (valid_table u ++ (sym (exact-columns us) ∙ ap tables_of (sym (unflagged-trees_from cs))) j))

pub structure_written : (a : Tree) (names : List (List ℕ)) (cs lent : List Tree) (v : Valid) (n m : ℕ) (old mid new : List WrittenNode) → a ≡ structure names (trees_from cs) v n
    → WellFormed (structure names (trees_from cs) v n) → names_fault names ≡ None → m ≡ tree_len a → IsParent Struct 0 m names v old mid → lent ≡ cs
    → IsWritten mid (map unflagged lent) new → IsWritten old (unflagged a ∷ []) new
structure_written a names cs lent v n m old mid new is formed named rows parent same parts =
    subst (λ t. IsWritten old (unflagged t ∷ []) new) (sym is)
    (structure_parts names cs v n old mid new formed named (parent_of Struct 0 m n names v old mid (rows ∙ ap tree_len is) parent)
    (subst (λ ts. IsWritten mid (map unflagged ts) new) same parts))

-- ---- texts and byte lists

values_kind : (b n : Bool) → is_values (value_kind b n) ≡ true
values_kind true n = refl
values_kind false n = refl

nullable_value : (b n : Bool) → is_nullable_kind (value_kind b n) ≡ n
nullable_value true n = refl
nullable_value false n = refl

same_bool : (b : Bool) → beq b b ≡ true
same_bool true = refl
same_bool false = refl

mask_bit : (v : Valid) (n i : ℕ) → i < n → bool_at (valid_mask v n) i ≡ is_valid_at v i
mask_bit v n i l = get_or-map-range_with_len (is_valid_at v) 0 n i i false l (zero-add i)

views_none : (vs bs : List (List ℕ)) (k : Kind) (v : Valid) → WellFormed (view_array vs bs k v) → view_array_fault vs bs k (unflagged_valid v) ≡ None
views_none vs bs k v formed =
    let u = unflagged_valid v in
    let n = length vs in
    let valid = or_else-none (valid_type_fault u) (valid_len_fault u n) (validity_none v n n formed.0 refl) in
    let kinds : value_type_fault k ≡ None =
    ap (λ b. if b then None else Some mismatched_types) (ap is_values formed.1.kind ∙ values_kind (is_texts k) (nullable v)) in
    let same : beq (is_nullable_kind k) (nullable u) ≡ true =
    (λ j. beq ((ap is_nullable_kind formed.1.kind ∙ nullable_value (is_texts k) (nullable v)) j) (kept_nullable v j)) ∙ same_bool (nullable v) in
    let nulls : nullability_fault k u ≡ None = ap (λ b. if b then None else Some nullability_mismatch) same in
    let parts : parts_fault n k u ≡ None =
    or_else-second (value_type_fault k) (or_else (valid_type_fault u) (or_else (nullability_fault k u) (valid_len_fault u n))) None kinds
    (or_else-second (valid_type_fault u) (or_else (nullability_fault k u) (valid_len_fault u n)) None valid.0
    (or_else-second (nullability_fault k u) (valid_len_fault u n) None nulls valid.1)) in
    let sound = (views_fault-AreSoundViews (is_texts k) (valid_mask u n) bs vs).1
    (λ row within bit. formed.1.sound row within (sym (λ j. kept_valid v j row) ∙ sym (mask_bit u n row within) ∙ bit)) in
    or_else-second (parts_fault n k u) (views_fault (is_texts k) (valid_mask u n) bs vs) None parts sound

emptied_same : (vs bs : List (List ℕ)) (k : Kind) (v : Valid) → WellFormed (view_array vs bs k v) → emptied_views vs (valid_mask (unflagged_valid v) (length vs)) ≡ vs
emptied_same vs bs k v formed =
    let u = unflagged_valid v in
    let mask = valid_mask u (length vs) in
    let made = map (valid_view vs mask) (range_with_len 0 (length vs)) in
    let long : length made ≡ length vs = length-map-range_with_len (valid_view vs mask) 0 (length vs) in
    ext_get_or [] made vs long (λ i inside.
    let within : i < length vs = omega (arith, long, inside) in
    let bit : bool_at mask i ≡ is_valid_at v i = mask_bit u (length vs) i within ∙ (λ j. kept_valid v j i) in
    get_or-map-range_with_len (valid_view vs mask) 0 (length vs) i i [] within (zero-add i)
    ∙ ap (λ (b : Bool). if b then slice_index_or vs i [] else replicate 16 0) bit
    ∙ elim (cases_Bool (is_valid_at v i)) [
      | inl valid ↦ ap (λ (b : Bool). if b then slice_index_or vs i [] else replicate 16 0) valid
      | inr none ↦ ap (λ (b : Bool). if b then slice_index_or vs i [] else replicate 16 0) none ∙ sym (formed.1.zeroes i within none)
    ])

-- what a node of views is read as
values-made : (n : CodraskNode) (vs bs : List (List ℕ)) (k : Kind) (v : Valid) (others : List Tree) → views_in n ≡ vs → buffers_in n ≡ bs → WellFormed (view_array vs bs k v)
    → views_made n k (unflagged_valid v) others ≡ Ok (view_array vs bs k (unflagged_valid v), others)
values-made n vs bs k v others views buffers formed =
    let u = unflagged_valid v in
    let none = values_faultless vs (views_in n) bs (buffers_in n) k u (sym views) (sym buffers) (views_none vs bs k v formed) in
    let same : view_array vs bs k u ≡ array_of_views (views_in n) (buffers_in n) k u =
    (λ j. view_array (sym (emptied_same vs bs k v formed) j) bs k u) ∙ (λ j. array_of_views (sym views j) (sym buffers j) k u) in
    made_by (view_array_fault (views_in n) (buffers_in n) k u) (array_of_views (views_in n) (buffers_in n) k u) (view_array vs bs k u) others none same

pub values-layout : (b : Bool) (n : CodraskNode) (vs bs : List (List ℕ)) (k : Kind) (v : Valid) (others : List Tree) → is_texts k ≡ b → views_in n ≡ vs → buffers_in n ≡ bs
    → WellFormed (view_array vs bs k v) → layout_made (view_kind b) n (unflagged_valid v) others ≡ Ok (view_array vs bs k (unflagged_valid v), others)
values-layout true n vs bs k v others is views buffers formed =
    let kinds : texts (nullable (unflagged_valid v)) ≡ k = (λ j. texts (kept_nullable v j)) ∙ sym (formed.1.kind ∙ ap (λ b. value_kind b (nullable v)) is) in
    ap (λ x. views_made n x (unflagged_valid v) others) kinds ∙ values-made n vs bs k v others views buffers formed
values-layout false n vs bs k v others is views buffers formed =
    let kinds : binaries (nullable (unflagged_valid v)) ≡ k = (λ j. binaries (kept_nullable v j)) ∙ sym (formed.1.kind ∙ ap (λ b. value_kind b (nullable v)) is) in
    ap (λ x. views_made n x (unflagged_valid v) others) kinds ∙ values-made n vs bs k v others views buffers formed

pub values_written : (w : WrittenNode) (vs bs : List (List ℕ)) (k : Kind) (v : Valid) (old new : List WrittenNode) → w.kind ≡ view_kind (is_texts k)
    → w.validity ≡ valid_number v → w.length ≡ length vs → map view_bytes w.views.items ≡ vs → map (λ b. b.items) w.buffers.blocks.items ≡ bs
    → w.size ≡ 0 → w.offset ≡ 0 → w.bytes.items ≡ [] → w.views.items ≡ map view_with vs
    → WellFormed (view_array vs bs k v) → IsPut w v old new → IsWritten old (view_array vs bs k (unflagged_valid v) ∷ []) new
values_written w vs bs k v old new kind number len views buffers size begins bytes exact formed put =
    leaf-written w (view_kind (is_texts k)) v old new (view_array vs bs k (unflagged_valid v)) (known_as w (view_kind (is_texts k)) kind) number put
    (λ others. values-layout (is_texts k) (node_of w) vs bs k v others refl views (buffers-names w.buffers.blocks.items ∙ buffers) formed)
    (sym len) (leaf-count (unflagged_valid v))
    (ap (λ n. n ∷ valid_table (unflagged_valid v))
    (values_exact w (view_kind (is_texts k)) vs bs (valid_number v) (unflagged_valid v) kind number size len begins bytes exact buffers (valid_number-kept v)))

-- ---- what each call puts

pub put_alone : (w : WrittenNode) (v : Valid) (old new : List WrittenNode) → new ≡ old ++ w ∷ [] → valid_trees (unflagged_valid v) ≡ [] → IsPut w v old new
put_alone w v old new pushed none = record { mid = new; first = pushed; valid = subst (λ ts. IsWritten new ts new) (sym none) (none_written new) }

pub put_masked : (w : WrittenNode) (t : Tree) (old mid new : List WrittenNode) → mid ≡ old ++ w ∷ [] → IsWritten mid (unflagged t ∷ []) new → IsPut w (by_array t) old new
put_masked w t old mid new pushed mask = record { mid = mid; first = pushed; valid = mask }

pub parent_put : (w : WrittenNode) (k : NodeKind) (size len : ℕ) (names : List (List ℕ)) (v : Valid) (old new : List WrittenNode) → w.kind ≡ k → w.validity ≡ valid_number v
    → w.size ≡ size → w.length ≡ len → w.offset ≡ 0 → w.bytes.items ≡ [] → w.views.items ≡ [] → map (λ (b : Vec ℕ). b.items) w.buffers.blocks.items ≡ names
    → IsPut w v old new → IsParent k size len names v old new
parent_put w k size len names v old new kind number sized long begins bytes views named put = record {
  node = w;
  kind = kind;
  validity = number;
  size_is = sized;
  len_is = long;
  begins = begins;
  no_bytes = bytes;
  no_views = views;
  names_are = named;
  put = put;
}

pub bits_none : (bytes : List ℕ) (from len : ℕ) → from + len ≤ 8 * length bytes → from + len < 2 ^ 64 → bits_fault bytes from len ≡ None
bits_none bytes from len inside counted = search (rules, arith, inside, counted)

pub bits_node : (w : WrittenNode) (first : ℕ) (bits : List Bool) (number offset len : ℕ) (bytes : List ℕ) → w.kind ≡ bool_kind → w.validity ≡ number → w.size ≡ 0 → w.offset ≡ offset
    → w.length ≡ len → w.views.items ≡ [] → w.buffers.blocks.items ≡ [] → w.bytes.items ≡ bits_bytes (replicate offset false ++ unpacked bytes offset len) → len ≡ length bits
    → offset + len < 2 ^ 64 → offset ≡ first → offset < 8 → bits ≡ unpacked bytes offset len → IsBitsNode first bits number w
bits_node w first bits number offset len bytes kind validity size from long views buffers exact count counted starts low seen =
    let is : w.bytes.items ≡ bits_bytes (replicate first false ++ bits) = exact ∙ (λ j. bits_bytes (replicate (starts j) false ++ sym seen j)) in
    let inside : first + length bits ≤ 8 * length (bits_bytes (replicate first false ++ bits)) = omega (arith, length-begun first bits) in
    let short : first + length bits < 2 ^ 64 = omega (arith, starts, count, counted) in record {
      kind = kind;
      number = validity;
      size_is = size;
      len = long ∙ count;
      low = omega (arith, starts, low);
      begins = from ∙ starts;
      is = is;
      no_views = views;
      no_buffers = buffers;
      faultless = (λ j. bits_fault (is j) ((from ∙ starts) j) ((long ∙ count) j)) ∙ bits_none (bits_bytes (replicate first false ++ bits)) first (length bits) inside short;
    }

pub mask_written : (w : WrittenNode) (first : ℕ) (bits : List Bool) (v : Valid) (t : Tree) (old new : List WrittenNode) → t ≡ bools first bits v → kind_of t ≡ booleans false → IsBitsNode first bits 0 w
    → new ≡ old ++ w ∷ [] → IsWritten old (unflagged t ∷ []) new
mask_written w first bits non_nullable t old new is kind node pushed =
    subst (λ x. IsWritten old (unflagged x ∷ []) new) (sym is) (bools_written w first bits non_nullable old new node tt (put_alone w non_nullable old new pushed refl))
mask_written w first bits all_valid t old new is kind node pushed = let other = sym (ap kind_of is) ∙ kind in absurd (cc)
mask_written w first bits all_invalid t old new is kind node pushed = let other = sym (ap kind_of is) ∙ kind in absurd (cc)
mask_written w first bits (by_array m) t old new is kind node pushed = let other = sym (ap kind_of is) ∙ kind in absurd (cc)

-- ---- columns, one after another

pub columns_more : (cs : List Tree) (i : ℕ) (other : Tree) (old mid new : List WrittenNode) → i < length cs → IsWritten old (map unflagged (take i cs)) mid
    → IsWritten mid (unflagged (get_or cs i other) ∷ []) new → IsWritten old (map unflagged (take (i + 1) cs)) new
columns_more cs i other old mid new inside before here =
    subst (λ ts. IsWritten old ts new) (sym (ap (map unflagged) (take_more cs i other inside) ∙ map-append unflagged (take i cs) (get_or cs i other ∷ [])))
    (written-both old mid new (map unflagged (take i cs)) (unflagged (get_or cs i other) ∷ []) before here)
