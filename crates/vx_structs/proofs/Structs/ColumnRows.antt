-- Records with other columns: what becomes of their rows and of their kind.
use Rattle.std.proofs.Common.{◌≡◌, ℕ, ◌+◌, ◌<◌, Bool, true, false, cond, List, [], ◌∷◌, ◌++◌, length, map, Some, None, refl, sym, ◌∙◌, ap, subst, arith}
use Rattle.std.specs.Prelude.{slice_get}
use Rattle.std.specs.List.{remove, range_with_len}
use Rattle.std.specs.Option.{option_map}
use Rattle.std.proofs.lemmas.List.{length-map, length_push}
use Rattle.std.proofs.lemmas.List.Edits.{length-remove}
use Rattle.std.proofs.lemmas.Simd.{map-map}
use Rattle.vx_base.proofs.ListParts.{map_range_same}
use Rattle.vx_base.specs.Fields.{place_of_name}
use Rattle.vx_base.specs.Kinds.{records}
use Rattle.vx_base.specs.Rows.{Row, null, record_of, Fields}
use Rattle.vx_tree.specs.Tree.{Tree, bools, primitive, constant, dictionary, fixed_list, list_view, structure, view_array, Valid}
use Rattle.vx_tree.specs.Meaning.{tree_len, kind_of, kinds_of, row_at, rows, fields_at, is_valid_at, nullable, trees_from}
use Rattle.vx_tree.specs.Formed.{WellFormed, IsStruct}
use Rattle.vx_tree.specs.Slots.{validity_of}
use Rattle.vx_tree.proofs.Columns.{column_count-trees_from}
use Rattle.vx_structs.specs.Structs.Records.{fields_named, with_field, without_field, on_fields, projected, with_column, without_column, projected_kind, kind_with_column, kind_without, kind_without_column}
use Rattle.vx_structs.specs.Structs.{is_struct, names_of, columns_of, records_by, with_columns, column_at_place, column_named, AreNamed, IsProjected, added, removed_at, removed}
use Rattle.vx_structs.proofs.Structs.Parts.{column_list-from, trees_from-list}
use Rattle.vx_structs.proofs.Structs.Columns.{fields_named-found, kinds_named-found, lens_named-found, AreFound, fields_at-added, kinds_of-added, AllLen-added, fields_at-removed, kinds_of-removed, AllLen-removed, place_of_name-added, remove-last, slice_get-last}

-- ---- records are made of their parts

pub by_parts : (t : Tree) → is_struct t ≡ true → t ≡ with_columns t (names_of t) (columns_of t)
by_parts (structure ns ts v n) is = ap (λ us. structure ns us v n) (sym (trees_from-list ts))
by_parts (bools b bits v) is = cc
by_parts (primitive t bs v) is = cc
by_parts (constant k r n) is = cc
by_parts (dictionary c v f) is = cc
by_parts (fixed_list e k v n) is = cc
by_parts (list_view e o s v f) is = cc
by_parts (view_array vs bs k v) is = cc

-- columns and names of records are well formed
parts_formed : (t : Tree) → is_struct t ≡ true → WellFormed t → IsStruct (names_of t) (trees_from (columns_of t)) (tree_len t)
parts_formed t is formed = let all : WellFormed (with_columns t (names_of t) (columns_of t)) = subst WellFormed (by_parts t is) formed in all.1

pub names_of_columns : (t : Tree) → is_struct t ≡ true → WellFormed t → length (names_of t) ≡ length (columns_of t)
names_of_columns t is formed = (parts_formed t is formed).named ∙ column_count-trees_from (columns_of t)

kind_of_parts : (t : Tree) → is_struct t ≡ true → kind_of t ≡ records (names_of t) (kinds_of (trees_from (columns_of t))) (nullable (validity_of t))
kind_of_parts t is = ap kind_of (by_parts t is)

-- ---- other fields

row-changed : (change : Fields → Fields) (valid : Bool) (fs gs : Fields) → gs ≡ change fs → cond valid (record_of gs) null ≡ on_fields change (cond valid (record_of fs) null)
row-changed change true fs gs same = ap record_of same
row-changed change false fs gs same = refl

-- rows of records by their parts, whose fields all change alike
rows-changed : (change : Fields → Fields) (ns ms : List (List ℕ)) (cs ds : List Tree) (v : Valid) (n : ℕ)
    → ((i : ℕ) → fields_at (trees_from ds) ms i ≡ change (fields_at (trees_from cs) ns i)) → rows (records_by ms ds v n) ≡ map (on_fields change) (rows (records_by ns cs v n))
rows-changed change ns ms cs ds v n same =
    map_range_same (row_at (records_by ms ds v n)) (λ i. on_fields change (row_at (records_by ns cs v n) i)) 0 0 n
    (λ i below. row-changed change (is_valid_at v (0 + i)) (fields_at (trees_from cs) ns (0 + i)) (fields_at (trees_from ds) ms (0 + i)) (same (0 + i)))
    ∙ sym (map-map (on_fields change) (row_at (records_by ns cs v n)) (range_with_len 0 n))

-- ---- columns that are chosen

pub projected_rows : (t : Tree) (names : List (List ℕ)) (r : Tree) → is_struct t ≡ true → IsProjected t names r → rows r ≡ projected names (rows t)
projected_rows t names r is chosen =
    ap rows chosen.2
    ∙ rows-changed (fields_named names) (names_of t) names (columns_of t) chosen.0 (validity_of t) (tree_len t) (λ i. fields_named-found (names_of t) (columns_of t) names chosen.0 i chosen.1)
    ∙ ap (λ u. projected names (rows u)) (sym (by_parts t is))

pub projected_kind_of : (t : Tree) (names : List (List ℕ)) (r : Tree) → is_struct t ≡ true → IsProjected t names r → kind_of r ≡ projected_kind names (kind_of t)
projected_kind_of t names r is chosen =
    ap kind_of chosen.2
    ∙ ap (λ ks. records names ks (nullable (validity_of t))) (kinds_named-found (names_of t) (columns_of t) names chosen.0 chosen.1)
    ∙ ap (projected_kind names) (sym (kind_of_parts t is))

-- the first column of each of these names, by the parts of the records
pub AreNamed-from_found : (t : Tree) (ns : List (List ℕ)) (cs : List Tree) (names : List (List ℕ)) (columns : List Tree) → names_of t ≡ ns → columns_of t ≡ cs
    → AreFound ns cs names columns → AreNamed t names columns
AreNamed-from_found t ns cs names columns same_names same_columns found =
    found ∙ (λ i. map (λ name. column_at_place (sym same_columns i) (place_of_name (sym same_names i) name)) names)

pub projected_fits : (t : Tree) (names : List (List ℕ)) (columns : List Tree) → is_struct t ≡ true → WellFormed t → AreNamed t names columns → IsStruct names (trees_from columns) (tree_len t)
projected_fits t names columns is formed found =
    let many : length columns ≡ length names = sym (length-map columns Some) ∙ ap length found ∙ length-map names (column_named t) in
    record {
      named = sym many ∙ sym (column_count-trees_from columns);
      lens = lens_named-found (names_of t) (columns_of t) names columns (tree_len t) found (parts_formed t is formed).lens;
    }

-- ---- a column that is added

pub added_fits : (t : Tree) (name : List ℕ) (c : Tree) → is_struct t ≡ true → WellFormed t → tree_len c ≡ tree_len t → IsStruct (names_of t ++ name ∷ []) (trees_from (columns_of t ++ c ∷ [])) (tree_len t)
added_fits t name c is formed same = record {
  named = let many = names_of_columns t is formed in let names = length_push (names_of t) name in let columns = length_push (columns_of t) c in let count = column_count-trees_from (columns_of t ++ c ∷ []) in omega arith;
  lens = AllLen-added (tree_len t) (columns_of t) c (parts_formed t is formed).lens same;
}

with_column-map : (name : List ℕ) (f g : ℕ → Row) (ks : List ℕ) → with_column name (map f ks) (map g ks) ≡ map (λ k. on_fields (with_field name (f k)) (g k)) ks
with_column-map name f g [] = refl
with_column-map name f g (k ∷ ks) = ap (λ rest. on_fields (with_field name (f k)) (g k) ∷ rest) (with_column-map name f g ks)

pub added_rows : (t : Tree) (name : List ℕ) (c r : Tree) → is_struct t ≡ true → length (names_of t) ≡ length (columns_of t) → tree_len c ≡ tree_len t
    → r ≡ added t name c → rows r ≡ with_column name (rows c) (rows t)
added_rows t name c r is same len made =
    ap rows made
    ∙ map_range_same (row_at (added t name c)) (λ i. on_fields (with_field name (row_at c i)) (row_at u i)) 0 0 (tree_len t)
    (λ i below. row-changed (with_field name (row_at c (0 + i))) (is_valid_at (validity_of t) (0 + i)) (fields_at (trees_from (columns_of t)) (names_of t) (0 + i)) (fields_at (trees_from (columns_of t ++ c ∷ [])) (names_of t ++ name ∷ []) (0 + i)) (fields_at-added (names_of t) (columns_of t) name c (0 + i) same))
    ∙ sym (with_column-map name (row_at c) (row_at u) (range_with_len 0 (tree_len t)))
    ∙ ap (λ n. with_column name (map (row_at c) (range_with_len 0 n)) (rows u)) (sym len)
    ∙ ap (λ w. with_column name (rows c) (rows w)) (sym (by_parts t is))
  where
    u : Tree
    u = with_columns t (names_of t) (columns_of t)

pub added_kind : (t : Tree) (name : List ℕ) (c r : Tree) → is_struct t ≡ true → r ≡ added t name c → kind_of r ≡ kind_with_column name (kind_of c) (kind_of t)
added_kind t name c r is made =
    ap kind_of made
    ∙ ap (λ ks. records (names_of t ++ name ∷ []) ks (nullable (validity_of t))) (kinds_of-added (columns_of t) c)
    ∙ ap (kind_with_column name (kind_of c)) (sym (kind_of_parts t is))

-- ---- a column that is removed

pub removed_fits : (t : Tree) (k : ℕ) → is_struct t ≡ true → WellFormed t → k < length (columns_of t) → IsStruct (remove (names_of t) k) (trees_from (remove (columns_of t) k)) (tree_len t)
removed_fits t k is formed inside = record {
  named =
      let many = names_of_columns t is formed in
      let names = length-remove (names_of t) k (omega arith) in
      let columns = length-remove (columns_of t) k inside in
      let count = column_count-trees_from (remove (columns_of t) k) in
      omega arith;
  lens = AllLen-removed (tree_len t) (columns_of t) k (parts_formed t is formed).lens;
}

-- the column at the place of its name is removed
pub removed-found : (t : Tree) (name : List ℕ) (k : ℕ) (rest c : Tree) → place_of_name (names_of t) name ≡ Some k → slice_get (columns_of t) k ≡ Some c
    → rest ≡ with_columns t (remove (names_of t) k) (remove (columns_of t) k) → removed t name ≡ Some (rest, c)
removed-found t name k rest c at found made =
    ap (removed_at t) at
    ∙ ap (option_map (λ column. (with_columns t (remove (names_of t) k) (remove (columns_of t) k), column))) found
    ∙ ap (λ u. Some (u, c)) (sym made)

module _ (t : Tree) (name : List ℕ) (k : ℕ) (rest : Tree) (is : is_struct t ≡ true) (at : place_of_name (names_of t) name ≡ Some k)
    (made : rest ≡ with_columns t (remove (names_of t) k) (remove (columns_of t) k)) where
  pub removed_rows : length (names_of t) ≡ length (columns_of t) → rows rest ≡ without_column name (rows t)
  removed_rows same =
      ap rows made
      ∙ rows-changed (without_field name) (names_of t) (remove (names_of t) k) (columns_of t) (remove (columns_of t) k) (validity_of t) (tree_len t) (λ i. fields_at-removed name i (names_of t) (columns_of t) k same at)
      ∙ ap (λ u. without_column name (rows u)) (sym (by_parts t is))

  pub removed_kind : kind_of rest ≡ kind_without_column name (kind_of t)
  removed_kind =
      ap kind_of made
      ∙ ap (λ ks. records (remove (names_of t) k) ks (nullable (validity_of t))) (kinds_of-removed (columns_of t) k)
      ∙ ap (λ place. kind_without place (records (names_of t) (kinds_of (trees_from (columns_of t))) (nullable (validity_of t)))) (sym at)
      ∙ ap (kind_without_column name) (sym (kind_of_parts t is))

-- ---- a column that is added and removed again

removed-last : (ns : List (List ℕ)) (cs : List Tree) (v : Valid) (n : ℕ) (name : List ℕ) (c : Tree) → length ns ≡ length cs → place_of_name ns name ≡ None
    → removed (records_by (ns ++ name ∷ []) (cs ++ c ∷ []) v n) name ≡ Some (records_by ns cs v n, c)
removed-last ns cs v n name c same new =
    ap (removed_at (records_by (ns ++ name ∷ []) (cs ++ c ∷ []) v n)) (place_of_name-added ns name new)
    ∙ ap (λ columns. option_map (λ column. (records_by (remove (ns ++ name ∷ []) (length ns)) (remove columns (length ns)) v n, column)) (slice_get columns (length ns))) (column_list-from (cs ++ c ∷ []))
    ∙ ap (option_map (λ column. (records_by (remove (ns ++ name ∷ []) (length ns)) (remove (cs ++ c ∷ []) (length ns)) v n, column))) (slice_get-last cs c (length ns) (sym same))
    ∙ ap (λ names. Some (records_by names (remove (cs ++ c ∷ []) (length ns)) v n, c)) (remove-last ns name (length ns) refl)
    ∙ ap (λ columns. Some (records_by ns columns v n, c)) (remove-last cs c (length ns) (sym same))

pub added_is_removed : (t c : Tree) (name : List ℕ) → is_struct t ≡ true → WellFormed t → place_of_name (names_of t) name ≡ None → removed (added t name c) name ≡ Some (t, c)
added_is_removed t c name is formed new =
    removed-last (names_of t) (columns_of t) (validity_of t) (tree_len t) name c (names_of_columns t is formed) new
    ∙ ap (λ u. Some (u, c)) (sym (by_parts t is))
