-- The first column of a name, null where its records are.
use Rattle.std.proofs.Common.{◌≡◌, ℕ, ◌<◌, Bool, true, false, List, Some, None, refl, sym, ◌∙◌, ap, subst, arith}
use Rattle.std.specs.Prelude.{if◌then◌else◌, IsSomeAnd}
use Rattle.vx_base.specs.Kinds.{or_nullable}
use Rattle.vx_base.specs.Rows.{Row, null, record_of, Fields}
use Rattle.vx_tree.specs.Formed.{ValidFits, WellFormed}
use Rattle.vx_tree.specs.Meaning.{tree_len, kind_of, kinds_of, row_at, rows, fields_at, is_valid_at, trees_from}
use Rattle.vx_tree.specs.Operations.{IsNulled}
use Rattle.vx_tree.specs.Shapes.{state_of, tree_state}
use Rattle.vx_tree.specs.Slots.{validity_of}
use Rattle.vx_tree.specs.Tree.{Tree, structure, Valid, non_nullable, all_valid, all_invalid, by_array}
use Rattle.vx_tree.specs.Validities.{is_full_state}
use Rattle.vx_structs.specs.Structs.Records.{field_named, field_of, field_rows, kind_named, field_kind}
use Rattle.vx_structs.specs.Structs.{column_list, column_named, is_struct, IsField, IsPushedColumn}
use Rattle.vx_structs.proofs.Structs.Columns.{field_named-found, kind_named-found, len_named-found}
use Rattle.vx_structs.proofs.Structs.Parts.{trees_from-list}
use Rattle.vx_structs.proofs.Structs.PushedNulls.{rows-mapped}

-- ---- a column, null where the records are

pushed_len : (v : Valid) (c r : Tree) → IsPushedColumn v c r → tree_len r ≡ tree_len c
pushed_len non_nullable c r made = ap tree_len made
pushed_len all_valid c r made = ap tree_len made
pushed_len all_invalid c r made = made.len
pushed_len (by_array t) c r made = made.len

pushed_row : (v : Valid) (n : ℕ) (c r : Tree) (i : ℕ) → IsPushedColumn v c r → tree_len c ≡ n → i < n → row_at r i ≡ (if is_valid_at v i then row_at c i else null)
pushed_row non_nullable n c r i made len inside = ap (λ u. row_at u i) made
pushed_row all_valid n c r i made len inside = ap (λ u. row_at u i) made
pushed_row all_invalid n c r i made len inside = made.rows i (omega (arith, len))
pushed_row (by_array t) n c r i made len inside = made.rows i (omega (arith, len))

pushed_kind_of : (v : Valid) (c r : Tree) → IsPushedColumn v c r → kind_of r ≡ (if is_full_state (state_of v) then kind_of c else or_nullable true (kind_of c))
pushed_kind_of non_nullable c r made = ap kind_of made
pushed_kind_of all_valid c r made = ap kind_of made
pushed_kind_of all_invalid c r made = made.kind
pushed_kind_of (by_array t) c r made = made.kind

IsPushedColumn-full : (v : Valid) (c r : Tree) → is_full_state (state_of v) ≡ true → r ≡ c → IsPushedColumn v c r
IsPushedColumn-full non_nullable c r full same = same
IsPushedColumn-full all_valid c r full same = same
IsPushedColumn-full all_invalid c r full same = absurd (cc)
IsPushedColumn-full (by_array t) c r full same = absurd (cc)

IsPushedColumn-nulled : (v : Valid) (c r : Tree) → is_full_state (state_of v) ≡ false → IsNulled c v r → IsPushedColumn v c r
IsPushedColumn-nulled non_nullable c r full made = absurd (cc)
IsPushedColumn-nulled all_valid c r full made = absurd (cc)
IsPushedColumn-nulled all_invalid c r full made = made
IsPushedColumn-nulled (by_array t) c r full made = made

-- a column of records by their parts: shared where no record is null, else null by their validity
module _ (t : Tree) (ns : List (List ℕ)) (cs : List Tree) (v : Valid) (n : ℕ) (same : t ≡ structure ns (trees_from cs) v n) (c r : Tree) where
  pub shared_is_pushed : is_full_state (state_of v) ≡ true → r ≡ c → IsPushedColumn (validity_of t) c r
  shared_is_pushed full made = rw same (IsPushedColumn-full v c r full made)

  pub nulled_is_pushed : is_full_state (state_of v) ≡ false → IsNulled c v r → IsPushedColumn (validity_of t) c r
  nulled_is_pushed full made = rw same (IsPushedColumn-nulled v c r full made)

-- ---- the field of records

field_row : (name : List ℕ) (valid : Bool) (fs : Fields) (x : Row) → field_named name fs ≡ x → (if valid then x else null) ≡ field_of name (if valid then record_of fs else null)
field_row name true fs x same = sym same
field_row name false fs x same = refl

pub IsField-found : (t : Tree) (name : List ℕ) (c r : Tree) → column_named t name ≡ Some c → IsPushedColumn (validity_of t) c r → IsField t name r
IsField-found t name c r found made = subst (λ column. IsSomeAnd column (λ d. IsPushedColumn (validity_of t) d r)) (sym found) made

-- the first column of a name of records has a row a record
pub field_len : (t : Tree) (name : List ℕ) (c : Tree) → is_struct t ≡ true → WellFormed t → column_named t name ≡ Some c → tree_len c ≡ tree_len t
field_len (structure ns ts v n) name c is formed found = len_named-found ns (column_list ts) name c n found (rw (trees_from-list ts) formed.1.lens)
field_len _ name c is formed found = absurd (cc)

pub rows-field : (t : Tree) (name : List ℕ) (c r : Tree) → is_struct t ≡ true → WellFormed t → column_named t name ≡ Some c
    → IsPushedColumn (validity_of t) c r → rows r ≡ field_rows name (rows t)
rows-field (structure ns ts v n) name c r is formed found made =
    let len = field_len (structure ns ts v n) name c is formed found in
    rows-mapped (structure ns ts v n) r (field_of name) (pushed_len v c r made ∙ len) (λ i inside.
    pushed_row v n c r i made len inside
    ∙ field_row name (is_valid_at v i) (fields_at ts ns i) (row_at c i)
    (ap (λ us. field_named name (fields_at us ns i)) (sym (trees_from-list ts)) ∙ field_named-found ns (column_list ts) name c i found))
rows-field _ name c r is formed found made = absurd (cc)

pub kind_of-field : (t : Tree) (name : List ℕ) (c r : Tree) → is_struct t ≡ true → column_named t name ≡ Some c
    → IsPushedColumn (validity_of t) c r → kind_of r ≡ field_kind (is_full_state (tree_state t)) name (kind_of t)
kind_of-field (structure ns ts v n) name c r is found made =
    pushed_kind_of v c r made
    ∙ sym (ap (λ k. if is_full_state (state_of v) then k else or_nullable true k)
    (ap (λ us. kind_named name ns (kinds_of us)) (sym (trees_from-list ts)) ∙ kind_named-found ns (column_list ts) name c found))
kind_of-field _ name c r is found made = absurd (cc)

-- the validity of the records is that of the rows of the column
pub field_fits : (t : Tree) (ns : List (List ℕ)) (cs : List Tree) (v : Valid) (n : ℕ) (name : List ℕ) (c : Tree) → t ≡ structure ns (trees_from cs) v n
    → WellFormed (structure ns (trees_from cs) v n) → column_named t name ≡ Some c → ValidFits v (tree_len c)
field_fits t ns cs v n name c same formed found =
    let len : tree_len c ≡ n = field_len t name c (ap is_struct same) (subst WellFormed (sym same) formed) found ∙ ap tree_len same in
    subst (ValidFits v) (sym len) formed.0
