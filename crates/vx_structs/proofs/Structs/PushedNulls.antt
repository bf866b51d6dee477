-- Nulls of records, pushed into their columns.
use Rattle.std.proofs.Common.{◌≡◌, ℕ, zero, suc, ◌+◌, ◌<◌, Bool, true, false, List, [], ◌∷◌, length, map, None, refl, sym, ◌∙◌, ap, subst, zero-add, arith}
use Rattle.std.specs.Prelude.{if◌then◌else◌}
use Rattle.std.specs.List.{All, AllZip, range_with_len}
use Rattle.std.proofs.lemmas.List.Elements.{All-weaker}
use Rattle.std.proofs.lemmas.Simd.{map-map}
use Rattle.vx_base.proofs.ListParts.{map_range_same}
use Rattle.vx_base.specs.Kinds.{kind, records, or_nullable}
use Rattle.vx_base.specs.Rows.{Row, null, record_of, Fields, field, is_present}
use Rattle.vx_tree.specs.Formed.{WellFormed, ValidFits, IsStruct, AllLen, column_count}
use Rattle.vx_canonical.specs.Joined.{column_at, column_of}
use Rattle.vx_tree.specs.Meaning.{tree_len, kind_of, kinds_of, row_at, rows, fields_at, is_valid_at, nullable, trees_from}
use Rattle.vx_tree.specs.Operations.{IsNulled}
use Rattle.vx_tree.specs.Shapes.{state_of}
use Rattle.vx_tree.specs.Tree.{Tree, structure, Trees, no_trees, tree, Valid, non_nullable, all_valid, all_invalid, by_array}
use Rattle.vx_tree.specs.Validities.{is_full_state}
use Rattle.vx_canonical.proofs.JoinedRecords.{fields-same}
use Rattle.vx_tree.proofs.RowLists.{rows_by_place}
use Rattle.vx_tree.specs.Slots.{validity_of}
use Rattle.vx_structs.specs.Structs.Records.{null_fields, or_nulls, pushed, nullable_kinds}
use Rattle.vx_structs.specs.Structs.{column_list, columns_of, is_struct, ArePushed, IsPushed, pushed_validity}
use Rattle.vx_structs.proofs.Structs.Parts.{column_list-from, trees_from-list, length-list, each_len}

-- ---- what a validity tells

is_valid_at-full : (v : Valid) (i : ℕ) → is_full_state (state_of v) ≡ true → is_valid_at v i ≡ true
is_valid_at-full non_nullable i full = refl
is_valid_at-full all_valid i full = refl
is_valid_at-full all_invalid i full = full
is_valid_at-full (by_array t) i full = cc

-- ---- columns

-- as many columns, null where a validity is not true
pub record AreNullAlong (v : Valid) (n : ℕ) (ts us : Trees) : Type 0 where
  pub count : column_count us ≡ column_count ts
  pub lens : AllLen n us
  pub rows : (k i : ℕ) → k < column_count ts → i < n → row_at (column_at us k) i ≡ (if is_valid_at v i then row_at (column_at ts k) i else null)

AreNullAlong-full : (v : Valid) (n : ℕ) (ts : Trees) → is_full_state (state_of v) ≡ true → AllLen n ts → AreNullAlong v n ts ts
AreNullAlong-full v n ts full lens = record { count = refl; lens = lens; rows = λ k i here inside. rw (is_valid_at-full v i full) refl }

AreNullAlong-tree : (v : Valid) (n : ℕ) (t u : Tree) (ts us : Trees) → IsNulled t v u → tree_len t ≡ n → AreNullAlong v n ts us → AreNullAlong v n (tree t ts) (tree u us)
AreNullAlong-tree v n t u ts us made len rest = record {
  count = ap (λ k. k + 1) rest.count;
  lens = (made.len ∙ len, rest.lens);
  rows = at;
}
  where
    at : (k i : ℕ) → k < column_count ts + 1 → i < n → row_at (column_at (tree u us) k) i ≡ (if is_valid_at v i then row_at (column_at (tree t ts) k) i else null)
    at zero i here inside = made.rows i (omega (arith, len))
    at (suc k) i here inside = rest.rows k i (omega arith) inside

AreNullAlong-each : (v : Valid) (n : ℕ) (ts us : List Tree) → AllZip (λ c d. IsNulled c v d) ts us → AllLen n (trees_from ts) → AreNullAlong v n (trees_from ts) (trees_from us)
AreNullAlong-each v n [] [] made lens = record { count = refl; lens = tt; rows = λ k i here inside. absurd (omega arith) }
AreNullAlong-each v n [] (u ∷ us) made lens = absurd made
AreNullAlong-each v n (t ∷ ts) [] made lens = absurd made
AreNullAlong-each v n (t ∷ ts) (u ∷ us) made lens = AreNullAlong-tree v n t u (trees_from ts) (trees_from us) made.0 lens.0 (AreNullAlong-each v n ts us made.1 lens.1)

AreNullAlong-pushed : (v : Valid) (n : ℕ) (ts us : List Tree) → ArePushed v ts us → AllLen n (trees_from ts) → AreNullAlong v n (trees_from ts) (trees_from us)
AreNullAlong-pushed non_nullable n ts us made lens = rw made (AreNullAlong-full non_nullable n (trees_from ts) refl lens)
AreNullAlong-pushed all_valid n ts us made lens = rw made (AreNullAlong-full all_valid n (trees_from ts) refl lens)
AreNullAlong-pushed all_invalid n ts us made lens = AreNullAlong-each all_invalid n ts us made lens
AreNullAlong-pushed (by_array t) n ts us made lens = AreNullAlong-each (by_array t) n ts us made lens

-- the validity of records is that of the rows of each column
pub columns_fit : (ns : List (List ℕ)) (cs : List Tree) (v : Valid) (n : ℕ) → WellFormed (structure ns (trees_from cs) v n) → All (λ c. ValidFits v (tree_len c)) cs
columns_fit ns cs v n formed =
    All-weaker (λ c. tree_len c ≡ n) (λ c. ValidFits v (tree_len c)) (λ c len. subst (ValidFits v) (sym len) formed.0) cs (each_len n cs formed.1.lens)

ArePushed-each : (v : Valid) (cs ds : List Tree) → is_full_state (state_of v) ≡ false → AllZip (λ c d. IsNulled c v d) cs ds → ArePushed v cs ds
ArePushed-each non_nullable cs ds full made = cc
ArePushed-each all_valid cs ds full made = cc
ArePushed-each all_invalid cs ds full made = made
ArePushed-each (by_array t) cs ds full made = made

pub nulled_columns_are_pushed : (t : Tree) (ns : List (List ℕ)) (cs ds : List Tree) (v : Valid) (n : ℕ) → t ≡ structure ns (trees_from cs) v n → is_full_state (state_of v) ≡ false
    → AllZip (λ c d. IsNulled c v d) cs ds → ArePushed (validity_of t) (columns_of t) ds
nulled_columns_are_pushed t ns cs ds v n before full made = rw (before, column_list-from cs) (ArePushed-each v cs ds full made)

-- ---- their kinds

kinds_of-each : (v : Valid) (ts us : List Tree) → nullable v ≡ true → AllZip (λ c d. IsNulled c v d) ts us → kinds_of (trees_from us) ≡ nullable_kinds (kinds_of (trees_from ts))
kinds_of-each v [] [] may made = refl
kinds_of-each v [] (u ∷ us) may made = absurd made
kinds_of-each v (t ∷ ts) [] may made = absurd made
kinds_of-each v (t ∷ ts) (u ∷ us) may made =
    let here = made.0.kind ∙ ap (λ b. or_nullable b (kind_of t)) may in
    λ i. kind (here i) (kinds_of-each v ts us may made.1 i)

kinds_of-pushed : (v : Valid) (ts us : List Tree) → ArePushed v ts us
    → kinds_of (trees_from us) ≡ (if is_full_state (state_of v) then kinds_of (trees_from ts) else nullable_kinds (kinds_of (trees_from ts)))
kinds_of-pushed non_nullable ts us made = ap (λ cs. kinds_of (trees_from cs)) made
kinds_of-pushed all_valid ts us made = ap (λ cs. kinds_of (trees_from cs)) made
kinds_of-pushed all_invalid ts us made = kinds_of-each all_invalid ts us refl made
kinds_of-pushed (by_array t) ts us made = kinds_of-each (by_array t) ts us refl made

nullable-pushed_validity : (remove : Bool) (v : Valid) → nullable (pushed_validity remove v) ≡ (if remove then false else nullable v)
nullable-pushed_validity true v = refl
nullable-pushed_validity false v = refl

-- ---- records of them

fields_at-null : (us : Trees) (ns : List (List ℕ)) (i : ℕ) → length ns ≡ column_count us → ((k : ℕ) → k < column_count us → row_at (column_at us k) i ≡ null)
    → fields_at us ns i ≡ null_fields ns
fields_at-null no_trees [] i named none = refl
fields_at-null no_trees (n ∷ ns) i named none = absurd (omega arith)
fields_at-null (tree u us) [] i named none = absurd (omega arith)
fields_at-null (tree u us) (n ∷ ns) i named none =
    let here = none zero (omega arith) in
    let rest = fields_at-null us ns i (omega arith) (λ k l. none (suc k) (omega arith)) in
    λ j. field n (here j) (rest j)

fields_at-under : (b : Bool) (ts us : Trees) (ns : List (List ℕ)) (i : ℕ) → length ns ≡ column_count ts → column_count us ≡ column_count ts
    → ((k : ℕ) → k < column_count ts → row_at (column_at us k) i ≡ (if b then row_at (column_at ts k) i else null))
    → fields_at us ns i ≡ (if b then fields_at ts ns i else null_fields ns)
fields_at-under true ts us ns i named count each = fields-same us ts ns i i count each
fields_at-under false ts us ns i named count each = fields_at-null us ns i (named ∙ sym count) (λ k l. each k (omega (arith, count)))

record_or_nulls : (b : Bool) (ns : List (List ℕ)) (x y : Fields) → y ≡ (if b then x else null_fields ns) → record_of y ≡ or_nulls ns (if b then record_of x else null)
record_or_nulls true ns x y same = ap record_of same
record_or_nulls false ns x y same = ap record_of same

record_or_null : (b : Bool) (ns : List (List ℕ)) (x y : Fields) → y ≡ (if b then x else null_fields ns) → (if b then record_of y else null) ≡ (if b then record_of x else null)
record_or_null true ns x y same = ap record_of same
record_or_null false ns x y same = refl

-- rows that are those of another array, changed one by one
pub rows-mapped : (t r : Tree) (f : Row → Row) → tree_len r ≡ tree_len t → ((i : ℕ) → i < tree_len t → row_at r i ≡ f (row_at t i)) → rows r ≡ map f (rows t)
rows-mapped t r f len each =
    ap (λ n. map (row_at r) (range_with_len 0 n)) len
    ∙ map_range_same (row_at r) (λ i. f (row_at t i)) 0 0 (tree_len t) (λ i inside. ap (row_at r) (zero-add i) ∙ each i inside ∙ sym (ap (λ j. f (row_at t j)) (zero-add i)))
    ∙ sym (map-map f (row_at t) (range_with_len 0 (tree_len t)))

rows-pushed : (remove : Bool) (ns : List (List ℕ)) (ts us : Trees) (v : Valid) (n : ℕ) → length ns ≡ column_count ts → AreNullAlong v n ts us
    → rows (structure ns us (pushed_validity remove v) n) ≡ pushed ns remove (rows (structure ns ts v n))
rows-pushed true ns ts us v n named along =
    rows-mapped (structure ns ts v n) (structure ns us non_nullable n) (or_nulls ns) refl (λ i inside.
    record_or_nulls (is_valid_at v i) ns (fields_at ts ns i) (fields_at us ns i) (fields_at-under (is_valid_at v i) ts us ns i named along.count (λ k here. along.rows k i here inside)))
rows-pushed false ns ts us v n named along =
    (rows_by_place (structure ns us v n) (structure ns ts v n)).1 (
      refl,
      λ i inside.
          record_or_null (is_valid_at v i) ns (fields_at ts ns i) (fields_at us ns i) (fields_at-under (is_valid_at v i) ts us ns i named along.count (λ k here. along.rows k i here inside)),
    )

-- records of pushed columns are well formed
pub pushed_validity_fits : (t : Tree) (ns : List (List ℕ)) (cs : List Tree) (v w : Valid) (n : ℕ) (remove : Bool) → t ≡ structure ns (trees_from cs) v n
    → WellFormed (structure ns (trees_from cs) v n) → w ≡ pushed_validity remove (validity_of t) → ValidFits w n
pushed_validity_fits t ns cs v w n true before formed after = rw after tt
pushed_validity_fits t ns cs v w n false before formed after = rw (after, before) formed.0

-- what was made of the parts of records, as said of those parts
pushed_parts : (t : Tree) (ns : List (List ℕ)) (cs ds : List Tree) (v : Valid) (n : ℕ) → t ≡ structure ns (trees_from cs) v n
    → ArePushed (validity_of t) (columns_of t) ds → ArePushed v cs ds
pushed_parts t ns cs ds v n before made = rw (before, column_list-from cs) at made

pub pushed_columns_are_formed : (t : Tree) (ns ms : List (List ℕ)) (cs ds : List Tree) (v : Valid) (n : ℕ) → t ≡ structure ns (trees_from cs) v n
    → WellFormed (structure ns (trees_from cs) v n) → ArePushed (validity_of t) (columns_of t) ds → ms ≡ ns → IsStruct ms (trees_from ds) n
pushed_columns_are_formed t ns ms cs ds v n before formed made same =
    let along = AreNullAlong-pushed v n cs ds (pushed_parts t ns cs ds v n before made) formed.1.lens in
    rw same (record { named = formed.1.named ∙ sym along.count; lens = along.lens })

pub pushed_records : (t r : Tree) (ns ms : List (List ℕ)) (cs ds : List Tree) (v w : Valid) (n : ℕ) (remove : Bool) → t ≡ structure ns (trees_from cs) v n
    → WellFormed (structure ns (trees_from cs) v n) → ArePushed (validity_of t) (columns_of t) ds → ms ≡ ns
    → w ≡ pushed_validity remove (validity_of t) → r ≡ structure ms (trees_from ds) w n → IsPushed t remove r
pushed_records t r ns ms cs ds v w n remove before formed made same left after =
    let pushed = pushed_parts t ns cs ds v n before made in
    let along = AreNullAlong-pushed v n cs ds pushed formed.1.lens in
    let valid : w ≡ pushed_validity remove v = left ∙ ap (λ u. pushed_validity remove (validity_of u)) before in
    let whole : r ≡ structure ns (trees_from ds) (pushed_validity remove v) n = after ∙ ap (λ names. structure names (trees_from ds) w n) same ∙ ap (λ u. structure ns (trees_from ds) u n) valid in
    rw (before, whole) (record {
      is_records = refl;
      names = refl;
      columns = rw (column_list-from cs, column_list-from ds) pushed;
      validity = refl;
      len = refl;
      kind = λ i. records ns (kinds_of-pushed v cs ds pushed i) (nullable-pushed_validity remove v i);
      same_rows = rows-pushed remove ns (trees_from cs) (trees_from ds) v n formed.1.named along;
    })

-- ---- the law

is_present-record : (b : Bool) (fs : Fields) → is_present (if b then record_of fs else null) ≡ b
is_present-record true fs = refl
is_present-record false fs = refl

pub pushed_field : (t r : Tree) (remove : Bool) (k i : ℕ) → is_struct t ≡ true → WellFormed t → IsPushed t remove r → k < length (columns_of t) → i < tree_len t
    → row_at (column_of k r) i ≡ (if is_present (row_at t i) then row_at (column_of k t) i else null)
pushed_field (structure ns ts v n) (structure ms us w m) remove k i mine formed made here inside =
    let lens : AllLen n (trees_from (column_list ts)) = rw (trees_from-list ts) formed.1.lens in
    let along = rw (trees_from-list ts, trees_from-list us) at (AreNullAlong-pushed v n (column_list ts) (column_list us) made.columns lens) in
    along.rows k i (omega (arith, length-list ts)) inside
    ∙ ap (λ b. if b then row_at (column_at ts k) i else null) (sym (is_present-record (is_valid_at v i) (fields_at ts ns i)))
pushed_field (structure ns ts v n) _ remove k i mine formed made here inside = absurd (cc (made.is_records))
pushed_field _ r remove k i mine formed made here inside = absurd (cc)
