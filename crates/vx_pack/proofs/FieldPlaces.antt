-- The fields of records, by their places.
use Rattle.std.proofs.Common.{◌≡◌, ◌<◌, ℕ, zero, suc, List, [], ◌∷◌, length, map, get_or, refl, sym, ◌∙◌, ap, arith, Option, None}
use Rattle.vx_base.specs.DTypes.{dtype_meaning, kinds_of as dtype_kinds}
use Rattle.vx_base.specs.declared.dtypes.DType.{DType}
use Rattle.vx_base.specs.declared.scalar_value.ScalarValue.{ScalarValue}
use Rattle.vx_base.specs.Kinds.{Kinds, no_kinds, kind, Fits, FieldsFit}
use Rattle.vx_base.specs.Rows.{Fields, no_fields, field, rows_from}
use Rattle.vx_base.specs.ValueRows.{RecordFits, fields_named, option_row, row_under, unnamed}
use Rattle.vx_tree.specs.Tree.{Tree, Trees, no_trees, tree}
use Rattle.vx_tree.specs.Formed.{column_count}
use Rattle.vx_tree.specs.Meaning.{fields_at, kind_of, kinds_of, row_at, trees_from}
use Rattle.vx_tree.specs.RowParts.{field_at}
use Rattle.vx_pack.specs.Records.{kind_at}

-- fields have these names, in order
abbrev pub HaveNames : List (List ℕ) → Fields → Type 0
HaveNames [] no_fields = Unit {0}
HaveNames (n ∷ ns) (field m r fs) = (n ≡ m) × HaveNames ns fs
HaveNames _ _ = ⊥

-- fields of the same names are the same where each is
pub fields_by_place : (ns : List (List ℕ)) (fs gs : Fields) → HaveNames ns fs → HaveNames ns gs → ((c : ℕ) → c < length ns → field_at c fs ≡ field_at c gs) → fs ≡ gs
fields_by_place [] no_fields no_fields h i each = refl
fields_by_place (n ∷ ns) (field m r fs) (field l s gs) h i each =
    let first : r ≡ s = each 0 (omega arith) in
    let rest : fs ≡ gs = fields_by_place ns fs gs h.1 i.1 (λ c below. each (suc c) (omega arith)) in
    let named : m ≡ l = sym h.0 ∙ i.0 in
    λ j. field (named j) (first j) (rest j)
fields_by_place [] no_fields (field l s gs) h i each = absurd i
fields_by_place [] (field m r fs) gs h i each = absurd h
fields_by_place (n ∷ ns) no_fields gs h i each = absurd h
fields_by_place (n ∷ ns) (field m r fs) no_fields h i each = absurd i

-- ---- of columns

pub columns_named : (ts : Trees) (ns : List (List ℕ)) (i : ℕ) → length ns ≡ column_count ts → HaveNames ns (fields_at ts ns i)
columns_named no_trees [] i e = tt
columns_named no_trees (n ∷ ns) i e = absurd (omega arith)
columns_named (tree t ts) [] i e = absurd (omega arith)
columns_named (tree t ts) (n ∷ ns) i e = (refl, columns_named ts ns i (omega arith))

pub field_of_columns : (ts : List Tree) (ns : List (List ℕ)) (c i : ℕ) (d : Tree) → length ns ≡ column_count (trees_from ts) → c < length ts → field_at c (fields_at (trees_from ts) ns i) ≡ row_at (get_or ts c d) i
field_of_columns [] ns c i d e l = absurd (omega arith)
field_of_columns (t ∷ ts) [] c i d e l = absurd (omega arith)
field_of_columns (t ∷ ts) (n ∷ ns) zero i d e l = refl
field_of_columns (t ∷ ts) (n ∷ ns) (suc c) i d e l = field_of_columns ts ns c i d (omega arith) (omega arith)

pub kind_of_column : (ts : List Tree) (c : ℕ) (d : Tree) → c < length ts → kind_of (get_or ts c d) ≡ kind_at c (kinds_of (trees_from ts))
kind_of_column [] c d l = absurd (omega arith)
kind_of_column (t ∷ ts) zero d l = refl
kind_of_column (t ∷ ts) (suc c) d l = kind_of_column ts c d (omega arith)

-- ---- of data types

pub kind_of_dtype : (ds : List DType) (c : ℕ) (d : DType) → c < length ds → kind_at c (dtype_kinds ds) ≡ dtype_meaning (get_or ds c d)
kind_of_dtype [] c d l = absurd (omega arith)
kind_of_dtype (e ∷ ds) zero d l = refl
kind_of_dtype (e ∷ ds) (suc c) d l = kind_of_dtype ds c d (omega arith)

-- ---- of values

pub fit_named : (ns : List (List ℕ)) (ks : Kinds) (fs : Fields) → FieldsFit ns ks fs → HaveNames ns fs
fit_named [] no_kinds no_fields h = tt
fit_named (n ∷ ns) (kind k ks) (field m r fs) h = (h.0, fit_named ns ks fs h.2)
fit_named [] no_kinds (field m r fs) h = absurd h
fit_named [] (kind k ks) fs h = absurd h
fit_named (n ∷ ns) no_kinds fs h = absurd h
fit_named (n ∷ ns) (kind k ks) no_fields h = absurd h

pub field_of_values : (ns : List (List ℕ)) (ks : Kinds) (vs : List (Option ScalarValue)) (c : ℕ) → RecordFits ns ks vs → c < length vs
    → (field_at c (fields_named ns ks (unnamed (rows_from (map option_row vs)))) ≡ row_under (kind_at c ks) (get_or vs c None)) × Fits (kind_at c ks) (row_under (kind_at c ks) (get_or vs c None))
field_of_values ns ks [] c h l = absurd (omega arith)
field_of_values [] no_kinds (v ∷ vs) c h l = absurd h
field_of_values [] (kind k ks) (v ∷ vs) c h l = absurd h
field_of_values (n ∷ ns) no_kinds (v ∷ vs) c h l = absurd h
field_of_values (n ∷ ns) (kind k ks) (v ∷ vs) zero h l = (refl, h.1)
field_of_values (n ∷ ns) (kind k ks) (v ∷ vs) (suc c) h l = field_of_values ns ks vs c h.2 (omega arith)

pub values_counted : (ns : List (List ℕ)) (ks : Kinds) (vs : List (Option ScalarValue)) → RecordFits ns ks vs → length vs ≡ length ns
values_counted [] no_kinds [] h = refl
values_counted [] no_kinds (v ∷ vs) h = absurd h
values_counted [] (kind k ks) [] h = absurd h
values_counted [] (kind k ks) (v ∷ vs) h = absurd h
values_counted (n ∷ ns) no_kinds [] h = absurd h
values_counted (n ∷ ns) no_kinds (v ∷ vs) h = absurd h
values_counted (n ∷ ns) (kind k ks) [] h = absurd h
values_counted (n ∷ ns) (kind k ks) (v ∷ vs) h = ap suc (values_counted ns ks vs h.2)
