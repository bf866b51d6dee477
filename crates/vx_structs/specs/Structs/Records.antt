-- What choosing, adding and removing fields make of rows of records, and of their kinds. A row that is null stays null.
use Rattle.std.specs.Prelude.{ℕ, Bool, true, false, List, [], ◌∷◌, ◌++◌, map, bytes_eq, if◌then◌else◌, Option, Some}
use Rattle.std.specs.List.{remove}
use Rattle.vx_base.specs.Fields.{place_of_name, kinds_without}
use Rattle.vx_base.specs.Kinds.{Kind, booleans, records, Kinds, no_kinds, kind, kinds_from, or_nullable}
use Rattle.vx_base.specs.Rows.{Row, null, record_of, Fields, no_fields, field}

-- ---- fields

-- the row of the first field of a name, null where there is none
abbrev pub field_named : List ℕ → Fields → Row
field_named name no_fields = null
field_named name (field n r fs) = if bytes_eq n name then r else field_named name fs

-- the first field of each of these names
abbrev pub fields_named : List (List ℕ) → Fields → Fields
fields_named [] fs = no_fields
fields_named (name ∷ names) fs = field name (field_named name fs) (fields_named names fs)

-- one field more, the last
abbrev pub with_field : List ℕ → Row → Fields → Fields
with_field name r no_fields = field name r no_fields
with_field name r (field n q fs) = field n q (with_field name r fs)

-- without the first field of a name
abbrev pub without_field : List ℕ → Fields → Fields
without_field name no_fields = no_fields
without_field name (field n r fs) = if bytes_eq n name then fs else field n r (without_field name fs)

-- a field of each of these names, all of them null
abbrev pub null_fields : List (List ℕ) → Fields
null_fields [] = no_fields
null_fields (name ∷ names) = field name null (null_fields names)

-- ---- rows

-- other fields of a record; another row stays
abbrev pub on_fields : (Fields → Fields) → Row → Row
on_fields change (record_of fs) = record_of (change fs)
on_fields change r = r

-- records of the first field of each of these names
abbrev pub projected : List (List ℕ) → List Row → List Row
projected names rs = map (on_fields (fields_named names)) rs

-- the first field of a name of a record, null of another row
abbrev pub field_of : List ℕ → Row → Row
field_of name (record_of fs) = field_named name fs
field_of name _ = null

-- the first field of a name of each record
abbrev pub field_rows : List ℕ → List Row → List Row
field_rows name rs = map (field_of name) rs

-- records with one field more, whose rows stand in a column
abbrev pub with_column : List ℕ → List Row → List Row → List Row
with_column name [] rs = []
with_column name (c ∷ cs) [] = []
with_column name (c ∷ cs) (r ∷ rs) = on_fields (with_field name c) r ∷ with_column name cs rs

-- records without the first field of a name
abbrev pub without_column : List ℕ → List Row → List Row
without_column name rs = map (on_fields (without_field name)) rs

-- a record of nulls in the place of a null row
abbrev pub or_nulls : List (List ℕ) → Row → Row
or_nulls names null = record_of (null_fields names)
or_nulls names r = r

-- the same rows; or, where no row may be null, a record of nulls in the place of each null row
abbrev pub pushed : List (List ℕ) → Bool → List Row → List Row
pushed names remove rs = if remove then map (or_nulls names) rs else rs

-- ---- kinds

-- the kind of the first field of a name
abbrev pub kind_named : List ℕ → List (List ℕ) → Kinds → Kind
kind_named name (n ∷ ns) (kind k ks) = if bytes_eq n name then k else kind_named name ns ks
kind_named name _ _ = booleans false

-- the kind of the first field of a name, under which null may stand, unless no record can be null; another kind stays
abbrev pub field_kind : Bool → List ℕ → Kind → Kind
field_kind full name (records ns ks n) = if full then kind_named name ns ks else or_nullable true (kind_named name ns ks)
field_kind full name k = k

-- the kinds of the first field of each of these names
abbrev pub kinds_named : List (List ℕ) → List (List ℕ) → Kinds → Kinds
kinds_named names ns ks = kinds_from (map (λ name. kind_named name ns ks) names)

abbrev pub projected_kind : List (List ℕ) → Kind → Kind
projected_kind names (records ns ks n) = records names (kinds_named names ns ks) n
projected_kind names k = k

-- one kind more, the last
abbrev pub kinds_and : Kinds → Kind → Kinds
kinds_and no_kinds last = kind last no_kinds
kinds_and (kind k ks) last = kind k (kinds_and ks last)

abbrev pub kind_with_column : List ℕ → Kind → Kind → Kind
kind_with_column name column (records ns ks n) = records (ns ++ name ∷ []) (kinds_and ks column) n
kind_with_column name column k = k

-- without the field at a place, where there is one
abbrev pub kind_without : Option ℕ → Kind → Kind
kind_without (Some i) (records ns ks n) = records (remove ns i) (kinds_without i ks) n
kind_without _ k = k

-- the names of the fields of a kind of records
abbrev pub names_in : Kind → List (List ℕ)
names_in (records ns ks n) = ns
names_in _ = []

abbrev pub kind_without_column : List ℕ → Kind → Kind
kind_without_column name k = kind_without (place_of_name (names_in k) name) k

-- the same kinds, under which null may stand
abbrev pub nullable_kinds : Kinds → Kinds
nullable_kinds no_kinds = no_kinds
nullable_kinds (kind k ks) = kind (or_nullable true k) (nullable_kinds ks)

-- null may stand in each field, unless no record can be null; with the remove, no record may be null
abbrev pub pushed_kind : Bool → Bool → Kind → Kind
pushed_kind full remove (records ns ks n) = records ns (if full then ks else nullable_kinds ks) (if remove then false else n)
pushed_kind full remove k = k
