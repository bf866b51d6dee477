-- Records, by their fields.
use Rattle.std.specs.Prelude.{◌≡◌, ◌<◌, ◌+◌, ℕ, zero, suc, Bool, false, List, Option, Some, None, length, map}
use Rattle.vx_base.specs.Kinds.{Kind, booleans, records, Kinds, no_kinds, kind}
use Rattle.vx_base.specs.Rows.{Row, record_of, Fields, rows_from}
use Rattle.vx_base.specs.ValueRows.{RecordFits, fields_named, option_row, unnamed}
use Rattle.vx_tree.specs.Columns.{AllReach}
use Rattle.vx_tree.specs.Formed.{column_count}
use Rattle.vx_tree.specs.Meaning.{fields_at, kinds_of, trees_from}
use Rattle.vx_tree.specs.RowParts.{field_at}
use Rattle.vx_pack.specs.Parts.{IsPart, part_len, part_row}
use Rattle.vx_pack.specs.RowForms.{record_in}
use Rattle.vx_pack.specs.declared.fields.Records.{Records}
use Rattle.vx_pack.specs.declared.fields.Records.TheVariants as records_of
use Rattle.vx_pack.specs.declared.parts.Part.{Part}

-- how many fields each record has
abbrev pub field_count : Records → ℕ
field_count (records_of.Columns ts start n) = length ts.now
field_count (records_of.Values vs) = length vs.now

-- how many records there are
abbrev pub record_count : Records → ℕ
record_count (records_of.Columns ts start n) = n
record_count (records_of.Values vs) = 1

-- the fields of record i
abbrev pub record_fields : List (List ℕ) → Kinds → Records → ℕ → Fields
record_fields names ks (records_of.Columns ts start n) i = fields_at (trees_from ts.now) names (start + i)
record_fields names ks (records_of.Values vs) i = fields_named names ks (unnamed (rows_from (map option_row vs.now)))

-- the columns reach so far
abbrev pub HasReach : Records → Type 0
HasReach (records_of.Columns ts start n) = AllReach (start + n) (trees_from ts.now)
HasReach (records_of.Values vs) = Unit {0}

-- the columns have these kinds
abbrev pub HasKinds : List (List ℕ) → Kinds → Records → Type 0
HasKinds names ks (records_of.Columns ts start n) = (kinds_of (trees_from ts.now) ≡ ks) × (length names ≡ column_count (trees_from ts.now))
HasKinds names ks (records_of.Values vs) = RecordFits names ks vs.now

-- records whose fields have these names and kinds
pub record AreRecords (names : List (List ℕ)) (ks : Kinds) (rs : Records) : Type 0 where
  pub reach : HasReach rs
  pub kinds : HasKinds names ks rs

-- the kind at a place
abbrev pub kind_at : ℕ → Kinds → Kind
kind_at i no_kinds = booleans false
kind_at zero (kind k ks) = k
kind_at (suc i) (kind k ks) = kind_at i ks

-- the field at a place, of each record
pub record IsField (names : List (List ℕ)) (ks : Kinds) (rs : Records) (place : ℕ) (p : Part) : Type 0 where
  pub part : IsPart (kind_at place ks) p
  pub len : part_len p ≡ record_count rs
  pub rows : (i : ℕ) → i < record_count rs → part_row (kind_at place ks) p i ≡ field_at place (record_fields names ks rs i)

-- a row is the one record
pub record IsRecordOf (names : List (List ℕ)) (ks : Kinds) (r : Row) (rs : Records) : Type 0 where
  pub formed : AreRecords names ks rs
  pub one : record_count rs ≡ 1
  pub row : r ≡ record_of (record_fields names ks rs 0)

-- the record that a row is, where it is one
abbrev pub IsRecordIn : List (List ℕ) → Kinds → Row → Option Records → Type 0
IsRecordIn names ks r None = record_in r ≡ None
IsRecordIn names ks r (Some rs) = IsRecordOf names ks r rs

-- all rows are records, one by one
pub record AreRecordsIn (names : List (List ℕ)) (ks : Kinds) (p : Part) (rs : Records) : Type 0 where
  pub formed : AreRecords names ks rs
  pub count : record_count rs ≡ part_len p
  pub rows : (n : Bool) (i : ℕ) → i < part_len p → part_row (records names ks n) p i ≡ record_of (record_fields names ks rs i)

-- the same fields, record by record
abbrev pub AreSameFields : List (List ℕ) → Kinds → Records → Records → Type 0
AreSameFields names ks a b = (i : ℕ) → i < record_count a → record_fields names ks a i ≡ record_fields names ks b i
