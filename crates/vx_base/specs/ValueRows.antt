-- The rows that values stand for.
use Rattle.std.specs.Prelude.{List, map, [], ◌∷◌, ℕ, Option, Some, None}
use Rattle.vx_base.specs.declared.scalar_value.ScalarValue.{ScalarValue}
use Rattle.vx_base.specs.declared.scalar_value.ScalarValue.TheVariants as value
use Rattle.vx_base.specs.Rows.{Row, null, boolean, whole, bytes, text, items, record_of, Rows, no_rows, row, Fields, no_fields, field}
use Rattle.vx_base.specs.Rows.{rows_from}
use Rattle.vx_base.specs.Kinds.{Kind, lists, fixed_lists, records, Kinds, kind, AllFit, FieldsFit}

-- rows as the fields of a record that has no names yet
abbrev pub unnamed : Rows → Fields
unnamed no_rows = no_fields
unnamed (row r rs) = field [] r (unnamed rs)

-- the row that a value is
abbrev pub value_row : ScalarValue → Row
value_row (value.Bool b) = boolean b
value_row (value.Int z) = whole z
value_row (value.Bytes bs) = bytes bs
value_row (value.Text bs) = text bs
value_row (value.List rs) = items rs
value_row (value.Record rs) = record_of (unnamed rs)

abbrev pub option_row : Option ScalarValue → Row
option_row None = null
option_row (Some v) = value_row v

-- the row whose records have the names that a kind gives their fields, one after another
abbrev mutual
  pub named : Kind → Row → Row
  named (lists k n) (items rs) = items (all_named k rs)
  named (fixed_lists k size n) (items rs) = items (all_named k rs)
  named (records names ks n) (record_of fs) = record_of (fields_named names ks fs)
  named _ r = r

  pub all_named : Kind → Rows → Rows
  all_named k no_rows = no_rows
  all_named k (row r rs) = row (named k r) (all_named k rs)

  pub fields_named : List (List ℕ) → Kinds → Fields → Fields
  fields_named (n ∷ ns) (kind k ks) (field m r fs) = field n (named k r) (fields_named ns ks fs)
  fields_named _ _ fs = fs

-- the row that a value, or none for null, stands for under a kind
abbrev pub row_under : Kind → Option ScalarValue → Row
row_under k v = named k (option_row v)

-- the rows that values stand for fit a kind, each of them
abbrev pub ValuesFit : Kind → List (Option ScalarValue) → Type 0
ValuesFit k vs = AllFit k (all_named k (rows_from (map option_row vs)))

-- values fit the fields of a record, in order
abbrev pub RecordFits : List (List ℕ) → Kinds → List (Option ScalarValue) → Type 0
RecordFits names ks vs = FieldsFit names ks (fields_named names ks (unnamed (rows_from (map option_row vs))))
