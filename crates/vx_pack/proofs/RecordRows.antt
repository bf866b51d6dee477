-- Rows that are records: of columns beside each other, and of values.
use Rattle.std.proofs.Common.{◌≡◌, ◌≤◌, ℕ, List, length, map, sym, ◌∙◌, ap, subst, arith, Bool, true, Option}
use Rattle.vx_base.specs.declared.scalar_value.ScalarValue.{ScalarValue}
use Rattle.vx_base.specs.Kinds.{Kinds, records, or_nullable, Fits}
use Rattle.vx_base.specs.Rows.{Row, record_of, rows_from}
use Rattle.vx_base.specs.ValueRows.{RecordFits, fields_named, named, option_row, row_under, unnamed}
use Rattle.vx_tree.specs.Columns.{AllReach}
use Rattle.vx_tree.specs.Formed.{WellFormed, column_count}
use Rattle.vx_tree.specs.Meaning.{fields_at, is_valid_at, kind_of, kinds_of, nullable, row_at, tree_len, trees_from}
use Rattle.vx_tree.specs.Tree.{Tree, Valid, structure}
use Rattle.vx_tree.proofs.Columns.{AllReach-from_len}
use Rattle.vx_pack.proofs.Alike.{records_alike}
use Rattle.vx_pack.specs.Places.{IsPlace}
use Rattle.vx_pack.specs.declared.fields.Records.{Records}
use Rattle.vx_pack.specs.Records.{IsRecordIn}

-- records of these columns, read under the names and kinds that their kind has
pub record AreColumns (t : Tree) (ts : List Tree) (v : Valid) (names : List (List ℕ)) (ks : Kinds) : Type 0 where
  pub kinds : kinds_of (trees_from ts) ≡ ks
  pub named : length names ≡ column_count (trees_from ts)
  pub reach : (n : ℕ) → n ≤ tree_len t → AllReach n (trees_from ts)
  pub rows : (i : ℕ) → is_valid_at v i ≡ true → row_at t i ≡ record_of (fields_at (trees_from ts) names i)

pub are_columns : (t : Tree) (ns names : List (List ℕ)) (us ts : List Tree) (v : Valid) (m : ℕ) (ks : Kinds) (n : Bool) → t ≡ structure ns (trees_from us) v m → WellFormed (structure ns (trees_from us) v m)
    → ts ≡ us → kind_of t ≡ records names ks n → AreColumns t ts v names ks
are_columns t ns names us ts v m ks n same formed lent kind =
    let whole : records ns (kinds_of (trees_from us)) (nullable v) ≡ records names ks n = rw same at kind in
    let same_names : ns ≡ names = cc in
    let same_kinds : kinds_of (trees_from us) ≡ ks = cc in
    let len : tree_len t ≡ m = ap tree_len same in
    rw lent (record {
      kinds = same_kinds;
      named = ap length (sym same_names) ∙ formed.1.named;
      reach = λ b l. AllReach-from_len m b (trees_from us) formed.1.lens (omega (arith, len));
      rows = λ i valid. rw (same, valid) (ap (λ x. record_of (fields_at (trees_from us) x i)) same_names);
    })

-- a record is the same where it stands
pub record_at_place : (t u : Tree) (i j : ℕ) (names : List (List ℕ)) (ks : Kinds) (n : Bool) (o : Option Records) → IsPlace t i u j → kind_of t ≡ records names ks n
    → ((m : Bool) → kind_of u ≡ records names ks m → IsRecordIn names ks (row_at u j) o) → IsRecordIn names ks (row_at t i) o
record_at_place t u i j names ks n o place kind here =
    let alike = records_alike names ks n (kind_of u) (sym (ap (or_nullable true) kind) ∙ place.kind) in
    subst (λ r. IsRecordIn names ks r o) (sym place.row) (here alike.0 alike.1)

-- the record that values are
pub record_of_values : (names : List (List ℕ)) (ks : Kinds) (n : Bool) (v : Option ScalarValue) (r : Row) (vs : List (Option ScalarValue)) → Fits (records names ks n) r
    → row_under (records names ks n) v ≡ r → option_row v ≡ record_of (unnamed (rows_from (map option_row vs)))
    → RecordFits names ks vs × (r ≡ record_of (fields_named names ks (unnamed (rows_from (map option_row vs)))))
record_of_values names ks n v r vs fits under is =
    let whole : r ≡ record_of (fields_named names ks (unnamed (rows_from (map option_row vs)))) = sym under ∙ ap (named (records names ks n)) is in
    (subst (Fits (records names ks n)) whole fits, whole)
