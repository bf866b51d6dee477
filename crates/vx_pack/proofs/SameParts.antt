-- Parts that have the same rows.
use Rattle.std.proofs.Common.{◌≡◌, ◌↔◌, ◌+◌, ◌<◌, ◌≤◌, ℕ, List, length, refl, sym, ◌∙◌, ap, subst, arith, zero-add, IsTrue, Bool, true, false, not, Option, Some, None}
use Rattle.vx_base.specs.Kinds.{Kind, Kinds, records, Fits}
use Rattle.vx_base.specs.Rows.{Row, items, record_of, list_in}
use Rattle.vx_tree.specs.Meaning.{kind_of, row_at, rows, rows_range, tree_len, trees_from}
use Rattle.vx_tree.specs.Tree.{Tree}
use Rattle.vx_tree.proofs.RowLists.{rows_by_place}
use Rattle.vx_pack.proofs.Ranges.{same_items, are_same_items}
use Rattle.vx_pack.proofs.RowForms.{no_list, no_record}
use Rattle.vx_pack.specs.declared.parts.Part.{Part}
use Rattle.vx_pack.specs.declared.fields.Records.{Records}
use Rattle.vx_pack.specs.Lists.{IsListOf, is_lists}
use Rattle.vx_pack.specs.Parts.{AreAllOne, AreSame, AreSameBy, IsFirstOf, IsPart, IsPartOf, part_len, part_row}
use Rattle.vx_pack.specs.RowForms.{record_in}
use Rattle.std.specs.Prelude.{is_some}
use Rattle.std.proofs.Common.{get_or}
use Rattle.vx_base.specs.DTypes.{dtype_meaning, kinds_of as dtype_kinds}
use Rattle.vx_base.specs.declared.dtypes.DType.{DType}
use Rattle.vx_tree.specs.RowParts.{field_at}
use Rattle.vx_tree.proofs.Columns.{column_count-trees_from}
use Rattle.vx_pack.proofs.FieldPlaces.{HaveNames, columns_named, fields_by_place, fit_named, kind_of_dtype, values_counted}
use Rattle.vx_pack.specs.declared.fields.Records.TheVariants.{Columns, Values}
use Rattle.vx_pack.specs.Records.{AreRecordsIn, AreSameFields, HasKinds, IsField, IsRecordIn, IsRecordOf, field_count, kind_at, record_count, record_fields}

-- rows of a kind are the same where what is told of them is, and that tells them apart
pub same_leaves : {A : Type 0} (f : Row → A) (k : Kind) (p q : Part) (b : Bool) → ((r s : Row) → Fits k r → Fits k s → f r ≡ f s → r ≡ s) → IsPart k p → IsPart k q → part_len q ≡ part_len p
    → (IsTrue b ↔ AreSameBy f k p q) → IsTrue b ↔ AreSame k p q
same_leaves f k p q b apart first second len told =
    ((λ t i l. apart (part_row k p i) (part_row k q i) (first.fits i l) (second.fits i (omega (arith, len))) (told.0 t i l)), (λ same. told.1 (λ i l. ap f (same i l))))

-- of rows that are all one, the first ones tell
pub same_first : (k : Kind) (p q p1 q1 : Part) (b : Bool) → AreAllOne k p → AreAllOne k q → IsFirstOf p p1 → IsFirstOf q q1 → part_len q ≡ part_len p
    → (IsTrue b ↔ AreSame k p1 q1) → IsTrue b ↔ AreSame k p q
same_first k p q p1 q1 b one_p one_q first_p first_q len told = (
  (λ t i l.
      let there : 0 < part_len p = omega arith in
      let here : 0 < part_len p1 = omega (arith, first_p.len) in
      one_p i ∙ sym (first_p.row k there) ∙ told.0 t 0 here ∙ first_q.row k (omega (arith, len)) ∙ sym (one_q i)),
  (λ same. told.1 (λ i l.
      let there : 0 < part_len p = omega (arith, first_p.len) in
      let only : 0 ≡ i = omega (arith, first_p.len) in
      subst (λ j. part_row k p1 j ≡ part_row k q1 j) only (first_p.row k there ∙ same 0 there ∙ sym (first_q.row k (omega (arith, len)))))),
)

-- ---- lists

pub list_beside_none : (k item : Kind) (r s : Row) (p : Part) → IsListOf item r p → list_in s ≡ None → r ≡ s → ⊥
list_beside_none k item r s p list none same =
    let e : list_in s ≡ list_in (items (rows_range (part_row item p) 0 (part_len p))) = ap list_in (sym same ∙ list.rows) in
    cc

pub both_null_lists : (k : Kind) (r s : Row) → is_lists k ≡ true → Fits k r → Fits k s → list_in r ≡ None → list_in s ≡ None → r ≡ s
both_null_lists k r s l fr fs er es = no_list k r l fr er ∙ sym (no_list k s l fs es)

pub same_lists : (item : Kind) (r s : Row) (p q : Part) (b : Bool) → IsListOf item r p → IsListOf item s q → part_len q ≡ part_len p → (IsTrue b ↔ AreSame item p q) → IsTrue b ↔ (r ≡ s)
same_lists item r s p q b first second len told = (
  (λ t. are_same_items (part_row item p) (part_row item q) (part_len p) (part_len q) r s first.rows second.rows len (told.0 t)),
  (λ same. told.1 (same_items (part_row item p) (part_row item q) (part_len p) (part_len q) r s first.rows second.rows same).1),
)

pub lists_of_lengths : (item : Kind) (r s : Row) (p q : Part) → IsListOf item r p → IsListOf item s q → r ≡ s → part_len p ≡ part_len q
lists_of_lengths item r s p q first second same = (same_items (part_row item p) (part_row item q) (part_len p) (part_len q) r s first.rows second.rows same).0

-- ---- records

absent : (b : Bool) → false ≡ not b → b ≡ true
absent true e = refl
absent false e = cc

present : (b : Bool) → true ≡ not b → b ≡ false
present true e = cc
present false e = refl

pub null_beside_record : (names : List (List ℕ)) (ks : Kinds) (n : Bool) (r s : Row) (o : Option Records) (b : Bool) → Fits (records names ks n) r → Fits (records names ks n) s → record_in r ≡ None → IsRecordIn names ks s o
    → is_some o ≡ not b → IsTrue b ↔ (r ≡ s)
null_beside_record names ks n r s None b fr fs none other e =
    ((λ t. no_record names ks n r fr none ∙ sym (no_record names ks n s fs other)), (λ same. absent b e))
null_beside_record names ks n r s (Some rs) b fr fs none other e = (
  (λ t. let f = present b e in cc),
  (λ same.
      let there : record_in s ≡ Some (record_fields names ks rs 0) = ap record_in other.row in
      let here : record_in s ≡ None = ap record_in (sym same) ∙ none in
      cc),
)

pub same_all_records : (names : List (List ℕ)) (ks : Kinds) (n : Bool) (k : Kind) (p q : Part) (a b : Records) (t : Bool) → k ≡ records names ks n → AreRecordsIn names ks p a → AreRecordsIn names ks q b → part_len q ≡ part_len p
    → (IsTrue t ↔ AreSameFields names ks a b) → IsTrue t ↔ AreSame k p q
same_all_records names ks n k p q a b t kind first second len told = rw kind (
  (λ yes i l. first.rows n i l ∙ ap record_of (told.0 yes i (omega (arith, first.count))) ∙ sym (second.rows n i (omega (arith, len)))),
  (λ same. told.1 (λ i l.
      let below : i < part_len p = omega (arith, first.count) in
      let whole : record_of (record_fields names ks a i) ≡ record_of (record_fields names ks b i) = sym (first.rows n i below) ∙ same i below ∙ second.rows n i (omega (arith, len)) in
      cc)),
)

pub same_one_record : (names : List (List ℕ)) (ks : Kinds) (r s : Row) (a b : Records) (t : Bool) → IsRecordOf names ks r a → IsRecordOf names ks s b → (IsTrue t ↔ AreSameFields names ks a b) → IsTrue t ↔ (r ≡ s)
same_one_record names ks r s a b t first second told = (
  (λ yes. first.row ∙ ap record_of (told.0 yes 0 (omega (arith, first.one))) ∙ sym second.row),
  (λ same. told.1 (λ i l.
      let whole : record_of (record_fields names ks a 0) ≡ record_of (record_fields names ks b 0) = sym first.row ∙ same ∙ second.row in
      let fields : record_fields names ks a 0 ≡ record_fields names ks b 0 = cc in
      let only : 0 ≡ i = omega (arith, first.one) in
      subst (λ j. record_fields names ks a j ≡ record_fields names ks b j) only fields)),
)

-- ---- fields

pub fields_counted : (names : List (List ℕ)) (ks : Kinds) (rs : Records) → HasKinds names ks rs → field_count rs ≡ length names
fields_counted names ks (Columns ts start n) h = sym (h.1 ∙ column_count-trees_from ts.now)
fields_counted names ks (Values vs) h = values_counted names ks vs.now h

fields_named_in : (names : List (List ℕ)) (ks : Kinds) (rs : Records) (i : ℕ) → HasKinds names ks rs → HaveNames names (record_fields names ks rs i)
fields_named_in names ks (Columns ts start n) i h = columns_named (trees_from ts.now) names (start + i) h.1
fields_named_in names ks (Values vs) i h = fit_named names ks (record_fields names ks (Values vs) i) h

pub dtype_at : (ds : List DType) (ks : Kinds) (place : ℕ) (d : DType) → dtype_kinds ds ≡ ks → place < length ds → d ≡ get_or ds place d → kind_at place ks ≡ dtype_meaning d
dtype_at ds ks place d kinds inside at = ap (kind_at place) (sym kinds) ∙ kind_of_dtype ds place d inside ∙ ap dtype_meaning (sym at)

pub same_field : (names : List (List ℕ)) (ks : Kinds) (a b : Records) (place : ℕ) (p q : Part) (k : Kind) → kind_at place ks ≡ k → IsField names ks a place p → IsField names ks b place q → record_count b ≡ record_count a
    → AreSame k p q ↔ ((i : ℕ) → i < record_count a → field_at place (record_fields names ks a i) ≡ field_at place (record_fields names ks b i))
same_field names ks a b place p q k kind first second len = rw (← kind) (
  (λ same i l. sym (first.rows i l) ∙ same i (omega (arith, first.len)) ∙ second.rows i (omega (arith, len))),
  (λ each i l.
      let below : i < record_count a = omega (arith, first.len) in
      first.rows i below ∙ each i below ∙ sym (second.rows i (omega (arith, len)))),
)

pub same_fields_by_place : (names : List (List ℕ)) (ks : Kinds) (a b : Records) (n : ℕ) → HasKinds names ks a → HasKinds names ks b → length names ≤ n
    → ((c : ℕ) → c < n → (i : ℕ) → i < record_count a → field_at c (record_fields names ks a i) ≡ field_at c (record_fields names ks b i)) → AreSameFields names ks a b
same_fields_by_place names ks a b n first second all each i l =
    fields_by_place names (record_fields names ks a i) (record_fields names ks b i) (fields_named_in names ks a i first) (fields_named_in names ks b i second) (λ c below. each c (omega arith) i l)

-- ---- arrays

pub same_arrays : (t u : Tree) (k : Kind) (p q : Part) (b : Bool) → tree_len u ≡ tree_len t → kind_of t ≡ kind_of u → IsPartOf t 0 (tree_len t) p → IsPartOf u 0 (tree_len t) q → (IsTrue b ↔ AreSame k p q)
    → IsTrue b ↔ ((kind_of t ≡ kind_of u) × (rows t ≡ rows u))
same_arrays t u k p q b len kind first second told = (
  (λ yes. (
    kind,
    (rows_by_place t u).1 (
      sym len,
      λ i l.
          ap (row_at t) (sym (zero-add i)) ∙ sym (first.rows k i) ∙ told.0 yes i (omega (arith, first.len)) ∙ second.rows k i ∙ ap (row_at u) (zero-add i),
    ),
  )),
  (λ same. told.1 (λ i l.
      let each = ((rows_by_place t u).0 same.1).1 in
      first.rows k i ∙ ap (row_at t) (zero-add i) ∙ each i (omega (arith, first.len)) ∙ sym (ap (row_at u) (zero-add i)) ∙ sym (second.rows k i))),
)
