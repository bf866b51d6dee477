-- Parts of arrays and of values: lists and fields.
use Rattle.std.proofs.Common.{◌≡◌, ◌+◌, ◌*◌, ◌<◌, ◌≤◌, ℕ, List, [], ◌∷◌, length, map, get_or, refl, sym, ◌∙◌, ap, subst, arith, zero-add, Bool, true, Option, None}
use Rattle.vx_base.specs.declared.scalar_value.ScalarValue.{ScalarValue}
use Rattle.vx_base.specs.Kinds.{Kind, Kinds, lists, fixed_lists, AllFit, Fits}
use Rattle.vx_base.specs.Rows.{Row, items, rows_from}
use Rattle.vx_base.specs.ValueRows.{RecordFits, all_named, named, option_row, row_under, unnamed, fields_named}
use Rattle.vx_tree.specs.Columns.{AllReach}
use Rattle.vx_tree.specs.Formed.{column_count}
use Rattle.vx_tree.specs.Meaning.{fields_at, is_valid_at, kind_of, kinds_of, row_at, rows_range, tree_len, trees_from}
use Rattle.vx_base.specs.Rows.{count_in}
use Rattle.vx_tree.specs.RowParts.{field_at}
use Rattle.vx_tree.specs.Tree.{Tree, Valid, fixed_list, list_view}
use Rattle.std.proofs.lemmas.List.{get_or_default}
use Rattle.vx_tree.proofs.Columns.{AllReach-at}
use Rattle.vx_tree.proofs.FixedLists.{rows_range-same}
use Rattle.vx_pack.proofs.Alike.{item_alike}
use Rattle.vx_pack.proofs.FieldPlaces.{field_of_columns, field_of_values, kind_of_column}
use Rattle.vx_pack.proofs.ValueLists.{each_fits, values_range}
use Rattle.vx_pack.specs.declared.parts.Part.{Part}
use Rattle.vx_pack.specs.Lists.{IsItemOf, IsListIn, IsListOf}
use Rattle.vx_pack.specs.Parts.{AreValuesOf, IsPart, IsPartOf, part_len, part_row}
use Rattle.vx_pack.specs.Places.{IsPlace}
use Rattle.vx_pack.specs.Records.{kind_at}

-- ---- lists

-- the rows of a part of an array, as rows of a list
part_range : (e : Tree) (start n : ℕ) (p : Part) (k : Kind) → IsPartOf e start n p → rows_range (row_at e) start n ≡ rows_range (part_row k p) 0 (part_len p)
part_range e start n p k h =
    rows_range-same (row_at e) (part_row k p) start 0 n (λ j l. ap (row_at e) (ap (λ x. start + x) (sym (zero-add j))) ∙ sym (h.rows k (0 + j)))
    ∙ ap (rows_range (part_row k p) 0) (sym h.len)

pub list_of_sizes : (t e : Tree) (k : ℕ) (v : Valid) (n i : ℕ) (item : Kind) (p : Part) → t ≡ fixed_list e k v n → is_valid_at v i ≡ true → IsPartOf e (i * k) k p → IsItemOf item (kind_of t)
    → IsListOf item (row_at t i) p
list_of_sizes t e k v n i item p same valid h of_item =
    let kind : kind_of e ≡ item = rw same at of_item in
    let here : row_at t i ≡ items (rows_range (row_at e) (i * k) k) = rw (same, valid) refl in
    record {
      rows = here ∙ ap items (part_range e (i * k) k p item h);
      part = subst (λ x. IsPart x p) kind h.part;
    }

pub list_of_views : (t e o s : Tree) (v : Valid) (f : Bool) (i start n : ℕ) (item : Kind) (p : Part) → t ≡ list_view e o s v f → is_valid_at v i ≡ true
    → start ≡ count_in (row_at o i) → n ≡ count_in (row_at s i) → IsPartOf e start n p → IsItemOf item (kind_of t) → IsListOf item (row_at t i) p
list_of_views t e o s v f i start n item p same valid at_start at_size h of_item =
    let kind : kind_of e ≡ item = rw same at of_item in
    let here : row_at t i ≡ items (rows_range (row_at e) start n) = rw (same, valid, at_start, at_size) refl in
    record {
      rows = here ∙ ap items (part_range e start n p item h);
      part = subst (λ x. IsPart x p) kind h.part;
    }

-- a list is the same where it stands
pub list_at_place : (t u : Tree) (i j : ℕ) (item : Kind) (o : Option Part) → IsPlace t i u j → IsItemOf item (kind_of t) → (IsItemOf item (kind_of u) → IsListIn item (row_at u j) o) → IsListIn item (row_at t i) o
list_at_place t u i j item o place of_item list = subst (λ r. IsListIn item r o) (sym place.row) (list (item_alike item (kind_of t) (kind_of u) place.kind of_item))

-- the list that values are
list_of_rows : (item k : Kind) (vs : List (Option ScalarValue)) (p : Part) → IsItemOf item k → Fits k (named k (items (rows_from (map option_row vs)))) → AreValuesOf vs p
    → IsListOf item (named k (items (rows_from (map option_row vs)))) p
list_of_rows item (lists k n) vs p of_item fits h = subst (λ x. IsListOf x (items (all_named k (rows_from (map option_row vs)))) p) of_item (list_of_all k vs p fits h)
  where
    list_of_all : (k : Kind) (vs : List (Option ScalarValue)) (p : Part) → AllFit k (all_named k (rows_from (map option_row vs))) → AreValuesOf vs p → IsListOf k (items (all_named k (rows_from (map option_row vs)))) p
    list_of_all k vs p fits h =
        let same : rows_range (λ i. row_under k (get_or vs i None)) 0 (length vs) ≡ rows_range (part_row k p) 0 (length vs)
        = rows_range-same (λ i. row_under k (get_or vs i None)) (part_row k p) 0 0 (length vs) (λ j l. sym (h.rows k (0 + j))) in
        record {
          rows = ap items (values_range k vs ∙ same ∙ ap (rows_range (part_row k p) 0) (sym h.len));
          part = record { within = h.within; kind = h.kind k; fits = λ i l. subst (Fits k) (sym (h.rows k i)) (each_fits k vs i fits (rw h.len at l)) };
        }
list_of_rows item (fixed_lists k size n) vs p of_item fits h = subst (λ x. IsListOf x (items (all_named k (rows_from (map option_row vs)))) p) of_item (list_of_all k vs p fits.1 h)
  where
    list_of_all : (k : Kind) (vs : List (Option ScalarValue)) (p : Part) → AllFit k (all_named k (rows_from (map option_row vs))) → AreValuesOf vs p → IsListOf k (items (all_named k (rows_from (map option_row vs)))) p
    list_of_all k vs p fits h =
        let same : rows_range (λ i. row_under k (get_or vs i None)) 0 (length vs) ≡ rows_range (part_row k p) 0 (length vs)
        = rows_range-same (λ i. row_under k (get_or vs i None)) (part_row k p) 0 0 (length vs) (λ j l. sym (h.rows k (0 + j))) in
        record {
          rows = ap items (values_range k vs ∙ same ∙ ap (rows_range (part_row k p) 0) (sym h.len));
          part = record { within = h.within; kind = h.kind k; fits = λ i l. subst (Fits k) (sym (h.rows k i)) (each_fits k vs i fits (rw h.len at l)) };
        }
list_of_rows item _ vs p of_item fits h = absurd of_item

pub list_of_values : (item k : Kind) (v : Option ScalarValue) (r : Row) (vs : List (Option ScalarValue)) (p : Part) → IsItemOf item k → Fits k r → row_under k v ≡ r → option_row v ≡ items (rows_from (map option_row vs))
    → AreValuesOf vs p → IsListOf item r p
list_of_values item k v r vs p of_item fits under is h =
    let whole : named k (items (rows_from (map option_row vs))) ≡ r = ap (named k) (sym is) ∙ under in
    subst (λ x. IsListOf item x p) whole (list_of_rows item k vs p of_item (subst (Fits k) (sym whole) fits) h)

-- ---- fields

pub reach_at : (n : ℕ) (ts : List Tree) (i : ℕ) (t : Tree) → AllReach n (trees_from ts) → i < length ts → t ≡ get_or ts i t → n ≤ tree_len t
reach_at n ts i t reach inside at = let P : Tree → Type 0 = λ x. n ≤ tree_len x in subst P (sym at) (AllReach-at n ts i t reach inside)

-- so many rows of a field
pub record FieldRows (k : Kind) (p : Part) (n : ℕ) (f : ℕ → Row) : Type 0 where
  pub part : IsPart k p
  pub len : part_len p ≡ n
  pub rows : (i : ℕ) → i < n → part_row k p i ≡ f i

pub field_of_column : (names : List (List ℕ)) (ks : Kinds) (ts : List Tree) (start n place : ℕ) (t : Tree) (p : Part) → kinds_of (trees_from ts) ≡ ks → length names ≡ column_count (trees_from ts)
    → place < length ts → t ≡ get_or ts place t → IsPartOf t start n p → FieldRows (kind_at place ks) p n (λ i. field_at place (fields_at (trees_from ts) names (start + i)))
field_of_column names ks ts start n place t p kinds named inside at h =
    let kind : kind_of t ≡ kind_at place ks = ap kind_of at ∙ kind_of_column ts place t inside ∙ ap (kind_at place) kinds in
    record {
      part = subst (λ k. IsPart k p) kind h.part;
      len = h.len;
      rows = λ i l. h.rows (kind_at place ks) i ∙ ap (λ x. row_at x (start + i)) at ∙ sym (field_of_columns ts names place (start + i) t named inside);
    }

pub field_of_record : (names : List (List ℕ)) (ks : Kinds) (vs ws : List (Option ScalarValue)) (v : Option ScalarValue) (place : ℕ) (p : Part) → RecordFits names ks vs → place < length vs
    → v ≡ get_or vs place v → ws ≡ v ∷ [] → AreValuesOf ws p → FieldRows (kind_at place ks) p 1 (λ i. field_at place (fields_named names ks (unnamed (rows_from (map option_row vs)))))
field_of_record names ks vs ws v place p fit inside at one h =
    let k = kind_at place ks in
    let found = field_of_values names ks vs place fit inside in
    let here : v ≡ get_or vs place None = at ∙ get_or_default vs place v None inside in
    let first : part_row k p 0 ≡ row_under k (get_or vs place None) = h.rows k 0 ∙ ap (λ xs. row_under k (get_or xs 0 None)) one ∙ ap (row_under k) here in
    let len : part_len p ≡ 1 = h.len ∙ ap length one in
    record {
      part = record { within = h.within; kind = h.kind k; fits = λ i l. only i (omega (arith, len)) (λ j. Fits k (part_row k p j)) (subst (Fits k) (sym first) found.1) };
      len = len;
      rows = λ i l. only i l (λ j. part_row k p j ≡ field_at place (fields_named names ks (unnamed (rows_from (map option_row vs))))) (first ∙ sym found.0);
    }
  where
    only : (i : ℕ) → i < 1 → (P : ℕ → Type 0) → P 0 → P i
    only i l P h = let zero_is : 0 ≡ i = omega arith in subst P zero_is h
