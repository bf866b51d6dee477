-- Values that are lists or records, in plain layout.
use Rattle.std.proofs.Common.{ℕ, zero, suc, ◌+◌, ◌*◌, ◌-◌, ◌<◌, ◌≤◌, ◌≡◌, Bool, true, false, List, [], ◌∷◌, ◌++◌, length, map, take, drop, replicate, get_or, Option, Some, None, refl, sym, ◌∙◌, ap, subst, zero-add, arith}
use Rattle.std.specs.Prelude.{slice_index, slice_index_or}
use Rattle.std.specs.List.{All, flat_map, range_with_len}
use Rattle.std.proofs.lemmas.Grind.{flat_map-append}
use Rattle.std.proofs.lemmas.List.Elements.{All-nil, All-append}
use Rattle.std.proofs.lemmas.List.{length-map, length-take-le, get_or_past, get_or-map, length-append, append-nil, take_more, take_all, map-append, length-replicate}
use Rattle.std.proofs.lemmas.List.FromFn.{map-range_with_len_more, get_or-map-range_with_len, length-map-range_with_len}
use Rattle.std.proofs.lemmas.List.Concat.{get_or-flat_map}
use Rattle.std.proofs.lemmas.List.Folds.{length-flat_map-take}
use Rattle.vx_base.specs.declared.scalar_value.ScalarValue.{ScalarValue}
use Rattle.vx_base.specs.declared.scalar_value.ScalarValue.TheVariants as value
use Rattle.vx_base.specs.declared.dtypes.DType.{DType}
use Rattle.vx_base.proofs.Defaults.{take_push}
use Rattle.vx_base.proofs.StructKinds.{from_place}
use Rattle.vx_base.specs.DTypes.{dtype_meaning, kinds_of as dtype_kinds}
use Rattle.vx_base.specs.Kinds.{Kind, Kinds, no_kinds, lists, fixed_lists, records, kind, Fits, AllFit, FieldsFit, is_nullable_kind, row_count}
use Rattle.vx_base.specs.Refusals.{Refusal, or_else}
use Rattle.vx_base.specs.Rows.{Row, null, boolean, whole, bytes, text, items, record_of, Rows, no_rows, row, Fields, no_fields, field, count_in, list_from, rows_from}
use Rattle.vx_base.specs.ValueRows.{value_row, option_row, named, all_named, fields_named, row_under, unnamed}
use Rattle.vx_tree.specs.Tree.{Tree, list_view, fixed_list, structure, Valid}
use Rattle.vx_tree.specs.Meaning.{tree_len, kinds_of, row_at, fields_at, rows_range, trees_from, is_texts}
use Rattle.vx_tree.specs.Formed.{ValidFits, WellFormed, AllLen, IsStruct, column_count, value_kind}
use Rattle.vx_tree.specs.Plain.{ArePlain}
use Rattle.vx_canonical.specs.Joined.{IsCountsOf}
use Rattle.vx_tree.specs.RowParts.{field_at, field_in, items_in, items_or_nulls}
use Rattle.vx_tree.specs.Extents.{extents_of, rows_extent, fields_extents, extent, list_extent, fixed_list_extent, struct_extent}
use Rattle.vx_canonical.specs.PlainValues.{ArePlainValues, ArePlainRows, ArePlainFields, AreSpread, FieldsFitNamed, FitsNamed, FitsIfThere, list_places, list_sizes, values_valid, long_values}
use Rattle.vx_tree.specs.CanonicalFaults.{fields_fault, rows_fault, buffers_overflow}
use Rattle.vx_canonical.proofs.JoinedListViews.{counts_of-are}
use Rattle.vx_canonical.proofs.RowNames.{from_field}
use Rattle.vx_canonical.proofs.PlainTexts.{long_rows}
use Rattle.vx_canonical.proofs.PlainValues.{values_valid-nullable, values_valid-plain, values_valid-fits, row_of_value}

-- ---- the parts of a value

pub list_of_rows : (xs : List Row) → list_from (rows_from xs) ≡ xs
list_of_rows [] = refl
list_of_rows (x ∷ xs) = ap (λ ys. x ∷ ys) (list_of_rows xs)

pub items_of_value : (v : Option ScalarValue) (rs : Rows) (ws : List (Option ScalarValue)) → v ≡ Some (value.List rs) → rows_from (map option_row ws) ≡ rs → map option_row ws ≡ items_in (option_row v)
items_of_value v rs ws e same = sym (ap (λ x. items_in (option_row x)) e ∙ ap list_from (sym same) ∙ list_of_rows (map option_row ws))

pub items_or_nulls_of_value : (size : ℕ) (v : Option ScalarValue) (rs : Rows) (ws : List (Option ScalarValue)) → v ≡ Some (value.List rs) → rows_from (map option_row ws) ≡ rs → map option_row ws ≡ items_or_nulls size (option_row v)
items_or_nulls_of_value size v rs ws e same = sym (ap (λ x. items_or_nulls size (option_row x)) e ∙ ap list_from (sym same) ∙ list_of_rows (map option_row ws))

field_of_rows : (c : ℕ) (xs : List Row) → field_at c (unnamed (rows_from xs)) ≡ get_or xs c null
field_of_rows c [] = refl
field_of_rows zero (x ∷ xs) = refl
field_of_rows (suc c) (x ∷ xs) = field_of_rows c xs

pub field_of_value : (c : ℕ) (v : Option ScalarValue) (rs : Rows) (ws : List (Option ScalarValue)) → v ≡ Some (value.Record rs) → rows_from (map option_row ws) ≡ rs → field_in c (option_row v) ≡ get_or (map option_row ws) c null
field_of_value c v rs ws e same = ap (λ x. field_in c (option_row x)) e ∙ ap (λ x. field_at c (unnamed x)) (sym same) ∙ field_of_rows c (map option_row ws)

-- where it is there, and where it is not
pub field_there : (c : ℕ) (v : Option ScalarValue) (rs : Rows) (ws : List (Option ScalarValue)) (w : Option ScalarValue) → v ≡ Some (value.Record rs) → rows_from (map option_row ws) ≡ rs → c < length ws → w ≡ get_or ws c w
    → option_row w ≡ field_in c (option_row v)
field_there c v rs ws w e same inside here = ap option_row here ∙ sym (get_or-map option_row ws c w null inside) ∙ sym (field_of_value c v rs ws e same)

pub field_absent : (c : ℕ) (v : Option ScalarValue) (rs : Rows) (ws : List (Option ScalarValue)) → v ≡ Some (value.Record rs) → rows_from (map option_row ws) ≡ rs → length ws ≤ c → null ≡ field_in c (option_row v)
field_absent c v rs ws e same past = sym (field_of_value c v rs ws e same ∙ get_or_past (map option_row ws) c null (rw (length-map ws option_row) past))

-- ---- lists, one after another

-- the first n lists are spread
pub record AreSpreadTo (rs : List Row) (n : ℕ) (qs : List Row) (os ns : List ℕ) : Type 0 where
  pub items : qs ≡ flat_map items_in (take n rs)
  pub places : os ≡ map (λ i. length (flat_map items_in (take i rs))) (range_with_len 0 n)
  pub sizes : ns ≡ list_sizes (take n rs)

next_list : (rs : List Row) (i : ℕ) (r : Row) → i < length rs → r ≡ get_or rs i null → take (i + 1) rs ≡ take i rs ++ r ∷ []
next_list rs i r inside here = take_more rs i null inside ∙ ap (λ x. take i rs ++ x ∷ []) (sym here)

pub flat_next : (f : Row → List Row) (rs : List Row) (i : ℕ) (r : Row) → i < length rs → r ≡ get_or rs i null → flat_map f (take (i + 1) rs) ≡ flat_map f (take i rs) ++ f r
flat_next f rs i r inside here = ap (flat_map f) (next_list rs i r inside here) ∙ flat_map-append f (take i rs) (r ∷ []) ∙ ap (λ xs. flat_map f (take i rs) ++ xs) (append-nil (f r))

pub AreSpreadTo-none : (rs : List Row) → AreSpreadTo rs 0 [] [] []
AreSpreadTo-none rs = record { items = refl; places = refl; sizes = refl }

pub AreSpreadTo-next : (rs : List Row) (i : ℕ) (r : Row) (qs ps : List Row) (os ns os2 ns2 : List ℕ) (start size : ℕ) → i < length rs → r ≡ get_or rs i null → AreSpreadTo rs i qs os ns
    → start ≡ length qs → os2 ≡ os ++ start ∷ [] → ps ≡ qs ++ items_in r → size ≡ length ps - start → ns2 ≡ ns ++ size ∷ [] → AreSpreadTo rs (i + 1) ps os2 ns2
AreSpreadTo-next rs i r qs ps os ns os2 ns2 start size inside here x from placed added long sized =
    let count : size ≡ length (items_in r) = omega (arith, long, ap length added, length-append qs (items_in r), from) in
    record {
      items = added ∙ ap (λ xs. xs ++ items_in r) x.items ∙ sym (flat_next items_in rs i r inside here);
      places =
          placed ∙ (λ j. x.places j ++ (from ∙ ap length x.items) j ∷ [])
          ∙ sym (map-range_with_len_more (λ k. length (flat_map items_in (take k rs))) 0 i i (zero-add i));
      sizes = sized ∙ (λ j. x.sizes j ++ count j ∷ []) ∙ sym (ap list_sizes (next_list rs i r inside here) ∙ map-append (λ y. length (items_in y)) (take i rs) (r ∷ []));
    }

pub AreSpreadTo-all : (rs : List Row) (i n : ℕ) (qs : List Row) (os ns : List ℕ) → AreSpreadTo rs i qs os ns → i ≤ n → n ≤ i → length rs ≡ n → AreSpread rs qs os ns
AreSpreadTo-all rs i n qs os ns x upto from long =
    let same : i ≡ length rs = omega arith in
    let whole : take i rs ≡ rs = take_all i rs (omega arith) in
    record {
      items = x.items ∙ ap (flat_map items_in) whole;
      places = x.places ∙ ap (λ m. map (λ k. length (flat_map items_in (take k rs))) (range_with_len 0 m)) same;
      sizes = x.sizes ∙ ap list_sizes whole;
    }

-- ---- f of each row, one after another

-- those of row i, each by h, stand at their place
pub rows_at_place : (k : Kind) (h : Row → Row) (f : Row → List Row) (g : ℕ → Row) (rs qs : List Row) → qs ≡ flat_map f rs → ((y : ℕ) → y < length qs → Fits k (h (get_or qs y null)) → g y ≡ h (get_or qs y null)) → (i : ℕ) → i < length rs
    → All (λ r. Fits k (h r)) (f (get_or rs i null)) → rows_range g (length (flat_map f (take i rs))) (length (f (get_or rs i null))) ≡ rows_from (map h (f (get_or rs i null)))
rows_at_place k h f g rs qs e same i l fits = listed (f (get_or rs i null)) (length (flat_map f (take i rs))) (λ j m.
    let place = length (flat_map f (take i rs)) in
    let here : get_or qs (place + j) null ≡ get_or (f (get_or rs i null)) j null = ap (λ xs. get_or xs (place + j) null) e ∙ get_or-flat_map f rs i j null null l m in
    let inside : place + j < length qs = omega (arith, ap length e, length-flat_map-take f rs i null l, m) in
    same (place + j) inside (subst (λ r. Fits k (h r)) (sym here) (fits j null m)) ∙ ap h here)
  where
    listed : (xs : List Row) (start : ℕ) → ((j : ℕ) → j < length xs → g (start + j) ≡ h (get_or xs j null)) → rows_range g start (length xs) ≡ rows_from (map h xs)
    listed [] start each = refl
    listed (x ∷ xs) start each =
        let first : g start ≡ h x = ap g {x = start} {y = start + 0} (omega arith) ∙ each 0 (omega arith) in
        λ n. row (first n) (listed xs (suc start) (λ j m. ap g {x = suc start + j} {y = start + suc j} (omega arith) ∙ each (suc j) (omega arith)) n)

pub fit_each : (P Q : Row → Type 0) (f : Row → List Row) → ((r : Row) → P r → All Q (f r)) → (rs : List Row) → All P rs → All Q (flat_map f rs)
fit_each P Q f h [] all = All-nil Q
fit_each P Q f h (r ∷ rs) all = All-append Q (f r) (flat_map f rs) (h r (all 0 r (omega arith))) (fit_each P Q f h rs (λ i d l. all (suc i) d (omega arith)))

-- as many of each
pub sized_before : (f : Row → List Row) (n : ℕ) (rs : List Row) (i : ℕ) → All (λ r. length (f r) ≡ n) rs → i ≤ length rs → length (flat_map f (take i rs)) ≡ i * n
sized_before f n rs zero all l = omega arith
sized_before f n [] (suc i) all l = absurd (omega arith)
sized_before f n (r ∷ rs) (suc i) all l =
    let rest = sized_before f n rs i (λ j d m. all (suc j) d (omega arith)) (omega arith) in
    let here = all 0 r (omega arith) in
    omega (arith, length-append (f r) (flat_map f (take i rs)), rest, here)

-- ---- what fits

pub fits_named : (k : Kind) (r : Row) → Fits k (named k r) → FitsNamed k r
fits_named k null h = tt
fits_named k (boolean b) h = h
fits_named k (whole z) h = h
fits_named k (bytes bs) h = h
fits_named k (text bs) h = h
fits_named k (items rs) h = h
fits_named k (record_of fs) h = h

there_named : (k : Kind) (v : Option ScalarValue) → FitsIfThere k v → FitsNamed k (option_row v)
there_named k None h = tt
there_named k (Some (value.Bool b)) h = h
there_named k (Some (value.Int z)) h = h
there_named k (Some (value.Bytes bs)) h = h
there_named k (Some (value.Text bs)) h = h
there_named k (Some (value.List rs)) h = h
there_named k (Some (value.Record rs)) h = h

named_there : (k : Kind) (v : Option ScalarValue) → FitsNamed k (option_row v) → FitsIfThere k v
named_there k None h = tt
named_there k (Some (value.Bool b)) h = h
named_there k (Some (value.Int z)) h = h
named_there k (Some (value.Bytes bs)) h = h
named_there k (Some (value.Text bs)) h = h
named_there k (Some (value.List rs)) h = h
named_there k (Some (value.Record rs)) h = h

pub all_named_rows : (k : Kind) (vs : List (Option ScalarValue)) → All (FitsIfThere k) vs → All (FitsNamed k) (map option_row vs)
all_named_rows k vs all = λ i d l.
    let inside : i < length vs = rw (length-map vs option_row) at l in
    subst (FitsNamed k) (sym (get_or-map option_row vs i None d inside)) (there_named k (get_or vs i None) (all i None inside))

pub all_there : (k : Kind) (ws : List (Option ScalarValue)) (rs : List Row) → map option_row ws ≡ rs → All (FitsNamed k) rs → All (FitsIfThere k) ws
all_there k ws rs e all = λ i d l.
    let inside : i < length rs = rw (← e, length-map ws option_row) l in
    named_there k (get_or ws i d) (subst (FitsNamed k) (ap (λ xs. get_or xs i (option_row d)) (sym e) ∙ get_or-map option_row ws i d (option_row d) l) (all i (option_row d) inside))

rows_fit : (k : Kind) (rs : Rows) → AllFit k (all_named k rs) → All (λ r. Fits k (named k r)) (list_from rs)
rows_fit k no_rows h i d l = absurd (omega arith)
rows_fit k (row r rs) h zero d l = h.0
rows_fit k (row r rs) h (suc i) d l = rows_fit k rs h.1 i d (omega arith)

pub items_fit : (k : Kind) (rs : Rows) → AllFit k (all_named k rs) → All (FitsNamed k) (list_from rs)
items_fit k rs h = λ i d l. fits_named k (get_or (list_from rs) i d) (rows_fit k rs h i d l)

list_items_fit : (k : Kind) (m : Bool) (r : Row) → FitsNamed (lists k m) r → All (FitsNamed k) (items_in r)
list_items_fit k m null h = All-nil (FitsNamed k)
list_items_fit k m (boolean b) h = absurd h
list_items_fit k m (whole z) h = absurd h
list_items_fit k m (bytes bs) h = absurd h
list_items_fit k m (text bs) h = absurd h
list_items_fit k m (items rs) h = items_fit k rs h
list_items_fit k m (record_of fs) h = absurd h

pub nulls_fit : (k : Kind) (n : ℕ) → All (FitsNamed k) (replicate n null)
nulls_fit k zero i d l = absurd (omega arith)
nulls_fit k (suc n) zero d l = tt
nulls_fit k (suc n) (suc i) d l = nulls_fit k n i d (omega arith)

pub fixed_items_fit : (k : Kind) (size : ℕ) (m : Bool) (r : Row) → FitsNamed (fixed_lists k size m) r → All (FitsNamed k) (items_or_nulls size r)
fixed_items_fit k size m null h = nulls_fit k size
fixed_items_fit k size m (boolean b) h = absurd h
fixed_items_fit k size m (whole z) h = absurd h
fixed_items_fit k size m (bytes bs) h = absurd h
fixed_items_fit k size m (text bs) h = absurd h
fixed_items_fit k size m (items rs) h = items_fit k rs h.1
fixed_items_fit k size m (record_of fs) h = absurd h

counted : (k : Kind) (rs : Rows) → row_count (all_named k rs) ≡ length (list_from rs)
counted k no_rows = refl
counted k (row r rs) = omega (arith, counted k rs)

pub fixed_items_count : (k : Kind) (size : ℕ) (m : Bool) (r : Row) → FitsNamed (fixed_lists k size m) r → length (items_or_nulls size r) ≡ size
fixed_items_count k size m null h = length-replicate {A = Row} size null
fixed_items_count k size m (boolean b) h = absurd h
fixed_items_count k size m (whole z) h = absurd h
fixed_items_count k size m (bytes bs) h = absurd h
fixed_items_count k size m (text bs) h = absurd h
fixed_items_count k size m (items rs) h = sym (counted k rs) ∙ h.0
fixed_items_count k size m (record_of fs) h = absurd h

-- lists that fit have the size, and a null has as many rows
pub sized_length : (k : Kind) (size : ℕ) (m : Bool) (rs : List Row) → All (FitsNamed (fixed_lists k size m)) rs → length (flat_map (items_or_nulls size) rs) ≡ length rs * size
sized_length k size m rs all =
    let whole : take (length rs) rs ≡ rs = take_all (length rs) rs (omega arith) in
    ap (λ xs. length (flat_map (items_or_nulls size) xs)) (sym whole)
    ∙ sized_before (items_or_nulls size) size rs (length rs) (λ i d l. fixed_items_count k size m (get_or rs i d) (all i d l)) (omega arith)

pub list_rows_fit : (k : Kind) (m : Bool) (vs ws : List (Option ScalarValue)) → map option_row ws ≡ flat_map items_in (map option_row vs) → All (FitsIfThere (lists k m)) vs → All (FitsIfThere k) ws
list_rows_fit k m vs ws e all =
    all_there k ws (flat_map items_in (map option_row vs)) e (fit_each (FitsNamed (lists k m)) (FitsNamed k) items_in (list_items_fit k m) (map option_row vs) (all_named_rows (lists k m) vs all))

pub fixed_rows_fit : (k : Kind) (size : ℕ) (m : Bool) (vs ws : List (Option ScalarValue)) → map option_row ws ≡ flat_map (items_or_nulls size) (map option_row vs) → All (FitsIfThere (fixed_lists k size m)) vs → All (FitsIfThere k) ws
fixed_rows_fit k size m vs ws e all =
    all_there k ws (flat_map (items_or_nulls size) (map option_row vs)) e
    (fit_each (FitsNamed (fixed_lists k size m)) (FitsNamed k) (items_or_nulls size) (fixed_items_fit k size m) (map option_row vs) (all_named_rows (fixed_lists k size m) vs all))

-- ---- lists

-- the rows of the elements
element_rows : (k : Kind) (ws : List (Option ScalarValue)) (e : Tree) → ArePlainValues k ws e → (y : ℕ) → y < length (map option_row ws) → Fits k (named k (get_or (map option_row ws) y null)) → row_at e y ≡ named k (get_or (map option_row ws) y null)
element_rows k ws e x y l h =
    let inside : y < length ws = rw (length-map ws option_row) at l in
    let same : get_or (map option_row ws) y null ≡ option_row (get_or ws y None) = get_or-map option_row ws y None null inside in
    x.rows y inside (subst (λ r. Fits k (named k r)) same h) ∙ ap (named k) (sym same)

rows_named : (k : Kind) (rs : Rows) → rows_from (map (named k) (list_from rs)) ≡ all_named k rs
rows_named k no_rows = refl
rows_named k (row r rs) = ap (row (named k r)) (rows_named k rs)

list_row : (k : Kind) (m : Bool) (x : ScalarValue) → Fits (lists k m) (row_under (lists k m) (Some x)) → items (rows_from (map (named k) (items_in (value_row x)))) ≡ row_under (lists k m) (Some x)
list_row k m (value.Bool b) h = absurd h
list_row k m (value.Int z) h = absurd h
list_row k m (value.Bytes bs) h = absurd h
list_row k m (value.Text bs) h = absurd h
list_row k m (value.List rs) h = ap items (rows_named k rs)
list_row k m (value.Record rs) h = absurd h

list_row_fits : (k : Kind) (m : Bool) (x : ScalarValue) → Fits (lists k m) (row_under (lists k m) (Some x)) → All (λ r. Fits k (named k r)) (items_in (value_row x))
list_row_fits k m (value.Bool b) h = absurd h
list_row_fits k m (value.Int z) h = absurd h
list_row_fits k m (value.Bytes bs) h = absurd h
list_row_fits k m (value.Text bs) h = absurd h
list_row_fits k m (value.List rs) h = rows_fit k rs h
list_row_fits k m (value.Record rs) h = absurd h

raw_row : (vs : List (Option ScalarValue)) (i : ℕ) (x : ScalarValue) → i < length vs → slice_index_or vs i None ≡ Some x → get_or (map option_row vs) i null ≡ value_row x
raw_row vs i x l here = get_or-map option_row vs i None null l ∙ ap option_row here

place_at : (rs : List Row) (i : ℕ) → i < length rs → slice_index (list_places rs) i ≡ length (flat_map items_in (take i rs))
place_at rs i l = get_or-map-range_with_len (λ j. length (flat_map items_in (take j rs))) 0 (length rs) i i 0 l (zero-add i)

size_at : (rs : List Row) (i : ℕ) → i < length rs → slice_index (list_sizes rs) i ≡ length (items_in (get_or rs i null))
size_at rs i l = get_or-map (λ r. length (items_in r)) rs i null 0 l

length-places : (rs : List Row) → length (list_places rs) ≡ length rs
length-places rs = length-map-range_with_len (λ j. length (flat_map items_in (take j rs))) 0 (length rs)

pub lists_formed : (e o s : Tree) (k : Kind) (m : Bool) (v : Valid) (vs ws : List (Option ScalarValue)) (os ns : List ℕ) → v ≡ values_valid m vs → AreSpread (map option_row vs) (map option_row ws) os ns → ArePlainValues k ws e → IsCountsOf os o → IsCountsOf ns s
    → WellFormed (list_view e o s v false)
lists_formed e o s k m v vs ws os ns valid x elements places sizes =
    let rs = map option_row vs in
    let olen : tree_len o ≡ length vs = places.len ∙ ap length x.places ∙ length-places rs ∙ length-map vs option_row in
    let slen : tree_len s ≡ length vs = sizes.len ∙ ap length x.sizes ∙ length-map rs (λ (r : Row). length (items_in r)) ∙ length-map vs option_row in (
      rw valid (values_valid-fits m vs (tree_len o) olen),
      record {
        offsets = counts_of-are os o places;
        sizes = counts_of-are ns s sizes;
        same_len = slen ∙ sym olen;
        within = λ i l.
            let inside : i < length rs = omega (arith, olen, l, length-map vs option_row) in
            let a : count_in (row_at o i) ≡ length (flat_map items_in (take i rs)) = ap count_in (places.rows i (rw (← places.len) l)) ∙ ap (λ (xs : List ℕ). slice_index xs i) x.places ∙ place_at rs i inside in
            let b : count_in (row_at s i) ≡ length (items_in (get_or rs i null)) = ap count_in (sizes.rows i (omega (arith, olen, slen, l, sizes.len))) ∙ ap (λ (xs : List ℕ). slice_index xs i) x.sizes ∙ size_at rs i inside in
            let all : tree_len e ≡ length (flat_map items_in rs) = elements.len ∙ sym (length-map ws option_row) ∙ ap length x.items in
            omega (arith, a, b, all, length-flat_map-take items_in rs i null inside);
        follows = λ t. absurd (cc);
      },
    )

pub lists_made : (t e o s : Tree) (k : Kind) (m : Bool) (v : Valid) (vs ws : List (Option ScalarValue)) (os ns : List ℕ) → v ≡ values_valid m vs → AreSpread (map option_row vs) (map option_row ws) os ns → ArePlainValues k ws e → IsCountsOf os o → IsCountsOf ns s
    → t ≡ list_view e o s v false → ArePlainValues (lists k m) vs t
lists_made t e o s k m v vs ws os ns valid x elements places sizes a =
    let rs = map option_row vs in
    let olen : tree_len o ≡ length vs = places.len ∙ ap length x.places ∙ length-places rs ∙ length-map vs option_row in
    let slen : length ns ≡ length vs = ap length x.sizes ∙ length-map rs (λ (r : Row). length (items_in r)) ∙ length-map vs option_row in
    rw (a, valid) (record {
      len = olen;
      kind = λ i. lists (elements.kind i) (values_valid-nullable m vs i);
      plain = (elements.plain, places.plain, sizes.plain, values_valid-plain m vs);
      state = refl;
      extent =
          (λ i. list_extent ((elements.len ∙ sym (length-map ws option_row)) i) (elements.extent i)) ∙ ap (λ qs. list_extent (length qs) (rows_extent k qs)) x.items;
      flag = refl;
      rows = λ i l fits.
          let inside : i < length rs = rw (length-map vs option_row) l in
          let from : count_in (row_at o i) ≡ length (flat_map items_in (take i rs)) = ap count_in (places.rows i (omega (arith, l, olen, places.len))) ∙ ap (λ (xs : List ℕ). slice_index xs i) x.places ∙ place_at rs i inside in
          let size : count_in (row_at s i) ≡ length (items_in (get_or rs i null)) = ap count_in (sizes.rows i (rw slen l)) ∙ ap (λ (xs : List ℕ). slice_index xs i) x.sizes ∙ size_at rs i inside in
          row_of_value (lists k m) vs i (items (rows_range (row_at e) (count_in (row_at o i)) (count_in (row_at s i)))) l
          (λ y here h.
          let raw : get_or rs i null ≡ value_row y = raw_row vs i y l here in
          let each : All (λ r. Fits k (named k r)) (items_in (get_or rs i null)) = rw raw (list_row_fits k m y h) in
          (λ j. items (rows_range (row_at e) (from j) (size j))) ∙ ap items (rows_at_place k (named k) items_in (row_at e) rs (map option_row ws) x.items (element_rows k ws e elements) i inside each)
          ∙ ap (λ r. items (rows_from (map (named k) (items_in r)))) raw ∙ list_row k m y h)
          refl (λ h. h) fits;
    })

-- ---- lists of one size

fixed_row : (k : Kind) (size : ℕ) (m : Bool) (x : ScalarValue) → Fits (fixed_lists k size m) (row_under (fixed_lists k size m) (Some x))
    → items (rows_from (map (named k) (items_or_nulls size (value_row x)))) ≡ row_under (fixed_lists k size m) (Some x)
fixed_row k size m (value.Bool b) h = absurd h
fixed_row k size m (value.Int z) h = absurd h
fixed_row k size m (value.Bytes bs) h = absurd h
fixed_row k size m (value.Text bs) h = absurd h
fixed_row k size m (value.List rs) h = ap items (rows_named k rs)
fixed_row k size m (value.Record rs) h = absurd h

fixed_row_fits : (k : Kind) (size : ℕ) (m : Bool) (x : ScalarValue) → Fits (fixed_lists k size m) (row_under (fixed_lists k size m) (Some x)) → All (λ r. Fits k (named k r)) (items_or_nulls size (value_row x))
fixed_row_fits k size m (value.Bool b) h = absurd h
fixed_row_fits k size m (value.Int z) h = absurd h
fixed_row_fits k size m (value.Bytes bs) h = absurd h
fixed_row_fits k size m (value.Text bs) h = absurd h
fixed_row_fits k size m (value.List rs) h = rows_fit k rs h.1
fixed_row_fits k size m (value.Record rs) h = absurd h

all_sized : (k : Kind) (size : ℕ) (m : Bool) (vs : List (Option ScalarValue)) → All (FitsIfThere (fixed_lists k size m)) vs → All (λ r. length (items_or_nulls size r) ≡ size) (map option_row vs)
all_sized k size m vs all = λ i d l. fixed_items_count k size m (get_or (map option_row vs) i d) (all_named_rows (fixed_lists k size m) vs all i d l)

fixed_count : (e : Tree) (k : Kind) (size : ℕ) (m : Bool) (vs ws : List (Option ScalarValue)) → map option_row ws ≡ flat_map (items_or_nulls size) (map option_row vs) → All (FitsIfThere (fixed_lists k size m)) vs → ArePlainValues k ws e
    → tree_len e ≡ length vs * size
fixed_count e k size m vs ws same all elements =
    elements.len ∙ sym (length-map ws option_row) ∙ ap length same ∙ sized_length k size m (map option_row vs) (all_named_rows (fixed_lists k size m) vs all) ∙ ap (λ n. n * size) (length-map vs option_row)

pub fixed_lists_formed : (e : Tree) (k : Kind) (size n : ℕ) (m : Bool) (v : Valid) (vs ws : List (Option ScalarValue)) → v ≡ values_valid m vs → n ≡ length vs → map option_row ws ≡ flat_map (items_or_nulls size) (map option_row vs)
    → All (FitsIfThere (fixed_lists k size m)) vs → ArePlainValues k ws e → WellFormed (fixed_list e size v n)
fixed_lists_formed e k size n m v vs ws valid long same all elements = (rw valid (values_valid-fits m vs n long), fixed_count e k size m vs ws same all elements ∙ ap (λ j. j * size) (sym long))

pub fixed_lists_made : (t e : Tree) (k : Kind) (size n : ℕ) (m : Bool) (v : Valid) (vs ws : List (Option ScalarValue)) → v ≡ values_valid m vs → n ≡ length vs → map option_row ws ≡ flat_map (items_or_nulls size) (map option_row vs)
    → All (FitsIfThere (fixed_lists k size m)) vs → ArePlainValues k ws e → t ≡ fixed_list e size v n → ArePlainValues (fixed_lists k size m) vs t
fixed_lists_made t e k size n m v vs ws valid long same all elements a =
    let rs = map option_row vs in
    rw (a, valid) (record {
      len = long;
      kind = λ i. fixed_lists (elements.kind i) size (values_valid-nullable m vs i);
      plain = (elements.plain, values_valid-plain m vs);
      state = refl;
      extent = ap fixed_list_extent (elements.extent ∙ ap (rows_extent k) same);
      flag = refl;
      rows = λ i l fits.
          let inside : i < length rs = rw (length-map vs option_row) l in
          let sized = all_sized k size m vs all in
          let from : i * size ≡ length (flat_map (items_or_nulls size) (take i rs)) = sym (sized_before (items_or_nulls size) size rs i sized (omega (arith, inside))) in
          let count : size ≡ length (items_or_nulls size (get_or rs i null)) = sym (sized i null inside) in
          row_of_value (fixed_lists k size m) vs i (items (rows_range (row_at e) (i * size) size)) l
          (λ y here h.
          let raw : get_or rs i null ≡ value_row y = raw_row vs i y l here in
          let each : All (λ r. Fits k (named k r)) (items_or_nulls size (get_or rs i null)) = subst (λ r. All (λ q. Fits k (named k q)) (items_or_nulls size r)) (sym raw) (fixed_row_fits k size m y h) in
          (λ j. items (rows_range (row_at e) (from j) (count j))) ∙ ap items (rows_at_place k (named k) (items_or_nulls size) (row_at e) rs (map option_row ws) same (element_rows k ws e elements) i inside each)
          ∙ ap (λ r. items (rows_from (map (named k) (items_or_nulls size r)))) raw ∙ fixed_row k size m y h)
          refl (λ h. h) fits;
    })

-- ---- records

fields_fit : (names : List (List ℕ)) (ks js : Kinds) (j : Kind) (c : ℕ) (fs : Fields) → FieldsFit names ks (fields_named names ks fs) → from_field c ks ≡ kind j js → FitsNamed j (field_at c fs)
fields_fit [] no_kinds js j zero fs h e = absurd (cc)
fields_fit [] no_kinds js j (suc c) fs h e = absurd (cc)
fields_fit [] (kind k ks) js j c no_fields h e = absurd h
fields_fit [] (kind k ks) js j c (field m r fs) h e = absurd h
fields_fit (n ∷ names) no_kinds js j c no_fields h e = absurd h
fields_fit (n ∷ names) no_kinds js j c (field m r fs) h e = absurd h
fields_fit (n ∷ names) (kind k ks) js j c no_fields h e = absurd h
fields_fit (n ∷ names) (kind k ks) js j zero (field m r fs) h e = let same : k ≡ j = cc in subst (λ x. FitsNamed x r) same (fits_named k r h.1)
fields_fit (n ∷ names) (kind k ks) js j (suc c) (field m r fs) h e = fields_fit names ks js j c fs h.2 e

pub field_fits : (names : List (List ℕ)) (ks js : Kinds) (m : Bool) (j : Kind) (c : ℕ) (r : Row) → FitsNamed (records names ks m) r → from_field c ks ≡ kind j js → FitsNamed j (field_in c r)
field_fits names ks js m j c null h e = tt
field_fits names ks js m j c (boolean b) h e = absurd h
field_fits names ks js m j c (whole z) h e = absurd h
field_fits names ks js m j c (bytes bs) h e = absurd h
field_fits names ks js m j c (text bs) h e = absurd h
field_fits names ks js m j c (items qs) h e = absurd h
field_fits names ks js m j c (record_of fs) h e = fields_fit names ks js j c fs h e

kinds_from_field : (ds : List DType) (c : ℕ) (d : DType) → c < length ds → from_field c (dtype_kinds ds) ≡ kind (dtype_meaning (slice_index_or ds c d)) (dtype_kinds (drop (suc c) ds))
kinds_from_field [] c d l = absurd (omega arith)
kinds_from_field (e ∷ ds) zero d l = refl
kinds_from_field (e ∷ ds) (suc c) d l = kinds_from_field ds c d (omega arith)

pub record_fields_fit : (names : List (List ℕ)) (ds : List DType) (m : Bool) (vs : List (Option ScalarValue)) → All (FitsIfThere (records names (dtype_kinds ds) m)) vs → FieldsFitNamed ds (map option_row vs)
record_fields_fit names ds m vs all c d l = λ i r q.
    let ks = dtype_kinds ds in
    field_fits names ks (dtype_kinds (drop (suc c) ds)) m (dtype_meaning (slice_index_or ds c d)) c (get_or (map option_row vs) i r) (all_named_rows (records names ks m) vs all i r q) (kinds_from_field ds c d l)

-- the values of a field fit its data type
pub field_values_fit : (ds : List DType) (c : ℕ) (d : DType) (vs ws : List (Option ScalarValue)) → FieldsFitNamed ds (map option_row vs) → c < length ds → d ≡ slice_index_or ds c d → map option_row ws ≡ map (field_in c) (map option_row vs)
    → All (FitsIfThere (dtype_meaning d)) ws
field_values_fit ds c d vs ws h l here same =
    let rs = map option_row vs in
    all_there (dtype_meaning d) ws (map (field_in c) rs) same (λ i r q.
    let inside : i < length rs = rw (length-map rs (field_in c)) at q in
    subst (FitsNamed (dtype_meaning d)) (sym (get_or-map (field_in c) rs i null r inside)) (subst (λ e. FitsNamed (dtype_meaning e) (field_in c (get_or rs i null))) (sym here) (h c d l i null inside)))

-- and in plain layout they are its rows
pub field_rows : (d : DType) (c : ℕ) (vs ws : List (Option ScalarValue)) (t : Tree) → map option_row ws ≡ map (field_in c) (map option_row vs) → ArePlainValues (dtype_meaning d) ws t
    → ArePlainRows (dtype_meaning d) (map (field_in c) (map option_row vs)) t
field_rows d c vs ws t same x =
    let k = dtype_meaning d in
    subst (λ rs. ArePlainRows k rs t) same (record { len = x.len ∙ sym (length-map ws option_row); kind = x.kind; plain = x.plain; extent = x.extent; rows = λ i l fits. element_rows k ws t x i l fits })

-- one field more
pub ArePlainFields-push : (c : ℕ) (ds : List DType) (d : DType) (rs : List Row) (ts : List Tree) (t : Tree) → ArePlainFields c ds rs ts → ArePlainRows (dtype_meaning d) (map (field_in (c + length ds)) rs) t
    → ArePlainFields c (ds ++ d ∷ []) rs (ts ++ t ∷ [])
ArePlainFields-push c [] d rs [] t h x = (subst (λ n. ArePlainRows (dtype_meaning d) (map (field_in n) rs) t) {x = c + 0} {y = c} (omega arith) x, tt)
ArePlainFields-push c [] d rs (u ∷ ts) t h x = absurd h
ArePlainFields-push c (e ∷ ds) d rs [] t h x = absurd h
ArePlainFields-push c (e ∷ ds) d rs (u ∷ ts) t h x =
    (h.0, ArePlainFields-push (suc c) ds d rs ts t h.1 (subst (λ n. ArePlainRows (dtype_meaning d) (map (field_in n) rs) t) {x = c + suc (length ds)} {y = suc c + length ds} (omega arith) x))

pub ArePlainFields-next : (ds : List DType) (i : ℕ) (d : DType) (rs : List Row) (ts us : List Tree) (t : Tree) → ArePlainFields 0 (take i ds) rs ts → i < length ds → d ≡ slice_index_or ds i d
    → ArePlainRows (dtype_meaning d) (map (field_in i) rs) t → us ≡ ts ++ t ∷ [] → ArePlainFields 0 (take (i + 1) ds) rs us
ArePlainFields-next ds i d rs ts us t h l here x e =
    let place : 0 + length (take i ds) ≡ i = omega (arith, length-take-le i ds (omega arith)) in
    let pushed = ArePlainFields-push 0 (take i ds) d rs ts t h (subst (λ n. ArePlainRows (dtype_meaning d) (map (field_in n) rs) t) (sym place) x) in
    subst (λ es. ArePlainFields 0 es rs us) (sym (take_push ds i d l here)) (subst (λ vs. ArePlainFields 0 (take i ds ++ d ∷ []) rs vs) (sym e) pushed)

fields_kinds : (c : ℕ) (ds : List DType) (rs : List Row) (ts : List Tree) → ArePlainFields c ds rs ts → kinds_of (trees_from ts) ≡ dtype_kinds ds
fields_kinds c [] rs [] h = refl
fields_kinds c [] rs (t ∷ ts) h = absurd h
fields_kinds c (d ∷ ds) rs [] h = absurd h
fields_kinds c (d ∷ ds) rs (t ∷ ts) h = λ i. kind (h.0.kind i) (fields_kinds (suc c) ds rs ts h.1 i)

fields_plain : (c : ℕ) (ds : List DType) (rs : List Row) (ts : List Tree) → ArePlainFields c ds rs ts → ArePlain (trees_from ts)
fields_plain c [] rs [] h = tt
fields_plain c [] rs (t ∷ ts) h = absurd h
fields_plain c (d ∷ ds) rs [] h = absurd h
fields_plain c (d ∷ ds) rs (t ∷ ts) h = (h.0.plain, fields_plain (suc c) ds rs ts h.1)

fields_extents-of : (c : ℕ) (ds : List DType) (rs : List Row) (ts : List Tree) → ArePlainFields c ds rs ts → extents_of (trees_from ts) ≡ fields_extents (dtype_kinds ds) c rs
fields_extents-of c [] rs [] h = refl
fields_extents-of c [] rs (t ∷ ts) h = absurd h
fields_extents-of c (d ∷ ds) rs [] h = absurd h
fields_extents-of c (d ∷ ds) rs (t ∷ ts) h = λ i. extent (h.0.extent i) (fields_extents-of (suc c) ds rs ts h.1 i)

fields_lens : (c : ℕ) (ds : List DType) (rs : List Row) (ts : List Tree) → ArePlainFields c ds rs ts → AllLen (length rs) (trees_from ts)
fields_lens c [] rs [] h = tt
fields_lens c [] rs (t ∷ ts) h = absurd h
fields_lens c (d ∷ ds) rs [] h = absurd h
fields_lens c (d ∷ ds) rs (t ∷ ts) h = (h.0.len ∙ length-map rs (field_in c), fields_lens (suc c) ds rs ts h.1)

fields_count : (c : ℕ) (ds : List DType) (rs : List Row) (ts : List Tree) → ArePlainFields c ds rs ts → length ds ≡ column_count (trees_from ts)
fields_count c [] rs [] h = refl
fields_count c [] rs (t ∷ ts) h = absurd h
fields_count c (d ∷ ds) rs [] h = absurd h
fields_count c (d ∷ ds) rs (t ∷ ts) h = omega (arith, fields_count (suc c) ds rs ts h.1)

-- the fields of row i from place c on are those of the columns
fields_of_row : (c : ℕ) (names : List (List ℕ)) (ds : List DType) (rs : List Row) (ts : List Tree) (i : ℕ) (gs : Fields) → ArePlainFields c ds rs ts → i < length rs → ((j : ℕ) → field_in (c + j) (get_or rs i null) ≡ field_at j gs)
    → FieldsFit names (dtype_kinds ds) (fields_named names (dtype_kinds ds) gs) → fields_at (trees_from ts) names i ≡ fields_named names (dtype_kinds ds) gs
fields_of_row c [] [] rs [] i no_fields h l same fits = refl
fields_of_row c [] [] rs [] i (field m r gs) h l same fits = absurd fits
fields_of_row c (n ∷ names) [] rs [] i no_fields h l same fits = absurd fits
fields_of_row c (n ∷ names) [] rs [] i (field m r gs) h l same fits = absurd fits
fields_of_row c names [] rs (t ∷ ts) i gs h l same fits = absurd h
fields_of_row c names (d ∷ ds) rs [] i gs h l same fits = absurd h
fields_of_row c [] (d ∷ ds) rs (t ∷ ts) i no_fields h l same fits = absurd fits
fields_of_row c [] (d ∷ ds) rs (t ∷ ts) i (field m r gs) h l same fits = absurd fits
fields_of_row c (n ∷ names) (d ∷ ds) rs (t ∷ ts) i no_fields h l same fits = absurd fits
fields_of_row c (n ∷ names) (d ∷ ds) rs (t ∷ ts) i (field m r gs) h l same fits =
    let k = dtype_meaning d in
    let mine : named k (slice_index_or (map (field_in c) rs) i null) ≡ named k r = ap (named k) (get_or-map (field_in c) rs i null null l ∙ ap (λ j. field_in j (get_or rs i null)) {x = c} {y = c + 0} (omega arith) ∙ same 0) in
    let here : row_at t i ≡ named k r = h.0.rows i (rw (length-map rs (field_in c)) l) (subst (Fits k) (sym mine) fits.1) ∙ mine in
    let rest = fields_of_row (suc c) names ds rs ts i gs h.1 l (λ j. ap (λ p. field_in p (get_or rs i null)) {x = suc c + j} {y = c + suc j} (omega arith) ∙ same (suc j)) fits.2 in
    λ j. field n (here j) (rest j)

record_row : (names : List (List ℕ)) (ds : List DType) (m : Bool) (rs : List Row) (ts : List Tree) (i : ℕ) (x : ScalarValue) → ArePlainFields 0 ds rs ts → i < length rs → get_or rs i null ≡ value_row x
    → Fits (records names (dtype_kinds ds) m) (row_under (records names (dtype_kinds ds) m) (Some x)) → record_of (fields_at (trees_from ts) names i) ≡ row_under (records names (dtype_kinds ds) m) (Some x)
record_row names ds m rs ts i (value.Bool b) h l raw fits = absurd fits
record_row names ds m rs ts i (value.Int z) h l raw fits = absurd fits
record_row names ds m rs ts i (value.Bytes bs) h l raw fits = absurd fits
record_row names ds m rs ts i (value.Text bs) h l raw fits = absurd fits
record_row names ds m rs ts i (value.List qs) h l raw fits = absurd fits
record_row names ds m rs ts i (value.Record qs) h l raw fits = ap record_of (fields_of_row 0 names ds rs ts i (unnamed qs) h l (λ j. ap (λ p. field_in p (get_or rs i null)) (zero-add j) ∙ ap (field_in j) raw) fits)

pub records_formed : (names : List (List ℕ)) (ds : List DType) (m : Bool) (v : Valid) (vs : List (Option ScalarValue)) (ts : List Tree) (n : ℕ) → v ≡ values_valid m vs → n ≡ length vs → length names ≡ length ds → ArePlainFields 0 ds (map option_row vs) ts
    → ValidFits v n × IsStruct names (trees_from ts) n
records_formed names ds m v vs ts n valid long same x =
    let rs = map option_row vs in
    (rw valid (values_valid-fits m vs n long), record { named = same ∙ fields_count 0 ds rs ts x; lens = rw (long, ← length-map vs option_row) (fields_lens 0 ds rs ts x) })

pub records_made : (t : Tree) (names : List (List ℕ)) (ds : List DType) (m : Bool) (v : Valid) (vs : List (Option ScalarValue)) (ts : List Tree) (n : ℕ) → v ≡ values_valid m vs → n ≡ length vs → ArePlainFields 0 ds (map option_row vs) ts
    → t ≡ structure names (trees_from ts) v n → ArePlainValues (records names (dtype_kinds ds) m) vs t
records_made t names ds m v vs ts n valid long x a =
    let rs = map option_row vs in
    rw (a, valid) (record {
      len = long;
      kind = λ i. records names (fields_kinds 0 ds rs ts x i) (values_valid-nullable m vs i);
      plain = (fields_plain 0 ds rs ts x, values_valid-plain m vs);
      state = refl;
      extent = ap struct_extent (fields_extents-of 0 ds rs ts x);
      flag = refl;
      rows = λ i l fits.
          row_of_value (records names (dtype_kinds ds) m) vs i (record_of (fields_at (trees_from ts) names i)) l
          (λ y here h. record_row names ds m rs ts i y x (rw (length-map vs option_row) l) (raw_row vs i y l here) h)
          refl (λ h. h) fits;
    })

-- ---- faults

value_texts_fault : (u n : Bool) (vs : List (Option ScalarValue)) → buffers_overflow (length (long_values vs)) ≡ rows_fault (value_kind u n) (map option_row vs)
value_texts_fault true n vs = ap buffers_overflow (sym (long_rows vs))
value_texts_fault false n vs = ap buffers_overflow (sym (long_rows vs))

pub texts_fault : (k : Kind) (vs : List (Option ScalarValue)) → k ≡ value_kind (is_texts k) (is_nullable_kind k) → buffers_overflow (length (long_values vs)) ≡ rows_fault k (map option_row vs)
texts_fault k vs e = value_texts_fault (is_texts k) (is_nullable_kind k) vs ∙ ap (λ j. rows_fault j (map option_row vs)) (sym e)

-- the fields from a place on have the fault of the one there, then that of the others
pub fields_fault-from : (ds : List DType) (i : ℕ) (d : DType) (rs : List Row) → i < length ds → d ≡ slice_index_or ds i d
    → fields_fault (dtype_kinds (drop i ds)) i rs ≡ or_else (rows_fault (dtype_meaning d) (map (field_in i) rs)) (fields_fault (dtype_kinds (drop (i + 1) ds)) (i + 1) rs)
fields_fault-from ds i d rs inside here =
    ap (λ (xs : List DType). fields_fault (dtype_kinds xs) i rs) (from_place ds i d inside here)
    ∙ ap (λ n. or_else (rows_fault (dtype_meaning d) (map (field_in i) rs)) (fields_fault (dtype_kinds (drop (i + 1) ds)) n rs)) {x = suc i} {y = i + 1} (omega arith)

pub fields_fault-next : (ds : List DType) (i : ℕ) (d : DType) (rs qs : List Row) (all : Option Refusal) → fields_fault (dtype_kinds (drop i ds)) i rs ≡ all → i < length ds → d ≡ slice_index_or ds i d → qs ≡ map (field_in i) rs
    → rows_fault (dtype_meaning d) qs ≡ None → fields_fault (dtype_kinds (drop (i + 1) ds)) (i + 1) rs ≡ all
fields_fault-next ds i d rs qs all h inside here same none =
    sym (fields_fault-from ds i d rs inside here ∙ ap (λ (f : Option Refusal). or_else f (fields_fault (dtype_kinds (drop (i + 1) ds)) (i + 1) rs)) (ap (rows_fault (dtype_meaning d)) (sym same) ∙ none)) ∙ h
