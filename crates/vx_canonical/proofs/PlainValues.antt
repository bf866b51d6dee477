-- Values in plain layout.
use Rattle.std.proofs.Common.{ℕ, zero, suc, ◌<◌, ◌≡◌, Bool, true, false, eqb, List, [], ◌∷◌, length, map, Option, Some, None, refl, sym, ◌∙◌, ap, subst, zero-add, arith}
use Rattle.std.specs.Prelude.{ℤ, pos, is_some, slice_index_or, count_by, if◌then◌else◌}
use Rattle.std.proofs.lemmas.List.{length-map, get_or-map}
use Rattle.std.proofs.lemmas.List.FromFn.{get_or-map-range_with_len}
use Rattle.vx_base.specs.declared.scalar_value.ScalarValue.{ScalarValue}
use Rattle.vx_base.specs.declared.scalar_value.ScalarValue.TheVariants as value
use Rattle.vx_base.specs.declared.ptypes.PType.{PType}
use Rattle.vx_base.specs.Bits.{bool_at}
use Rattle.vx_base.specs.Integers.{numbers, number_nth}
use Rattle.vx_base.specs.Kinds.{Kind, booleans, integers, texts, binaries, lists, fixed_lists, records, Fits, is_nullable_kind, is_integers, integer_type}
use Rattle.vx_base.specs.Rows.{Row, null, boolean, whole, is_present}
use Rattle.vx_base.specs.Defaults.{is_even}
use Rattle.vx_base.specs.ValueRows.{value_row, option_row, named, row_under}
use Rattle.vx_tree.specs.Tree.{Tree, bools, primitive, constant, Valid, non_nullable, all_valid, all_invalid, by_array}
use Rattle.vx_tree.specs.Meaning.{row_at, is_valid_at, nullable}
use Rattle.vx_tree.specs.Formed.{ValidFits}
use Rattle.vx_tree.specs.Shapes.{never_null, none_null, every_null, state_of, row_state}
use Rattle.vx_canonical.specs.Canonical.{IsCanonical}
use Rattle.vx_tree.specs.Plain.{IsPlainValid}
use Rattle.vx_tree.specs.Validities.{valid_from}
use Rattle.vx_canonical.specs.PlainValues.{truth_in, number_or_zero, values_valid, ArePlainValues}
use Rattle.vx_tree.specs.Extents.{rows_extent}
use Rattle.vx_canonical.proofs.RowNames.{named_null, rows_extent-named}
use Rattle.vx_tree.proofs.Validities.{valid_from-mask}

-- ---- the validity

-- of booleans, whatever it is
pub valid_from-has : (P : Valid → Type 0) (bits : List Bool) → P all_valid → P all_invalid → P (by_array (bools 0 bits non_nullable)) → P (valid_from 0 bits all_valid)
valid_from-has P bits full none told = by_count (eqb (count_by (λ b. b) bits) (length bits)) (eqb (count_by (λ b. b) bits) 0)
  where
    by_count : (a b : Bool) → P (if a then all_valid else (if b then all_invalid else by_array (bools 0 bits non_nullable)))
    by_count true b = full
    by_count false true = none
    by_count false false = told

pub values_valid-nullable : (b : Bool) (vs : List (Option ScalarValue)) → nullable (values_valid b vs) ≡ b
values_valid-nullable true vs = valid_from-has (λ v. nullable v ≡ true) (map is_some vs) refl refl refl
values_valid-nullable false vs = refl

pub values_valid-plain : (b : Bool) (vs : List (Option ScalarValue)) → IsPlainValid (values_valid b vs)
values_valid-plain true vs = valid_from-has IsPlainValid (map is_some vs) tt tt tt
values_valid-plain false vs = tt

pub values_valid-fits : (b : Bool) (vs : List (Option ScalarValue)) (n : ℕ) → n ≡ length vs → ValidFits (values_valid b vs) n
values_valid-fits true vs n e = valid_from-has (λ v. ValidFits v n) (map is_some vs) tt tt (record { len = length-map vs is_some ∙ sym e; kind = refl })
values_valid-fits false vs n e = tt

present_at : (vs : List (Option ScalarValue)) (i : ℕ) → i < length vs → is_valid_at (values_valid true vs) i ≡ is_some (slice_index_or vs i None)
present_at vs i l =
    let bits = map is_some vs in
    let v = values_valid true vs in
    let long : length bits ≡ length vs = length-map vs is_some in
    sym (get_or-map-range_with_len (is_valid_at v) 0 (length bits) i i false (rw long l) (zero-add i)) ∙ ap (λ (bs : List Bool). bool_at bs i) (valid_from-mask 0 bits true) ∙ get_or-map is_some vs i None false l

-- a value that is there is valid, and one that is none is not, if null may stand
pub there_valid : (b : Bool) (vs : List (Option ScalarValue)) (i : ℕ) (x : ScalarValue) → i < length vs → slice_index_or vs i None ≡ Some x → is_valid_at (values_valid b vs) i ≡ true
there_valid true vs i x l e = present_at vs i l ∙ ap is_some e
there_valid false vs i x l e = refl

pub none_valid : (b : Bool) (vs : List (Option ScalarValue)) (i : ℕ) → i < length vs → slice_index_or vs i None ≡ None → b ≡ true → is_valid_at (values_valid b vs) i ≡ false
none_valid true vs i l e may = present_at vs i l ∙ ap is_some e
none_valid false vs i l e may = absurd (cc)

-- the row of a value that is there by its validity, or null
pub row_of_value : (k : Kind) (vs : List (Option ScalarValue)) (i : ℕ) (r : Row) → i < length vs → ((x : ScalarValue) → slice_index_or vs i None ≡ Some x → Fits k (row_under k (Some x)) → r ≡ row_under k (Some x))
    → (null ≡ row_under k None) → (Fits k (row_under k None) → is_nullable_kind k ≡ true) → Fits k (row_under k (slice_index_or vs i None)) → (if is_valid_at (values_valid (is_nullable_kind k) vs) i then r else null) ≡ row_under k (slice_index_or vs i None)
row_of_value k vs i r l there none may fits = by_value (slice_index_or vs i None) refl fits
  where
    by_value : (v : Option ScalarValue) → slice_index_or vs i None ≡ v → Fits k (row_under k v) → (if is_valid_at (values_valid (is_nullable_kind k) vs) i then r else null) ≡ row_under k (slice_index_or vs i None)
    by_value None e h = ap (λ b. if b then r else null) (none_valid (is_nullable_kind k) vs i l e (may h)) ∙ none ∙ sym (ap (row_under k) e)
    by_value (Some x) e h = ap (λ b. if b then r else null) (there_valid (is_nullable_kind k) vs i x l e) ∙ there x e h ∙ sym (ap (row_under k) e)

pub ruleset valid_values = (values_valid-nullable, values_valid-plain, values_valid-fits)

-- ---- truth values

truth_row : (m : Bool) (x : ScalarValue) → Fits (booleans m) (row_under (booleans m) (Some x)) → boolean (truth_in (Some x)) ≡ row_under (booleans m) (Some x)
truth_row m (value.Bool b) h = refl
truth_row m (value.Int z) h = absurd h
truth_row m (value.Bytes bs) h = absurd h
truth_row m (value.Text bs) h = absurd h
truth_row m (value.List rs) h = absurd h
truth_row m (value.Record rs) h = absurd h

truths_rows : {b : ℕ} (t : Tree) (m : Bool) (bits : List Bool) (v : Valid) (vs : List (Option ScalarValue)) → v ≡ values_valid m vs → t ≡ bools b bits v → bits ≡ map truth_in vs → ArePlainValues (booleans m) vs t
truths_rows t m bits v vs e a same =
    rw (a, e) (record {
      len = ap length same ∙ length-map vs truth_in;
      kind = ap booleans (values_valid-nullable m vs);
      plain = values_valid-plain m vs;
      state = refl;
      extent = refl;
      flag = refl;
      rows = λ i l fits.
          let bit : bool_at bits i ≡ truth_in (slice_index_or vs i None) = ap (λ (bs : List Bool). bool_at bs i) same ∙ get_or-map truth_in vs i None false l in
          row_of_value (booleans m) vs i (boolean (bool_at bits i)) l (λ x here h. ap boolean (bit ∙ ap truth_in here) ∙ truth_row m x h) refl (λ h. h) fits;
    })

pub truths_made : {b : ℕ} (t : Tree) (k : Kind) (bits : List Bool) (v : Valid) (vs : List (Option ScalarValue)) → k ≡ booleans (is_nullable_kind k) → v ≡ values_valid (is_nullable_kind k) vs → t ≡ bools b bits v → bits ≡ map truth_in vs → ArePlainValues k vs t
truths_made t k bits v vs kind e a same = subst (λ x. ArePlainValues x vs t) (sym kind) (truths_rows t (is_nullable_kind k) bits v vs e a same)

-- ---- numbers

number_row : (p : PType) (m : Bool) (x : ScalarValue) → Fits (integers p m) (row_under (integers p m) (Some x)) → whole (number_or_zero (Some x)) ≡ row_under (integers p m) (Some x)
number_row p m (value.Bool b) h = absurd h
number_row p m (value.Int z) h = refl
number_row p m (value.Bytes bs) h = absurd h
number_row p m (value.Text bs) h = absurd h
number_row p m (value.List rs) h = absurd h
number_row p m (value.Record rs) h = absurd h

pub numbers_made : (t : Tree) (k : Kind) (p : PType) (bs : List ℕ) (v : Valid) (vs : List (Option ScalarValue)) → k ≡ integers p (is_nullable_kind k) → v ≡ values_valid (is_nullable_kind k) vs → t ≡ primitive p bs v
    → numbers p bs ≡ map number_or_zero vs → ArePlainValues k vs t
numbers_made t k p bs v vs kind e a same = subst (λ x. ArePlainValues x vs t) (sym kind) (made (is_nullable_kind k) e)
  where
    made : (m : Bool) → v ≡ values_valid m vs → ArePlainValues (integers p m) vs t
    made m e =
        rw (a, e) (record {
          len = ap length same ∙ length-map vs number_or_zero;
          kind = ap (integers p) (values_valid-nullable m vs);
          plain = values_valid-plain m vs;
          state = refl;
          extent = refl;
          flag = refl;
          rows = λ i l fits.
              let number : number_nth (numbers p bs) i ≡ number_or_zero (slice_index_or vs i None) = ap (λ (zs : List ℤ). number_nth zs i) same ∙ get_or-map number_or_zero vs i None (pos 0) l in
              row_of_value (integers p m) vs i (whole (number_nth (numbers p bs) i)) l (λ x here h. ap whole (number ∙ ap number_or_zero here) ∙ number_row p m x h) refl (λ h. h) fits;
        })

-- ---- one value, over and over

named_there : (k : Kind) (x : ScalarValue) → is_present (named k (value_row x)) ≡ true
named_there (booleans n) (value.Bool b) = refl
named_there (booleans n) (value.Int z) = refl
named_there (booleans n) (value.Bytes b) = refl
named_there (booleans n) (value.Text b) = refl
named_there (booleans n) (value.List rs) = refl
named_there (booleans n) (value.Record rs) = refl
named_there (integers t n) (value.Bool b) = refl
named_there (integers t n) (value.Int z) = refl
named_there (integers t n) (value.Bytes b) = refl
named_there (integers t n) (value.Text b) = refl
named_there (integers t n) (value.List rs) = refl
named_there (integers t n) (value.Record rs) = refl
named_there (texts n) (value.Bool b) = refl
named_there (texts n) (value.Int z) = refl
named_there (texts n) (value.Bytes b) = refl
named_there (texts n) (value.Text b) = refl
named_there (texts n) (value.List rs) = refl
named_there (texts n) (value.Record rs) = refl
named_there (binaries n) (value.Bool b) = refl
named_there (binaries n) (value.Int z) = refl
named_there (binaries n) (value.Bytes b) = refl
named_there (binaries n) (value.Text b) = refl
named_there (binaries n) (value.List rs) = refl
named_there (binaries n) (value.Record rs) = refl
named_there (lists k n) (value.Bool b) = refl
named_there (lists k n) (value.Int z) = refl
named_there (lists k n) (value.Bytes b) = refl
named_there (lists k n) (value.Text b) = refl
named_there (lists k n) (value.List rs) = refl
named_there (lists k n) (value.Record rs) = refl
named_there (fixed_lists k size n) (value.Bool b) = refl
named_there (fixed_lists k size n) (value.Int z) = refl
named_there (fixed_lists k size n) (value.Bytes b) = refl
named_there (fixed_lists k size n) (value.Text b) = refl
named_there (fixed_lists k size n) (value.List rs) = refl
named_there (fixed_lists k size n) (value.Record rs) = refl
named_there (records names ks n) (value.Bool b) = refl
named_there (records names ks n) (value.Int z) = refl
named_there (records names ks n) (value.Bytes b) = refl
named_there (records names ks n) (value.Text b) = refl
named_there (records names ks n) (value.List rs) = refl
named_there (records names ks n) (value.Record rs) = refl

state_there : (b : Bool) (x : ScalarValue) → state_of (values_valid b (Some x ∷ [])) ≡ (if b then none_null else never_null)
state_there true x = refl
state_there false x = refl

state_none : (b : Bool) → b ≡ true → state_of (values_valid b (None ∷ [])) ≡ every_null
state_none true e = refl
state_none false e = cc

-- the state of one value is that of its row
state_of_one : (k : Kind) (v : Option ScalarValue) → Fits k (row_under k v) → state_of (values_valid (is_nullable_kind k) (v ∷ [])) ≡ row_state k (row_under k v)
state_of_one k None h =
    let may : is_nullable_kind k ≡ true = subst (Fits k) (named_null k) h in
    state_none (is_nullable_kind k) may ∙ sym (ap (row_state k) (named_null k))
state_of_one k (Some x) h = state_there (is_nullable_kind k) x ∙ sym (ap (λ b. if b then (if is_nullable_kind k then none_null else never_null) else every_null) (named_there k x))

-- one value in plain layout is a constant of one row in plain layout
pub one_canonical : (t : Tree) (k : Kind) (r : Row) (v : Option ScalarValue) → row_under k v ≡ r → Fits k r → is_even k ≡ true → ArePlainValues k (v ∷ []) t → IsCanonical (constant k r 1) t
one_canonical t k r v e fits even h =
    let here : Fits k (row_under k v) = subst (Fits k) (sym e) fits in
    record {
      same = record { len = h.len; kind = h.kind; rows = λ i l. only i l here };
      plain = h.plain;
      state = h.state ∙ state_of_one k v here ∙ ap (row_state k) e;
      extent = h.extent ∙ sym (rows_extent-named k (option_row v ∷ []) even) ∙ ap (λ x. rows_extent k (x ∷ [])) e;
      flag = h.flag;
      kept = tt;
    }
  where
    only : (i : ℕ) → i < 1 → Fits k (row_under k v) → row_at t i ≡ r
    only zero l here = h.rows 0 l here ∙ e
    only (suc i) l here = absurd (omega arith)

pub integers_kind : (k : Kind) → is_integers k ≡ true → k ≡ integers (integer_type k) (is_nullable_kind k)
integers_kind (booleans n) e = cc
integers_kind (integers t n) e = refl
integers_kind (texts n) e = cc
integers_kind (binaries n) e = cc
integers_kind (lists k n) e = cc
integers_kind (fixed_lists k size n) e = cc
integers_kind (records names ks n) e = cc
