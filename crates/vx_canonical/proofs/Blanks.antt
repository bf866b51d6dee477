-- Rows in plain layout of which only the validity is given.
use Rattle.std.proofs.Common.{ℕ, zero, suc, ◌<◌, ◌≡◌, Bool, true, false, List, [], ◌∷◌, length, map, replicate, Option, None, refl, sym, ◌∙◌, ap, subst, arith}
use Rattle.std.specs.Prelude.{pos, is_some, slice_index_or, ◌||◌, if◌then◌else◌}
use Rattle.std.specs.List.{filter}
use Rattle.std.proofs.Math.Bool.{or_self}
use Rattle.std.proofs.lemmas.List.{length-map, length-replicate, get_or-replicate}
use Rattle.vx_base.proofs.Repeated.{map_repeated}
use Rattle.vx_base.specs.declared.scalar_value.ScalarValue.{ScalarValue}
use Rattle.vx_base.specs.declared.ptypes.PType.{PType}
use Rattle.vx_base.specs.Integers.{numbers}
use Rattle.vx_base.specs.Kinds.{Kind, booleans, integers, lists, fixed_lists, texts, binaries, records, kind, is_nullable_kind, or_nullable, Fits}
use Rattle.vx_base.specs.Rows.{Row, null}
use Rattle.vx_base.specs.ValueRows.{option_row, row_under}
use Rattle.vx_views.specs.Views.{number_le, view_of}
use Rattle.vx_views.specs.Sound.{IsSoundView}
use Rattle.vx_tree.specs.Tree.{Tree, bools, primitive, constant, fixed_list, list_view, structure, view_array, Valid, non_nullable, all_invalid}
use Rattle.vx_tree.specs.Meaning.{kind_of, kinds_of, is_valid_at, nullable, trees_from, is_texts}
use Rattle.vx_tree.specs.Formed.{ValidFits, AllLen, IsStruct, WellFormed, column_count, value_kind}
use Rattle.vx_tree.specs.Plain.{IsPlain, ArePlain, IsPlainValid}
use Rattle.vx_tree.specs.Shapes.{state_of, tree_state, taken_state}
use Rattle.vx_tree.specs.Operations.{IsZeroes, IsValidityOf, IsValidNulls}
use Rattle.vx_canonical.specs.Canonical.{IsCanonical, IsCanonicalValid, IsBlank, IsBlankPart, AreBlankParts, IsPlainNulls}
use Rattle.vx_canonical.specs.PlainValues.{ArePlainValues, values_valid}
use Rattle.vx_tree.specs.Extents.{extent_of, extents_of, rows_extent, extent, fixed_list_extent, struct_extent}
use Rattle.vx_canonical.proofs.RowNames.{named_null}
use Rattle.vx_canonical.proofs.Kept.{rows_extent-nulls}
use Rattle.vx_canonical.proofs.Gathered.{none_where}
use Rattle.vx_canonical.proofs.CanonicalArrays.{same_nullable}
use Rattle.vx_tree.proofs.Nulled.{null_row, nullable_nulled}
use Rattle.vx_tree.proofs.Worked.{are_below, are_text}
use Rattle.vx_tree.proofs.ViewArrays.{empty_is_zeroes, kind_nulled}

-- null may stand here where it may there
abbrev pub MayHaveNulls : Tree → Valid → Type 0
MayHaveNulls t w = is_nullable_kind (kind_of t) ≡ true → nullable w ≡ true

covers : (a b : Bool) → (b ≡ true → a ≡ true) → a ≡ (a || b)
covers true b h = refl
covers false true h = h refl
covers false false h = refl

pub bools_blank : {a b : ℕ} (t r : Tree) (bits zeroes : List Bool) (v w : Valid) (n : ℕ) → t ≡ bools a bits v → r ≡ bools b zeroes w → MayHaveNulls t w → IsPlainValid w → length zeroes ≡ n → IsBlank (or_nullable (nullable w) (kind_of t)) (extent_of t) n w r
bools_blank t r bits zeroes v w n a b may p long =
    let c : nullable w ≡ (nullable w || nullable v) = covers (nullable w) (nullable v) (rw a at may) in
    rw (a, b) (record { len = long; kind = ap booleans c; plain = p; state = refl; extent = refl; flag = refl; nulls = λ i l. null_row (is_valid_at w i) _ })

pub numbers_blank : (t r : Tree) (p : PType) (bs zs : List ℕ) (v w : Valid) (n : ℕ) → t ≡ primitive p bs v → r ≡ primitive p zs w → MayHaveNulls t w → IsPlainValid w → numbers p zs ≡ map pos (replicate n 0)
    → IsBlank (or_nullable (nullable w) (kind_of t)) (extent_of t) n w r
numbers_blank t r p bs zs v w n a b may plain zeroes =
    let c : nullable w ≡ (nullable w || nullable v) = covers (nullable w) (nullable v) (rw a at may) in
    rw (a, b) (record {
      len = ap length zeroes ∙ length-map (replicate n 0) pos ∙ length-replicate {A = ℕ} n 0;
      kind = ap (integers p) c;
      plain = plain;
      state = refl;
      extent = refl;
      flag = refl;
      nulls = λ i l. null_row (is_valid_at w i) _;
    })

pub lists_blank : (t r e o s y z : Tree) (p q : PType) (f : Bool) (v w : Valid) (n : ℕ) → t ≡ list_view e o s v f → r ≡ list_view e y z w false → MayHaveNulls t w → IsPlain t → IsPlainValid w → IsZeroes p n y → IsZeroes q n z
    → IsBlank (or_nullable (nullable w) (kind_of t)) (extent_of t) n w r
lists_blank t r e o s y z p q f v w n a b may whole plain os ss =
    let c : nullable w ≡ (nullable w || nullable v) = covers (nullable w) (nullable v) (rw a at may) in
    let parts : IsPlain (list_view e o s v f) = rw a at whole in
    rw (a, b) (record {
      len = os.len;
      kind = ap (lists (kind_of e)) c;
      plain = (parts.0, os.plain, ss.plain, plain);
      state = refl;
      extent = refl;
      flag = refl;
      nulls = λ i l. null_row (is_valid_at w i) _;
    })

pub fixed_lists_blank : (t r e d : Tree) (size m h : ℕ) (v w : Valid) (n : ℕ) → t ≡ fixed_list e size v m → r ≡ fixed_list d size w n → MayHaveNulls t w → IsPlainValid w → IsBlankPart (kind_of e) (extent_of e) h d
    → IsBlank (or_nullable (nullable w) (kind_of t)) (extent_of t) n w r
fixed_lists_blank t r e d size m h v w n a b may plain x =
    let c : nullable w ≡ (nullable w || nullable v) = covers (nullable w) (nullable v) (rw a at may) in
    rw (a, b) (record {
      len = refl;
      kind = λ i. fixed_lists (x.kind i) size (c i);
      plain = (x.plain, plain);
      state = refl;
      extent = ap fixed_list_extent x.extent;
      flag = refl;
      nulls = λ i l. null_row (is_valid_at w i) _;
    })

pub ruleset blanks = (bools_blank, numbers_blank, lists_blank, fixed_lists_blank)

-- ---- records

blank_kinds : (ts : List Tree) (n : ℕ) (rs : List Tree) → AreBlankParts ts n rs → kinds_of (trees_from rs) ≡ kinds_of (trees_from ts)
blank_kinds [] n [] h = refl
blank_kinds [] n (r ∷ rs) h = absurd h
blank_kinds (t ∷ ts) n [] h = absurd h
blank_kinds (t ∷ ts) n (r ∷ rs) h = λ i. kind (h.0.kind i) (blank_kinds ts n rs h.1 i)

blank_plain : (ts : List Tree) (n : ℕ) (rs : List Tree) → AreBlankParts ts n rs → ArePlain (trees_from rs)
blank_plain [] n [] h = tt
blank_plain [] n (r ∷ rs) h = absurd h
blank_plain (t ∷ ts) n [] h = absurd h
blank_plain (t ∷ ts) n (r ∷ rs) h = (h.0.plain, blank_plain ts n rs h.1)

blank_extents : (ts : List Tree) (n : ℕ) (rs : List Tree) → AreBlankParts ts n rs → extents_of (trees_from rs) ≡ extents_of (trees_from ts)
blank_extents [] n [] h = refl
blank_extents [] n (r ∷ rs) h = absurd h
blank_extents (t ∷ ts) n [] h = absurd h
blank_extents (t ∷ ts) n (r ∷ rs) h = λ i. extent (h.0.extent i) (blank_extents ts n rs h.1 i)

blank_lens : (ts : List Tree) (n : ℕ) (rs : List Tree) → AreBlankParts ts n rs → AllLen n (trees_from rs)
blank_lens [] n [] h = tt
blank_lens [] n (r ∷ rs) h = absurd h
blank_lens (t ∷ ts) n [] h = absurd h
blank_lens (t ∷ ts) n (r ∷ rs) h = (h.0.len, blank_lens ts n rs h.1)

blank_count : (ts : List Tree) (n : ℕ) (rs : List Tree) → AreBlankParts ts n rs → column_count (trees_from ts) ≡ column_count (trees_from rs)
blank_count [] n [] h = refl
blank_count [] n (r ∷ rs) h = absurd h
blank_count (t ∷ ts) n [] h = absurd h
blank_count (t ∷ ts) n (r ∷ rs) h = omega (arith, blank_count ts n rs h.1)

pub blank_columns_fit : (names : List (List ℕ)) (ts : List Tree) (m n : ℕ) (rs : List Tree) → IsStruct names (trees_from ts) m → AreBlankParts ts n rs → IsStruct names (trees_from rs) n
blank_columns_fit names ts m n rs s h = record { named = s.named ∙ blank_count ts n rs h; lens = blank_lens ts n rs h }

pub struct_blank : (t r : Tree) (names : List (List ℕ)) (ts rs : List Tree) (v w : Valid) (m n : ℕ) → t ≡ structure names (trees_from ts) v m → r ≡ structure names (trees_from rs) w n → MayHaveNulls t w → IsPlainValid w
    → AreBlankParts ts n rs → IsBlank (or_nullable (nullable w) (kind_of t)) (extent_of t) n w r
struct_blank t r names ts rs v w m n a b may plain x =
    let c : nullable w ≡ (nullable w || nullable v) = covers (nullable w) (nullable v) (rw a at may) in
    rw (a, b) (record {
      len = refl;
      kind = λ i. records names (blank_kinds ts n rs x i) (c i);
      plain = (blank_plain ts n rs x, plain);
      state = refl;
      extent = ap struct_extent (blank_extents ts n rs x);
      flag = refl;
      nulls = λ i l. null_row (is_valid_at w i) _;
    })

-- ---- texts and byte lists

empty_sound : (buffers : List (List ℕ)) (u : Bool) → IsSoundView buffers u (replicate 16 0)
unfolding number_le are_below
empty_sound buffers u = record {
  resolves = λ long. absurd (omega arith);
  begins = λ long. absurd (omega arith);
  utf8 = λ on. are_text [] refl;
}

value_nullable : (u m : Bool) → is_nullable_kind (value_kind u m) ≡ m
value_nullable true m = refl
value_nullable false m = refl

pub views_blank_formed : (t : Tree) (vs bs : List (List ℕ)) (k : Kind) (v w : Valid) (n : ℕ) → t ≡ view_array vs bs k v → WellFormed (view_array vs bs k v) → MayHaveNulls t w → ValidFits w n
    → WellFormed (view_array (replicate n (view_of [] 0 0)) bs (or_nullable (nullable w) k) w)
views_blank_formed t vs bs k v w n a formed may fits =
    let ws = replicate n (view_of [] 0 0) in
    let j = or_nullable (nullable w) k in
    let long : length ws ≡ n = length-replicate {A = List ℕ} n (view_of [] 0 0) in
    let each : (i : ℕ) → i < length ws → slice_index_or ws i [] ≡ replicate 16 0 = λ i l. get_or-replicate n i (view_of [] 0 0) [] (rw long at l) ∙ empty_is_zeroes in
    let mine : is_nullable_kind k ≡ nullable v = ap is_nullable_kind formed.1.kind ∙ value_nullable (is_texts k) (nullable v) in
    let c : nullable w ≡ (nullable w || nullable v) = covers (nullable w) (nullable v) (λ h. may (ap (λ x. is_nullable_kind (kind_of x)) a ∙ mine ∙ h)) in (
      rw long fits,
      record {
        kind = kind_nulled k (nullable w) (nullable v) (nullable w) formed.1.kind c;
        sound = λ i l valid. subst (IsSoundView bs (is_texts j)) (sym (each i l)) (empty_sound bs (is_texts j));
        zeroes = λ i l none. each i l;
      },
    )

pub views_blank : (t r : Tree) (vs bs : List (List ℕ)) (k : Kind) (v w : Valid) (n : ℕ) → t ≡ view_array vs bs k v → r ≡ view_array (replicate n (view_of [] 0 0)) bs (or_nullable (nullable w) k) w → IsPlainValid w
    → IsBlank (or_nullable (nullable w) (kind_of t)) (extent_of t) n w r
views_blank t r vs bs k v w n a b plain =
    rw (a, b) (record {
      len = length-replicate {A = List ℕ} n (view_of [] 0 0);
      kind = refl;
      plain = plain;
      state = refl;
      extent = refl;
      flag = refl;
      nulls = λ i l. null_row (is_valid_at w i) _;
    })

-- ---- of a data type

pub or_nullable-own : (k : Kind) → or_nullable (is_nullable_kind k) k ≡ k
or_nullable-own (booleans m) = ap booleans (or_self m)
or_nullable-own (integers t m) = ap (integers t) (or_self m)
or_nullable-own (texts m) = ap texts (or_self m)
or_nullable-own (binaries m) = ap binaries (or_self m)
or_nullable-own (lists k m) = ap (lists k) (or_self m)
or_nullable-own (fixed_lists k size m) = ap (fixed_lists k size) (or_self m)
or_nullable-own (records names ks m) = ap (records names ks) (or_self m)

-- rows like no values
pub blank_of_none : (k : Kind) (t r : Tree) (v : Valid) (n : ℕ) → nullable v ≡ is_nullable_kind k → ArePlainValues k [] t → IsBlank (or_nullable (nullable v) (kind_of t)) (extent_of t) n v r → IsBlank k (rows_extent k []) n v r
blank_of_none k t r v n may x h =
    record {
      len = h.len;
      kind = h.kind ∙ ap (or_nullable (nullable v)) x.kind ∙ ap (λ b. or_nullable b k) may ∙ or_nullable-own k;
      plain = h.plain;
      state = h.state;
      extent = h.extent ∙ x.extent;
      flag = h.flag;
      nulls = h.nulls;
    }

-- ---- rows of null

or_twice : (b m : Bool) → ((b || m) || m) ≡ (b || m)
or_twice true m = refl
or_twice false m = or_self m

or_nullable-either : (b : Bool) (k : Kind) → or_nullable (b || is_nullable_kind k) k ≡ or_nullable b k
or_nullable-either b (booleans m) = ap booleans (or_twice b m)
or_nullable-either b (integers t m) = ap (integers t) (or_twice b m)
or_nullable-either b (texts m) = ap texts (or_twice b m)
or_nullable-either b (binaries m) = ap binaries (or_twice b m)
or_nullable-either b (lists k m) = ap (lists k) (or_twice b m)
or_nullable-either b (fixed_lists k size m) = ap (fixed_lists k size) (or_twice b m)
or_nullable-either b (records names ks m) = ap (records names ks) (or_twice b m)

-- null may stand where it may among the indices or in the array
nulls_nullable : (t : Tree) (x u w y : Valid) (n : ℕ) → IsValidityOf t x → IsValidNulls x u n w → IsCanonicalValid w n y → nullable y ≡ (nullable u || is_nullable_kind (kind_of t))
nulls_nullable t x u w y n valid nulls plain = same_nullable w y plain.state ∙ nullable_nulled x u w nulls.state ∙ ap (λ b. nullable u || b) valid.kind

pub nulls_may : (t : Tree) (x u w y : Valid) (n : ℕ) → IsValidityOf t x → IsValidNulls x u n w → IsCanonicalValid w n y → MayHaveNulls t y
nulls_may t x u w y n valid nulls plain may = nulls_nullable t x u w y n valid nulls plain ∙ ap (λ b. nullable u || b) may ∙ either_true (nullable u)
  where
    either_true : (b : Bool) → (b || true) ≡ true
    either_true true = refl
    either_true false = refl

pub nulls_made : (t r : Tree) (x u w y : Valid) (n : ℕ) → IsValidityOf t x → IsValidNulls x u n w → IsCanonicalValid w n y → IsBlank (or_nullable (nullable y) (kind_of t)) (extent_of t) n y r
    → IsPlainNulls (or_nullable (nullable u) (kind_of t)) (extent_of t) n (taken_state (tree_state t) (state_of u)) r
nulls_made t r x u w y n valid nulls plain h =
    record {
      len = h.len;
      kind = h.kind ∙ ap (λ b. or_nullable b (kind_of t)) (nulls_nullable t x u w y n valid nulls plain) ∙ or_nullable-either (nullable u) (kind_of t);
      plain = h.plain;
      state = h.state ∙ plain.state ∙ nulls.state ∙ ap (λ s. taken_state s (state_of u)) valid.state;
      extent = h.extent;
      flag = h.flag;
      rows = λ i l. h.nulls i l (plain.bits i l ∙ nulls.bits i l);
    }

-- where null fits a kind, it may stand
pub null_fits : (k : Kind) (r : Row) → Fits k r → r ≡ null → is_nullable_kind k ≡ true
null_fits k r fits e = subst (Fits k) e fits

-- rows of null made of zeroes are a constant of null in plain layout
pub null_canonical : (k : Kind) (n : ℕ) (r : Tree) → is_nullable_kind k ≡ true → IsBlank k (rows_extent k []) n all_invalid r → IsCanonical (constant k null n) r
null_canonical k n r may h =
    record {
      same = record { len = h.len; kind = h.kind; rows = λ i l. h.nulls i l refl };
      plain = h.plain;
      state = h.state;
      extent = h.extent ∙ sym (rows_extent-nulls k 1);
      flag = h.flag;
      kept = tt;
    }

pub ruleset null_rows = (null_canonical, null_fits)

-- ---- rows of no value

missing_state : (b : Bool) (n : ℕ) → 0 < n → state_of (if b then all_invalid else non_nullable) ≡ state_of (values_valid b (replicate n None))
missing_state false n h = refl
missing_state true n h = ap state_of (sym (none_where (replicate n None) (rw (length-replicate {A = Option ScalarValue} n None) h) (none_there n)))
  where
    none_there : (n : ℕ) → length (filter {X = Option ScalarValue} is_some (replicate n None)) ≡ 0
    none_there zero = refl
    none_there (suc n) = none_there n

pub nullable-missing : (b : Bool) → nullable (if b then all_invalid else non_nullable) ≡ b
nullable-missing true = refl
nullable-missing false = refl

pub missing_may : (t : Tree) (v : Valid) → v ≡ (if is_nullable_kind (kind_of t) then all_invalid else non_nullable) → MayHaveNulls t v
missing_may t v e may = ap nullable e ∙ nullable-missing (is_nullable_kind (kind_of t)) ∙ may

pub missing_plain : (b : Bool) (v : Valid) → v ≡ (if b then all_invalid else non_nullable) → IsPlainValid v
missing_plain true v e = rw e tt
missing_plain false v e = rw e tt

pub missing_made : (k : Kind) (n : ℕ) (t r : Tree) (v : Valid) → 0 < n → v ≡ (if is_nullable_kind k then all_invalid else non_nullable) → ArePlainValues k [] t → IsBlank (or_nullable (nullable v) (kind_of t)) (extent_of t) n v r
    → ArePlainValues k (replicate n None) r
missing_made k n t r v some e x h =
    let may : nullable v ≡ is_nullable_kind k = ap nullable e ∙ nullable-missing (is_nullable_kind k) in
    record {
      len = h.len ∙ sym (length-replicate {A = Option ScalarValue} n None);
      kind = h.kind ∙ ap (or_nullable (nullable v)) x.kind ∙ ap (λ b. or_nullable b k) may ∙ or_nullable-own k;
      plain = h.plain;
      state = h.state ∙ ap state_of e ∙ missing_state (is_nullable_kind k) n some;
      extent = h.extent ∙ x.extent ∙ sym (ap (rows_extent k) (map_repeated option_row None n) ∙ rows_extent-nulls k n);
      flag = h.flag;
      rows = λ i l fits.
          let inside : i < n = rw (length-replicate {A = Option ScalarValue} n None) at l in
          let here : slice_index_or (replicate n None) i None ≡ None = get_or-replicate {A = Option ScalarValue} n i None None inside in
          let stands : is_nullable_kind k ≡ true = null_fits k (row_under k None) (subst (λ o. Fits k (row_under k o)) here fits) (named_null k) in
          h.nulls i inside (ap (λ w. is_valid_at w i) (e ∙ ap (λ b. if b then all_invalid else non_nullable) stands))
          ∙ sym (ap (row_under k) here ∙ named_null k);
    }

pub ruleset missing = (missing_may, missing_plain, missing_made)
