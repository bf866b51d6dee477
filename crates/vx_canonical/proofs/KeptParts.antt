-- What values keep in plain layout, where no row stands.
use Rattle.std.proofs.Common.{ℕ, suc, ◌+◌, ◌<◌, ◌≡◌, Bool, true, false, List, [], ◌∷◌, ◌++◌, length, map, take, drop, Option, None, refl, sym, ◌∙◌, ap, subst, arith}
use Rattle.std.specs.Prelude.{slice_index_or, if◌then◌else◌}
use Rattle.std.specs.List.{All, flat_map}
use Rattle.std.proofs.lemmas.List.{length-take-le}
use Rattle.std.proofs.lemmas.List.Elements.{All-nil}
use Rattle.vx_base.specs.declared.scalar_value.ScalarValue.{ScalarValue}
use Rattle.vx_base.specs.declared.dtypes.DType.{DType}
use Rattle.vx_base.proofs.Defaults.{take_push}
use Rattle.vx_base.proofs.StructKinds.{from_place}
use Rattle.vx_base.specs.Refusals.{Refusal, or_else}
use Rattle.vx_base.specs.Defaults.{is_even}
use Rattle.vx_base.specs.DTypes.{dtype_meaning, kinds_of as dtype_kinds}
use Rattle.vx_base.specs.Kinds.{Kind, booleans, integers, texts, binaries, lists, fixed_lists, records, kind, is_nullable_kind, or_nullable}
use Rattle.vx_base.specs.Rows.{Row, null, boolean, whole, bytes, text, items, record_of}
use Rattle.vx_base.specs.ValueRows.{option_row, row_under}
use Rattle.vx_tree.specs.Tree.{Tree, constant, fixed_list, structure, Valid, non_nullable, all_invalid}
use Rattle.vx_tree.specs.Meaning.{kind_of, kinds_of, nullable, trees_from}
use Rattle.vx_tree.specs.Formed.{AllLen, IsStruct, ValidFits, WellFormed, column_count}
use Rattle.vx_tree.specs.Plain.{ArePlain}
use Rattle.vx_tree.specs.Shapes.{state_of, row_state}
use Rattle.vx_tree.specs.RowParts.{field_in, items_in}
use Rattle.vx_tree.specs.Extents.{extent_of, extents_of, rows_extent, fields_extents, extent, fixed_list_extent, struct_extent}
use Rattle.vx_canonical.specs.PlainValues.{ArePlainValues, FitsIfThere, FitsNamed}
use Rattle.vx_tree.specs.CanonicalFaults.{kept_fault, kept_fields_fault, rows_fault}
use Rattle.vx_canonical.specs.Canonical.{AreKeptFields, IsBlank, IsBlankPart, IsCanonical}
use Rattle.vx_canonical.proofs.Blanks.{missing_plain, nullable-missing, or_nullable-own}
use Rattle.vx_canonical.proofs.Counted.{row_extent, sized_extent}
use Rattle.vx_canonical.proofs.Kept.{no_rows_countable}
use Rattle.vx_canonical.proofs.PlainParts.{all_named_rows, all_there, fit_each, items_fit}

-- ---- kinds whose rows need what they keep alone

abbrev pub needs_kept : Kind → Bool
needs_kept (fixed_lists k size m) = false
needs_kept (records names ks m) = false
needs_kept _ = true

pub needs_kept-fault : (k : Kind) (rs : List Row) → needs_kept k ≡ true → rows_fault k rs ≡ kept_fault k rs
needs_kept-fault (booleans m) rs e = refl
needs_kept-fault (integers t m) rs e = refl
needs_kept-fault (texts m) rs e = refl
needs_kept-fault (binaries m) rs e = refl
needs_kept-fault (lists k m) rs e = refl
needs_kept-fault (fixed_lists k size m) rs e = cc
needs_kept-fault (records names ks m) rs e = cc

pub rows_kept : (k : Kind) (vs : List (Option ScalarValue)) (t r : Tree) → ArePlainValues k vs t → IsBlankPart (kind_of t) (extent_of t) 0 r → IsBlankPart k (rows_extent k (map option_row vs)) 0 r
rows_kept k vs t r x h = record { len = h.len; kind = h.kind ∙ x.kind; plain = h.plain; extent = h.extent ∙ x.extent }

-- ---- lists of one size

sized_items_fit : (k : Kind) (size : ℕ) (m : Bool) (r : Row) → FitsNamed (fixed_lists k size m) r → All (FitsNamed k) (items_in r)
sized_items_fit k size m null h = All-nil (FitsNamed k)
sized_items_fit k size m (boolean b) h = absurd h
sized_items_fit k size m (whole z) h = absurd h
sized_items_fit k size m (bytes bs) h = absurd h
sized_items_fit k size m (text bs) h = absurd h
sized_items_fit k size m (items rs) h = items_fit k rs h.1
sized_items_fit k size m (record_of fs) h = absurd h

pub kept_items_fit : (k : Kind) (size : ℕ) (m : Bool) (vs ws : List (Option ScalarValue)) → map option_row ws ≡ flat_map items_in (map option_row vs) → All (FitsIfThere (fixed_lists k size m)) vs → All (FitsIfThere k) ws
kept_items_fit k size m vs ws e all =
    all_there k ws (flat_map items_in (map option_row vs)) e
    (fit_each (FitsNamed (fixed_lists k size m)) (FitsNamed k) items_in (sized_items_fit k size m) (map option_row vs) (all_named_rows (fixed_lists k size m) vs all))

missing_fits : (b : Bool) (v : Valid) (n : ℕ) → v ≡ (if b then all_invalid else non_nullable) → ValidFits v n
missing_fits true v n e = rw e tt
missing_fits false v n e = rw e tt

pub lists_kept_formed : (e : Tree) (k : Kind) (size : ℕ) (m : Bool) (v : Valid) (rs : List Row) → v ≡ (if m then all_invalid else non_nullable) → IsBlankPart k (rows_extent k rs) 0 e → WellFormed (fixed_list e size v 0)
lists_kept_formed e k size m v rs valid x = (missing_fits m v 0 valid, x.len ∙ omega arith)

pub lists_kept : (t e : Tree) (k : Kind) (size : ℕ) (m : Bool) (v : Valid) (rs qs : List Row) → v ≡ (if m then all_invalid else non_nullable) → qs ≡ flat_map items_in rs → IsBlankPart k (rows_extent k qs) 0 e → t ≡ fixed_list e size v 0
    → IsBlankPart (fixed_lists k size m) (rows_extent (fixed_lists k size m) rs) 0 t
lists_kept t e k size m v rs qs valid same x a =
    rw a (record {
      len = refl;
      kind = λ i. fixed_lists (x.kind i) size ((ap nullable valid ∙ nullable-missing m) i);
      plain = (x.plain, missing_plain m v valid);
      extent =
          ap fixed_list_extent (x.extent ∙ ap (rows_extent k) same ∙ sized_extent k size rs);
    })

-- ---- records

AreKeptFields-push : (c : ℕ) (ds : List DType) (d : DType) (rs : List Row) (ts : List Tree) (t : Tree) → AreKeptFields c ds rs ts → IsBlankPart (dtype_meaning d) (rows_extent (dtype_meaning d) (map (field_in (c + length ds)) rs)) 0 t
    → AreKeptFields c (ds ++ d ∷ []) rs (ts ++ t ∷ [])
AreKeptFields-push c [] d rs [] t h x = (subst (λ n. IsBlankPart (dtype_meaning d) (rows_extent (dtype_meaning d) (map (field_in n) rs)) 0 t) {x = c + 0} {y = c} (omega arith) x, tt)
AreKeptFields-push c [] d rs (u ∷ ts) t h x = absurd h
AreKeptFields-push c (e ∷ ds) d rs [] t h x = absurd h
AreKeptFields-push c (e ∷ ds) d rs (u ∷ ts) t h x =
    (h.0, AreKeptFields-push (suc c) ds d rs ts t h.1 (subst (λ n. IsBlankPart (dtype_meaning d) (rows_extent (dtype_meaning d) (map (field_in n) rs)) 0 t) {x = c + suc (length ds)} {y = suc c + length ds} (omega arith) x))

pub AreKeptFields-next : (ds : List DType) (i : ℕ) (d : DType) (rs qs : List Row) (ts us : List Tree) (t : Tree) → AreKeptFields 0 (take i ds) rs ts → i < length ds → d ≡ slice_index_or ds i d → qs ≡ map (field_in i) rs
    → IsBlankPart (dtype_meaning d) (rows_extent (dtype_meaning d) qs) 0 t → us ≡ ts ++ t ∷ [] → AreKeptFields 0 (take (i + 1) ds) rs us
AreKeptFields-next ds i d rs qs ts us t h l here same x e =
    let place : i ≡ 0 + length (take i ds) = omega (arith, length-take-le i ds (omega arith)) in
    let mine = subst (λ ps. IsBlankPart (dtype_meaning d) (rows_extent (dtype_meaning d) ps) 0 t) (same ∙ ap (λ n. map (field_in n) rs) place) x in
    let pushed = AreKeptFields-push 0 (take i ds) d rs ts t h mine in
    subst (λ es. AreKeptFields 0 es rs us) (sym (take_push ds i d l here)) (subst (λ vs. AreKeptFields 0 (take i ds ++ d ∷ []) rs vs) (sym e) pushed)

pub kept_fields_fault-next : (ds : List DType) (i : ℕ) (d : DType) (rs qs : List Row) (all : Option Refusal) → kept_fields_fault (dtype_kinds (drop i ds)) i rs ≡ all → i < length ds → d ≡ slice_index_or ds i d → qs ≡ map (field_in i) rs
    → kept_fault (dtype_meaning d) qs ≡ None → kept_fields_fault (dtype_kinds (drop (i + 1) ds)) (i + 1) rs ≡ all
kept_fields_fault-next ds i d rs qs all h inside here same none =
    sym (ap (λ (xs : List DType). kept_fields_fault (dtype_kinds xs) i rs) (from_place ds i d inside here)
    ∙ (λ j. or_else ((ap (kept_fault (dtype_meaning d)) (sym same) ∙ none) j) (kept_fields_fault (dtype_kinds (drop (i + 1) ds)) (suc i) rs))
    ∙ ap (λ n. kept_fields_fault (dtype_kinds (drop (i + 1) ds)) n rs) {x = suc i} {y = i + 1} (omega arith))
    ∙ h

kept_kinds : (c : ℕ) (ds : List DType) (rs : List Row) (ts : List Tree) → AreKeptFields c ds rs ts → kinds_of (trees_from ts) ≡ dtype_kinds ds
kept_kinds c [] rs [] h = refl
kept_kinds c [] rs (t ∷ ts) h = absurd h
kept_kinds c (d ∷ ds) rs [] h = absurd h
kept_kinds c (d ∷ ds) rs (t ∷ ts) h = λ i. kind (h.0.kind i) (kept_kinds (suc c) ds rs ts h.1 i)

kept_plain : (c : ℕ) (ds : List DType) (rs : List Row) (ts : List Tree) → AreKeptFields c ds rs ts → ArePlain (trees_from ts)
kept_plain c [] rs [] h = tt
kept_plain c [] rs (t ∷ ts) h = absurd h
kept_plain c (d ∷ ds) rs [] h = absurd h
kept_plain c (d ∷ ds) rs (t ∷ ts) h = (h.0.plain, kept_plain (suc c) ds rs ts h.1)

kept_extents : (c : ℕ) (ds : List DType) (rs : List Row) (ts : List Tree) → AreKeptFields c ds rs ts → extents_of (trees_from ts) ≡ fields_extents (dtype_kinds ds) c rs
kept_extents c [] rs [] h = refl
kept_extents c [] rs (t ∷ ts) h = absurd h
kept_extents c (d ∷ ds) rs [] h = absurd h
kept_extents c (d ∷ ds) rs (t ∷ ts) h = λ i. extent (h.0.extent i) (kept_extents (suc c) ds rs ts h.1 i)

kept_lens : (c : ℕ) (ds : List DType) (rs : List Row) (ts : List Tree) → AreKeptFields c ds rs ts → AllLen 0 (trees_from ts)
kept_lens c [] rs [] h = tt
kept_lens c [] rs (t ∷ ts) h = absurd h
kept_lens c (d ∷ ds) rs [] h = absurd h
kept_lens c (d ∷ ds) rs (t ∷ ts) h = (h.0.len, kept_lens (suc c) ds rs ts h.1)

kept_count : (c : ℕ) (ds : List DType) (rs : List Row) (ts : List Tree) → AreKeptFields c ds rs ts → length ds ≡ column_count (trees_from ts)
kept_count c [] rs [] h = refl
kept_count c [] rs (t ∷ ts) h = absurd h
kept_count c (d ∷ ds) rs [] h = absurd h
kept_count c (d ∷ ds) rs (t ∷ ts) h = omega (arith, kept_count (suc c) ds rs ts h.1)

pub records_kept_formed : (names : List (List ℕ)) (ds : List DType) (m : Bool) (v : Valid) (rs : List Row) (ts : List Tree) → v ≡ (if m then all_invalid else non_nullable) → length names ≡ length ds → AreKeptFields 0 ds rs ts
    → ValidFits v 0 × IsStruct names (trees_from ts) 0
records_kept_formed names ds m v rs ts valid same x = (missing_fits m v 0 valid, record { named = same ∙ kept_count 0 ds rs ts x; lens = kept_lens 0 ds rs ts x })

pub records_kept : (t : Tree) (names : List (List ℕ)) (ds : List DType) (m : Bool) (v : Valid) (rs : List Row) (ts : List Tree) → v ≡ (if m then all_invalid else non_nullable) → AreKeptFields 0 ds rs ts → t ≡ structure names (trees_from ts) v 0
    → IsBlankPart (records names (dtype_kinds ds) m) (rows_extent (records names (dtype_kinds ds) m) rs) 0 t
records_kept t names ds m v rs ts valid x a =
    rw a (record {
      len = refl;
      kind = λ i. records names (kept_kinds 0 ds rs ts x i) ((ap nullable valid ∙ nullable-missing m) i);
      plain = (kept_plain 0 ds rs ts x, missing_plain m v valid);
      extent = ap struct_extent (kept_extents 0 ds rs ts x);
    })

-- ---- of one value

-- with a validity of its state they are a constant of no rows in plain layout
pub none_canonical : (k : Kind) (r : Row) (v : Option ScalarValue) (t a : Tree) (w : Valid) → row_under k v ≡ r → is_even k ≡ true → state_of w ≡ row_state k r → nullable w ≡ is_nullable_kind k → IsBlankPart k (rows_extent k (map option_row (v ∷ []))) 0 t
    → IsBlank (or_nullable (nullable w) (kind_of t)) (extent_of t) 0 w a → IsCanonical (constant k r 0) a
none_canonical k r v t a w e even state may x h =
    record {
      same = record {
        len = h.len;
        kind = h.kind ∙ (λ i. or_nullable (may i) (x.kind i)) ∙ or_nullable-own k;
        rows = λ i l. absurd (omega arith);
      };
      plain = h.plain;
      state = h.state ∙ state;
      extent = h.extent ∙ x.extent ∙ row_extent k v r e even;
      flag = h.flag;
      kept = tt;
    }

pub ruleset kept_rows = (rows_kept, no_rows_countable)
