-- Arrays of items.
use Rattle.std.proofs.Common.{ℕ, ◌<◌, ◌≤◌, ◌^◌, ◌≡◌, Bool, true, false, cond, eqb, List, [], length, map, replicate, take, Option, Some, None, refl, sym, ◌∙◌, ap, subst, inl, inr, ◌⊎◌, zero-add, arith}
use Rattle.std.specs.Prelude.{IsTrue, IsUtf8, slice_index_or, if◌then◌else◌, count_by, nat_le}
use Rattle.std.specs.Option.{is_some}
use Rattle.std.specs.Str.{is_utf8}
use Rattle.std.proofs.lemmas.Bool.{cases_Bool, cases_lt, leb-true}
use Rattle.std.proofs.lemmas.List.{length-map, get_or-map, take-append-le}
use Rattle.std.proofs.lemmas.List.FromFn.{get_or-map-range_with_len}
use Rattle.std.proofs.lemmas.Str.{IsUtf8-from_is_utf8}
use Rattle.vx_base.specs.Bits.{bool_at}
use Rattle.vx_base.specs.Kinds.{Kind, is_nullable_kind}
use Rattle.vx_base.specs.Rows.{null}
use Rattle.vx_base.specs.Refusals.{mismatched_types, not_utf8, value_too_long}
use Rattle.vx_base.specs.declared.errors.VortexError.{VortexError}
use Rattle.vx_base.specs.declared.errors.VortexError.TheVariants.{Memory}
use Rattle.vx_base.proofs.FirstFaults.{or_else-none, first_fault-none_at}
use Rattle.vx_views.specs.Faulty.{text_fault}
use Rattle.vx_views.specs.Sound.{IsSoundView}
use Rattle.vx_views.specs.Views.{view_of, view_value, view_size, view_prefix, padded, prefix_of}
use Rattle.vx_views.specs.declared.view.TheConstants.{MAX_INLINED_SIZE, MAX_BUFFER_LEN}
use Rattle.vx_views.proofs.FirstFaults.{if-none}
use Rattle.vx_views.proofs.Places.{ReadsAs, view_of_short, size_of_inlined, prefix_of_view}
use Rattle.vx_tree.specs.Tree.{Tree, bools, view_array, Valid, non_nullable, all_valid, all_invalid, by_array}
use Rattle.vx_tree.specs.Meaning.{is_valid_at, is_texts, nullable, value_row, row_at}
use Rattle.vx_tree.specs.Formed.{ValidFits, WellFormed, value_kind}
use Rattle.vx_tree.specs.Validities.{valid_from}
use Rattle.vx_tree.proofs.Validities.{valid_from-mask}
use Rattle.vx_tree.proofs.ViewArrays.{empty_is_zeroes}
use Rattle.vx_tree.proofs.Worked.{are_below, are_text}
use Rattle.vx_text.specs.TextFaults.{is_values, value_type_fault}
use Rattle.vx_text.proofs.TextParts.{kind_of_values}
use Rattle.vx_text.specs.Collected.{IsFirstFaulty, AreTooMany, AreRefused}
use Rattle.vx_text.specs.Items.{Item, item_at, value_of, valid_items, item_row, item_fault, items_fault, AreCut, IsArrayOf}

-- ---- items without a fault

pub record IsFaultless (u n : Bool) (item : Item) : Type 0 where
  pub there : n ≡ false → is_some item ≡ true
  pub short : length (value_of item) ≤ MAX_BUFFER_LEN
  pub text : IsTrue u → IsUtf8 (value_of item)

is_text : (u : Bool) (value : List ℕ) (row : ℕ) → text_fault u value row ≡ None → IsTrue u → IsUtf8 value
is_text u value row none on = elim (cases_Bool (is_utf8 value)) [
  | inl e ↦ IsUtf8-from_is_utf8 value e
  | inr e ↦ let stands : text_fault u value row ≡ Some (not_utf8 row) = rw (on, e) refl in absurd (cc)
]

pub faultless : (u n : Bool) (row : ℕ) (item : Item) → item_fault u n row item ≡ None → IsFaultless u n item
unfolding are_below
faultless u n row None none = record {
  there = λ plain. let possible = if-none n _ none in absurd (cc);
  short = omega arith;
  text = λ on. are_text [] refl;
}
faultless u n row (Some value) none =
    let faults = or_else-none (if nat_le (length value) MAX_BUFFER_LEN then None else Some (value_too_long row)) (text_fault u value row) none in record {
      there = λ plain. refl;
      short = leb-true (length value) MAX_BUFFER_LEN (if-none (nat_le (length value) MAX_BUFFER_LEN) _ faults.0);
      text = is_text u value row faults.1;
    }

pub faultless_at : (u n : Bool) (items : List Item) → items_fault u n items ≡ None → (i : ℕ) → i < length items → IsFaultless u n (item_at items i)
faultless_at u n items none i l = faultless u n i (item_at items i) (first_fault-none_at (λ k. item_fault u n k (item_at items k)) (length items) i none l)

-- ---- which items are there

valid_from-has : (P : Valid → Type 0) (bits : List Bool) → P all_valid → P all_invalid → P (by_array (bools 0 bits non_nullable)) → P (valid_from 0 bits all_valid)
valid_from-has P bits full none told = by_count (eqb (count_by (λ b. b) bits) (length bits)) (eqb (count_by (λ b. b) bits) 0)
  where
    by_count : (a b : Bool) → P (cond a all_valid (cond b all_invalid (by_array (bools 0 bits non_nullable))))
    by_count true b = full
    by_count false true = none
    by_count false false = told

items_fit : (n : Bool) (present : List Bool) (len : ℕ) → length present ≡ len → ValidFits (valid_items n present) len
items_fit false present len e = tt
items_fit true present len e = valid_from-has (λ v. ValidFits v len) present tt tt (record { len = e; kind = refl })

items_nullable : (n : Bool) (present : List Bool) → nullable (valid_items n present) ≡ n
items_nullable false present = refl
items_nullable true present = valid_from-has (λ v. nullable v ≡ true) present refl refl refl

valid_item : (n : Bool) (items : List Item) (i : ℕ) → i < length items → (n ≡ false → is_some (item_at items i) ≡ true) → is_valid_at (valid_items n (map is_some items)) i ≡ is_some (item_at items i)
valid_item false items i l there = sym (there refl)
valid_item true items i l there =
    let bits = map is_some items in
    sym (get_or-map-range_with_len (is_valid_at (valid_from 0 bits all_valid)) 0 (length bits) i i false (omega (arith, length-map items is_some)) (zero-add i))
    ∙ ap (λ (bs : List Bool). bool_at bs i) (valid_from-mask 0 bits true) ∙ get_or-map is_some items i None false l

-- ---- sound views

prefix_long : (v : List ℕ) → MAX_INLINED_SIZE < length v → prefix_of v ≡ take 4 v
unfolding padded
prefix_long v long = take-append-le 4 v (replicate 4 0) (omega arith)

size_long : (v : List ℕ) (b o : ℕ) → length v < 2 ^ 32 → MAX_INLINED_SIZE < view_size (view_of v b o) → MAX_INLINED_SIZE < length v
size_long v b o small long = by_length (cases_lt MAX_INLINED_SIZE (length v))
  where
    by_length : (MAX_INLINED_SIZE < length v) ⊎ (length v ≤ MAX_INLINED_SIZE) → MAX_INLINED_SIZE < length v
    by_length (inl h) = h
    by_length (inr h) = let same : view_size (view_of v b o) ≡ length v = ap view_size (view_of_short v b o h) ∙ size_of_inlined v small in absurd (omega (arith, same, long, h))

-- the view of a value that it reads is sound
pub sound_view : (buffers : List (List ℕ)) (u : Bool) (v view : List ℕ) (b o : ℕ) → view ≡ view_of v b o → length v < 2 ^ 32 → ReadsAs buffers view v → (IsTrue u → IsUtf8 v) → IsSoundView buffers u view
sound_view buffers u v view b o is small r utf8 = record {
  resolves = r.resolves;
  begins = λ long.
      let size : MAX_INLINED_SIZE < view_size (view_of v b o) = rw is at long in
      ap view_prefix is ∙ prefix_of_view v b o ∙ prefix_long v (size_long v b o small size) ∙ ap (take 4) (sym r.reads);
  utf8 = λ on. subst IsUtf8 (sym r.reads) (utf8 on);
}

-- ---- the array

no_value : (item : Item) → is_some item ≡ false → value_of item ≡ []
no_value None e = refl
no_value (Some value) e = cc

-- the view of no bytes
pub empty_view : (v : List ℕ) (b o : ℕ) → v ≡ [] → view_of v b o ≡ replicate 16 0
empty_view v b o e = ap (λ w. view_of w b o) e ∙ view_of_short [] b o (omega arith) ∙ sym (view_of_short [] 0 0 (omega arith)) ∙ empty_is_zeroes

pub items_formed : (k : Kind) (items : List Item) (views buffers : List (List ℕ)) → k ≡ value_kind (is_texts k) (is_nullable_kind k) → items_fault (is_texts k) (is_nullable_kind k) items ≡ None → AreCut items buffers views
    → WellFormed (view_array views buffers k (valid_items (is_nullable_kind k) (map is_some items)))
items_formed k items views buffers kind none c =
    let n = is_nullable_kind k in
    let present = map is_some items in (
      items_fit n present (length views) (length-map items is_some ∙ sym c.one_each),
      record {
        kind = kind ∙ ap (value_kind (is_texts k)) (sym (items_nullable n present));
        sound = λ i l valid.
            let here : i < length items = rw c.one_each at l in
            let f = faultless_at (is_texts k) n items none i here in
            sound_view buffers (is_texts k) (value_of (item_at items i)) (slice_index_or views i []) _ _ (c.each i here) (omega (arith, f.short)) (record { resolves = c.resolve i here; reads = c.read i here }) f.text;
        zeroes = λ i l null.
            let here : i < length items = rw c.one_each at l in
            let f = faultless_at (is_texts k) n items none i here in
            let empty = no_value (item_at items i) (sym (valid_item n items i here f.there) ∙ null) in
            c.each i here ∙ empty_view (value_of (item_at items i)) _ _ empty;
      },
    )

row_of_item : (b u : Bool) (buffers : List (List ℕ)) (view : List ℕ) (item : Item) → b ≡ is_some item → view_value buffers view ≡ value_of item → (if b then value_row u (view_value buffers view) else null) ≡ item_row u item
row_of_item b u buffers view None e r = rw e refl
row_of_item b u buffers view (Some value) e r = rw (e, r) refl

pub items_array : (k : Kind) (items : List Item) (views buffers : List (List ℕ)) (a : Tree) → items_fault (is_texts k) (is_nullable_kind k) items ≡ None → AreCut items buffers views
    → a ≡ view_array views buffers k (valid_items (is_nullable_kind k) (map is_some items)) → IsArrayOf k items a
items_array k items views buffers a none c e = record {
  views = views;
  buffers = buffers;
  parts = c;
  tree = e;
  rows = λ i l.
      let f = faultless_at (is_texts k) (is_nullable_kind k) items none i l in
      ap (λ t. row_at t i) e ∙ row_of_item (is_valid_at (valid_items (is_nullable_kind k) (map is_some items)) i) (is_texts k) buffers (slice_index_or views i []) (item_at items i) (valid_item (is_nullable_kind k) items i l f.there) (c.read i l);
}

pub items_made : (k : Kind) (items : List Item) (views buffers : List (List ℕ)) (v : Valid) → is_values k ≡ true → items_fault (is_texts k) (is_nullable_kind k) items ≡ None → AreCut items buffers views
    → v ≡ valid_items (is_nullable_kind k) (map is_some items) → WellFormed (view_array views buffers k v)
items_made k items views buffers v values none c e =
    subst (λ w. WellFormed (view_array views buffers k w)) (sym e) (items_formed k items views buffers (kind_of_values k (is_nullable_kind k) values refl) none c)

pub no_type_fault : (k : Kind) → is_values k ≡ true → value_type_fault k ≡ None
no_type_fault k values = ap (λ (b : Bool). if b then None else Some mismatched_types) values

-- what refuses items of a kind that has values
pub refused_items : {S A : Type 0} (steps : S → Option A → S → Type 0) (s : S) (item : A → Item) (k : Kind) (e : VortexError) → value_type_fault k ≡ None
    → (e ≡ Memory) ⊎ IsFirstFaulty steps s item k e ⊎ AreTooMany steps s item k e → AreRefused steps s item k e
refused_items steps s item k e values (inl memory) = inl memory
refused_items steps s item k e values (inr refused) = inr (inr (values, refused))
