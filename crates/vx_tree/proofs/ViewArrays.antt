-- Texts and byte lists by their views: sliced, selected, with other nulls.
use Rattle.std.proofs.Common.{ℕ, ◌+◌, ◌-◌, ◌<◌, ◌≡◌, Bool, true, false, List, [], ◌∷◌, ◌++◌, length, map, replicate, get_or, refl, sym, ◌∙◌, ap, subst, zero-add, arith}
use Rattle.std.specs.Prelude.{count_by, slice_index, slice_index_or, ◌||◌, ◌&&◌, if◌then◌else◌, Some, None}
use Rattle.std.specs.List.{range_with_len}
use Rattle.std.proofs.lemmas.List.{get_or-map, length-map, length-replicate, get_or-replicate, get_or_append_left, get_or-append_right, get_or_default}
use Rattle.std.proofs.lemmas.List.FromFn.{length-map-range_with_len, get_or-map-range_with_len, fill_by_all}
use borrow.Author.Count.{below_more}
use Rattle.vx_base.specs.Bits.{bool_at}
use Rattle.vx_base.proofs.MaskCounts.{all_false_from_count}
use Rattle.vx_base.specs.Rows.{Row, null, bytes, text}
use Rattle.vx_base.specs.declared.scalar_value.ScalarValue.{ScalarValue}
use Rattle.vx_base.specs.ValueRows.{named, option_row, row_under}
use Rattle.vx_base.specs.Kinds.{Kind, booleans, integers, texts, binaries, lists, fixed_lists, records, or_nullable}
use Rattle.vx_base.specs.Selections.{item_of_position}
use Rattle.vx_views.specs.Views.{view_of, view_value, inlined_view, padded, Resolves}
use Rattle.vx_views.specs.Sound.{IsSoundView}
use Rattle.vx_views.proofs.FaultyViews.{all_true-at}
use Rattle.vx_tree.specs.Tree.{Tree, view_array, Valid}
use Rattle.vx_tree.specs.Layouts.{is_view_array}
use Rattle.vx_tree.specs.Values.{bytes_in}
use Rattle.vx_tree.specs.Meaning.{kind_of, row_at, is_valid_at, nullable, is_texts, value_row, valid_mask}
use Rattle.vx_tree.proofs.Needs.{views_need}
use Rattle.vx_tree.specs.Shapes.{state_of, view_shape}
use Rattle.vx_tree.specs.Formed.{ValidFits, ValidReads, ValidReads-from_fits, WellFormed, value_kind}
use Rattle.vx_tree.specs.Fitting.{AllFormed}
use Rattle.vx_tree.specs.Operations.{IsSelected, IsValidSelected, IsNulled, IsValidNulled, IsNulls, IsValidNulls, AreBelow, valid_view}
use Rattle.vx_tree.proofs.Nulled.{nullable_nulled}

-- ---- kinds

-- texts stay texts where null may stand too
is_texts-or_nullable : (c : Bool) (k : Kind) → is_texts (or_nullable c k) ≡ is_texts k
is_texts-or_nullable c (booleans n) = refl
is_texts-or_nullable c (integers t n) = refl
is_texts-or_nullable c (texts n) = refl
is_texts-or_nullable c (binaries n) = refl
is_texts-or_nullable c (lists k n) = refl
is_texts-or_nullable c (fixed_lists k size n) = refl
is_texts-or_nullable c (records names ks n) = refl

or_nullable-value_kind : (c u n : Bool) → or_nullable c (value_kind u n) ≡ value_kind u (c || n)
or_nullable-value_kind c true n = refl
or_nullable-value_kind c false n = refl

pub kind_nulled : (k : Kind) (c n m : Bool) → k ≡ value_kind (is_texts k) n → m ≡ (c || n) → or_nullable c k ≡ value_kind (is_texts (or_nullable c k)) m
kind_nulled k c n m e h =
    ap (or_nullable c) e ∙ or_nullable-value_kind c (is_texts k) n ∙ ap (value_kind (is_texts k)) (sym h) ∙ ap (λ b. value_kind b m) (sym (is_texts-or_nullable c k))

-- ---- some rows, by their positions

-- n views, each that of a position, with the validity of those rows
pub record AreRowsOf (vs : List (List ℕ)) (v : Valid) (p : ℕ → ℕ) (n : ℕ) (ws : List (List ℕ)) (w : Valid) : Type 0 where
  pub len : length ws ≡ n
  pub fits : ValidFits w n
  pub kind : nullable w ≡ nullable v
  pub state : state_of w ≡ state_of v
  pub within : (i : ℕ) → i < n → p i < length vs
  pub views : (i : ℕ) → i < n → slice_index_or ws i [] ≡ slice_index_or vs (p i) []
  pub bits : (i : ℕ) → i < n → is_valid_at w i ≡ is_valid_at v (p i)

-- a view is sound wherever it stands
pub rows_formed : (vs bs ws : List (List ℕ)) (k : Kind) (v w : Valid) (p : ℕ → ℕ) (n : ℕ) → AreRowsOf vs v p n ws w → WellFormed (view_array vs bs k v) → WellFormed (view_array ws bs k w)
rows_formed vs bs ws k v w p n a formed = (
  rw a.len a.fits,
  record {
    kind = formed.1.kind ∙ ap (value_kind (is_texts k)) (sym a.kind);
    sound = λ i l valid.
        let here : i < n = rw a.len at l in
        subst (IsSoundView bs (is_texts k)) (sym (a.views i here)) (formed.1.sound (p i) (a.within i here) (sym (a.bits i here) ∙ valid));
    zeroes = λ i l none.
        let here : i < n = rw a.len at l in
        a.views i here ∙ formed.1.zeroes (p i) (a.within i here) (sym (a.bits i here) ∙ none);
  },
)

view_row : (bs : List (List ℕ)) (k : Kind) (vs ws : List (List ℕ)) (v w : Valid) (i j : ℕ) → is_valid_at w i ≡ is_valid_at v j → slice_index_or ws i [] ≡ slice_index_or vs j []
    → row_at (view_array ws bs k w) i ≡ row_at (view_array vs bs k v) j
view_row bs k vs ws v w i j a b = rw (a, b) refl

pub selected_rows : (vs ws : List (List ℕ)) (v w : Valid) (ps : List ℕ) → ws ≡ map (item_of_position [] vs) ps → AreBelow (length vs) ps → IsValidSelected v ps w
    → AreRowsOf vs v (slice_index ps) (length ps) ws w
selected_rows vs ws v w ps e below h =
    record {
      len = ap length e ∙ length-map ps (item_of_position [] vs);
      fits = h.fits;
      kind = h.kind;
      state = h.state;
      within = λ i l. below i 0 l;
      views = λ i l. ap (λ (xs : List (List ℕ)). slice_index_or xs i []) e ∙ get_or-map (item_of_position [] vs) ps i 0 [] l;
      bits = h.bits;
    }

pub views_selected : (t u : Tree) (vs bs ws : List (List ℕ)) (k : Kind) (v w : Valid) (ps : List ℕ) → t ≡ view_array vs bs k v → u ≡ view_array ws bs k w → AreRowsOf vs v (slice_index ps) (length ps) ws w
    → IsValidSelected v ps w → IsSelected t ps u
views_selected t u vs bs ws k v w ps a b r h =
    rw (a, b) (record {
      len = r.len;
      kind = refl;
      shape = ap (view_shape bs) r.state;
      plain = h.plain;
      needs = views_need vs ws bs k k v w;
      rows = λ i l. view_row bs k vs ws v w i (slice_index ps i) (r.bits i l) (r.views i l);
    })

-- ---- other nulls

-- the view of no bytes is 16 zero bytes
pub empty_is_zeroes : view_of [] 0 0 ≡ replicate 16 0
unfolding inlined_view padded
empty_is_zeroes = refl

-- the views of the rows that stay, 16 zero bytes for the others
pub record AreValidViews (vs : List (List ℕ)) (w : Valid) (ws : List (List ℕ)) : Type 0 where
  pub len : length ws ≡ length vs
  pub views : (i : ℕ) → i < length vs → slice_index_or ws i [] ≡ (if is_valid_at w i then slice_index_or vs i [] else replicate 16 0)

pub valid_views_made : (vs ws : List (List ℕ)) (w : Valid) → ws ≡ map (valid_view vs (valid_mask w (length vs))) (range_with_len 0 (length vs)) → AreValidViews vs w ws
valid_views_made vs ws w e =
    let mask = valid_mask w (length vs) in
    record {
      len = ap length e ∙ length-map-range_with_len (valid_view vs mask) 0 (length vs);
      views = λ i l.
          let bit : bool_at mask i ≡ is_valid_at w i = get_or-map-range_with_len (is_valid_at w) 0 (length vs) i i false l (zero-add i) in
          ap (λ (xs : List (List ℕ)). slice_index_or xs i []) e ∙ get_or-map-range_with_len (valid_view vs mask) 0 (length vs) i i [] l (zero-add i)
          ∙ ap (λ (b : Bool). if b then slice_index_or vs i [] else replicate 16 0) bit;
    }

-- one view more is added
pub view_pushed : (f : ℕ → List ℕ) (xs : List (List ℕ)) (n : ℕ) (y : List ℕ) → length xs ≡ n → ((i : ℕ) → i < n → slice_index_or xs i [] ≡ f i) → y ≡ f n
    → (i : ℕ) → i < n + 1 → slice_index_or (xs ++ y ∷ []) i [] ≡ f i
view_pushed f xs n y long h here =
    below_more (λ i. get_or (xs ++ y ∷ []) i [] ≡ f i) n (λ i l. get_or_append_left xs (y ∷ []) [] i (omega (arith, long, l)) ∙ h i l)
    (get_or-append_right xs (y ∷ []) n n [] long (omega arith) ∙ ap (λ k. get_or (y ∷ []) k []) {x = n - n} {y = 0} (omega arith) ∙ here)

pub kept_view : (vs : List (List ℕ)) (mask : List Bool) (row : ℕ) (y : List ℕ) → row < length vs → bool_at mask row ≡ true → y ≡ slice_index_or vs row y → y ≡ valid_view vs mask row
kept_view vs mask row y l h e = e ∙ get_or_default vs row y [] l ∙ sym (ap (λ (b : Bool). if b then slice_index_or vs row [] else replicate 16 0) h)

pub zero_view : (vs : List (List ℕ)) (mask : List Bool) (row : ℕ) (y : List ℕ) → bool_at mask row ≡ false → y ≡ view_of [] 0 0 → y ≡ valid_view vs mask row
zero_view vs mask row y h e = e ∙ empty_is_zeroes ∙ sym (ap (λ (b : Bool). if b then slice_index_or vs row [] else replicate 16 0) h)

-- a mask that is all true keeps the views
pub all_kept : (vs : List (List ℕ)) (mask : List Bool) → length mask ≡ length vs → count_by (λ b. b) mask ≡ length mask → vs ≡ map (valid_view vs mask) (range_with_len 0 (length vs))
all_kept vs mask long all =
    fill_by_all (valid_view vs mask) vs (length vs) [] refl (λ i l. sym (ap (λ (b : Bool). if b then slice_index_or vs i [] else replicate 16 0) (all_true-at mask i all (omega arith))))

-- a mask that is nowhere true keeps none
pub none_kept : (vs : List (List ℕ)) (mask : List Bool) → length mask ≡ length vs → count_by (λ b. b) mask ≡ 0 → replicate (length vs) (view_of [] 0 0) ≡ map (valid_view vs mask) (range_with_len 0 (length vs))
none_kept vs mask long none =
    let zeroes = replicate (length vs) (view_of [] 0 0) in
    fill_by_all (valid_view vs mask) zeroes (length vs) [] (length-replicate (length vs) (view_of [] 0 0)) (λ i l.
    get_or-replicate (length vs) i (view_of [] 0 0) [] l
    ∙ zero_view vs mask i (view_of [] 0 0) (ap (λ (bits : List Bool). bool_at bits i) (all_false_from_count mask none) ∙ get_or-replicate (length mask) i false false (omega (arith, long, l))) refl)

both_true : (a b c : Bool) → a ≡ (b && c) → a ≡ true → b ≡ true
both_true a true c e h = refl
both_true a false c e h = let f : false ≡ true = sym e ∙ h in cc

pub nulled_formed : (vs bs ws : List (List ℕ)) (k : Kind) (v u w : Valid) → WellFormed (view_array vs bs k v) → IsValidNulled v u (length vs) w → AreValidViews vs w ws
    → WellFormed (view_array ws bs (or_nullable (nullable u) k) w)
nulled_formed vs bs ws k v u w formed h a = (
  rw a.len h.fits,
  record {
    kind = kind_nulled k (nullable u) (nullable v) (nullable w) formed.1.kind (nullable_nulled v u w h.state);
    sound = λ i l valid.
        let here : i < length vs = rw a.len at l in
        let was : is_valid_at v i ≡ true = both_true (is_valid_at w i) (is_valid_at v i) (is_valid_at u i) (h.bits i here) valid in
        let same : slice_index_or ws i [] ≡ slice_index_or vs i [] = a.views i here ∙ ap (λ (b : Bool). if b then slice_index_or vs i [] else replicate 16 0) valid in
        subst (λ view. IsSoundView bs (is_texts (or_nullable (nullable u) k)) view) (sym same) (subst (λ b. IsSoundView bs b (slice_index_or vs i [])) (sym (is_texts-or_nullable (nullable u) k)) (formed.1.sound i here was));
    zeroes = λ i l none.
        let here : i < length vs = rw a.len at l in
        a.views i here ∙ ap (λ (b : Bool). if b then slice_index_or vs i [] else replicate 16 0) none;
  },
)

-- a row under two validities
two : (a b c : Bool) (r s : Row) → a ≡ (b && c) → (a ≡ true → s ≡ r) → (if a then s else null) ≡ (if c then (if b then r else null) else null)
two true true true r s e same = same refl
two true true false r s e same = cc
two true false c r s e same = cc
two false true true r s e same = cc
two false true false r s e same = refl
two false false true r s e same = refl
two false false false r s e same = refl

pub views_nulled : (t r : Tree) (vs bs ws : List (List ℕ)) (k : Kind) (v u w : Valid) → t ≡ view_array vs bs k v → r ≡ view_array ws bs (or_nullable (nullable u) k) w
    → IsValidNulled v u (length vs) w → AreValidViews vs w ws → IsNulled t u r
views_nulled t r vs bs ws k v u w a b h made =
    rw (a, b) (record {
      len = made.len;
      kind = refl;
      shape = ap (view_shape bs) h.state;
      plain = h.plain;
      extent = refl;
      needs = λ p. views_need vs ws bs k (or_nullable (nullable u) k) v w;
      rows = λ i l. two (is_valid_at w i) (is_valid_at v i) (is_valid_at u i) (value_row (is_texts k) (view_value bs (slice_index_or vs i []))) (value_row (is_texts (or_nullable (nullable u) k)) (view_value bs (slice_index_or ws i []))) (h.bits i l)
          (λ valid. ap (λ c. value_row c (view_value bs (slice_index_or ws i []))) (is_texts-or_nullable (nullable u) k)
          ∙ ap (λ (view : List ℕ). value_row (is_texts k) (view_value bs view)) (made.views i l ∙ ap (λ (c : Bool). if c then slice_index_or vs i [] else replicate 16 0) valid));
    })

-- ---- rows of null

pub nulls_formed : (vs bs ws : List (List ℕ)) (k : Kind) (v u w : Valid) (n : ℕ) → WellFormed (view_array vs bs k v) → ws ≡ replicate n (view_of [] 0 0) → IsValidNulls v u n w
    → WellFormed (view_array ws bs (or_nullable (nullable u) k) w)
nulls_formed vs bs ws k v u w n formed e h =
    let long : length ws ≡ n = ap length e ∙ length-replicate {A = List ℕ} n (view_of [] 0 0) in (
      rw long h.fits,
      record {
        kind = kind_nulled k (nullable u) (nullable v) (nullable w) formed.1.kind (nullable_nulled v u w h.state);
        sound = λ i l valid. let never : true ≡ false = sym valid ∙ h.bits i (rw long at l) in absurd (cc);
        zeroes = λ i l none. ap (λ (xs : List (List ℕ)). slice_index_or xs i []) e ∙ get_or-replicate n i (view_of [] 0 0) [] (rw long at l) ∙ empty_is_zeroes;
      },
    )

null_row : (b : Bool) (r : Row) → b ≡ false → (if b then r else null) ≡ null
null_row b r e = rw e refl

pub views_nulls : (t r : Tree) (vs bs ws : List (List ℕ)) (k : Kind) (v u w : Valid) (n : ℕ) → t ≡ view_array vs bs k v → r ≡ view_array ws bs (or_nullable (nullable u) k) w
    → ws ≡ replicate n (view_of [] 0 0) → IsValidNulls v u n w → IsNulls t n u r
views_nulls t r vs bs ws k v u w n a b e h =
    rw (a, b) (record {
      len = ap length e ∙ length-replicate {A = List ℕ} n (view_of [] 0 0);
      kind = refl;
      shape = ap (view_shape bs) h.state;
      rows = λ i l. null_row (is_valid_at w i) _ (h.bits i l);
    })

-- ---- one row

-- the view of a valid row resolves
pub view_resolves : (vs bs : List (List ℕ)) (k : Kind) (v : Valid) (i : ℕ) → WellFormed (view_array vs bs k v) → i < length vs → is_valid_at v i ≡ true → Resolves bs (slice_index_or vs i [])
view_resolves vs bs k v i formed l valid = (formed.1.sound i l valid).resolves

pub view_reads_valid : (vs bs : List (List ℕ)) (k : Kind) (v : Valid) (i : ℕ) → WellFormed (view_array vs bs k v) → i < length vs → ValidReads v i
view_reads_valid vs bs k v i formed l = ValidReads-from_fits v (length vs) i formed.0 l

pub ruleset view_reads = (view_resolves, view_reads_valid)

-- a row that is valid is its value
pub valid_row : (t : Tree) (vs bs : List (List ℕ)) (k : Kind) (v : Valid) (i : ℕ) (view value : List ℕ) → t ≡ view_array vs bs k v → is_valid_at v i ≡ true → view ≡ slice_index_or vs i [] → value ≡ view_value bs view
    → bytes_in (row_at t i) ≡ Some value
valid_row t vs bs k v i view value a valid b e =
    rw a (ap (λ (c : Bool). bytes_in (if c then value_row (is_texts k) (view_value bs (slice_index_or vs i [])) else null)) valid ∙ bytes_of (is_texts k) (view_value bs (slice_index_or vs i []))
    ∙ ap Some (ap (view_value bs) (sym b) ∙ sym e))
  where
    bytes_of : (u : Bool) (x : List ℕ) → bytes_in (value_row u x) ≡ Some x
    bytes_of true x = refl
    bytes_of false x = refl

-- texts and byte lists hold no records to be named
named_value : (k : Kind) (u n : Bool) (r : Row) → k ≡ value_kind u n → named k r ≡ r
named_value k true n r e = rw e refl
named_value k false n r e = rw e refl

row_of_bytes : (valid u : Bool) (x value : List ℕ) → bytes_in (if valid then value_row u x else null) ≡ Some value → value_row u value ≡ (if valid then value_row u x else null)
row_of_bytes true true x value e = let h : value ≡ x = cc in ap text h
row_of_bytes true false x value e = let h : value ≡ x = cc in ap bytes h
row_of_bytes false u x value e = cc

pub view_value_found : (t : Tree) (i : ℕ) (value : List ℕ) (s : ScalarValue) → is_view_array t ≡ true → AllFormed t → bytes_in (row_at t i) ≡ Some value → option_row (Some s) ≡ value_row (is_texts (kind_of t)) value
    → row_under (kind_of t) (Some s) ≡ row_at t i
view_value_found (view_array vs bs k v) i value s e formed found same =
    named_value k (is_texts k) (nullable v) (option_row (Some s)) formed.0.1.kind ∙ same ∙ row_of_bytes (is_valid_at v i) (is_texts k) (view_value bs (slice_index_or vs i [])) value found
view_value_found _ i value s e formed found same = cc

pub view_value_none : (t : Tree) (i : ℕ) → is_view_array t ≡ true → AllFormed t → row_at t i ≡ null → row_under (kind_of t) None ≡ row_at t i
view_value_none (view_array vs bs k v) i e formed none = named_value k (is_texts k) (nullable v) null formed.0.1.kind ∙ sym none
view_value_none _ i e formed none = cc
