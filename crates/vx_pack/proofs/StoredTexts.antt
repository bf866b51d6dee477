-- Texts and byte lists by their views: what the views of a part say of its rows.
use Rattle.std.proofs.Common.{◌≡◌, ◌∙◌, ◌+◌, ◌-◌, ◌<◌, ◌≤◌, ◌↔◌, ℕ, Bool, true, false, List, [], length, map, replicate, drop, get_or, sym, ap, subst, refl, inl, inr, arith}
use Rattle.std.specs.Prelude.{IsTrue, Some, slice_range, slice_index_or, if◌then◌else◌}
use Rattle.std.specs.List.{range_with_len}
use Rattle.std.proofs.lemmas.Bool.{cases_Bool}
use Rattle.std.proofs.lemmas.List.{get_or-map, get_or-take, get_or-drop, get_or_default, length-map}
use Rattle.std.proofs.lemmas.List.FromFn.{fill_by_all}
use Rattle.std.proofs.lemmas.Simd.{map-map}
use Rattle.vx_base.proofs.ListParts.{length_part}
use Rattle.vx_base.specs.Kinds.{Kind, texts, binaries, Fits}
use Rattle.vx_base.specs.Rows.{Row, null, bytes, text}
use Rattle.vx_views.specs.Views.{number_le, view_size, view_value, Resolves}
use Rattle.vx_views.specs.declared.view.TheConstants.{MAX_BUFFER_LEN}
use Rattle.vx_tree.specs.Formed.{WellFormed}
use Rattle.vx_tree.specs.Meaning.{is_texts, is_valid_at, row_at, tree_len, value_row}
use Rattle.vx_tree.specs.Tree.{Tree, Valid, view_array}
use Rattle.vx_tree.specs.Values.{bytes_in}
use Rattle.vx_text.specs.Items.{value_of}
use Rattle.vx_pack.specs.Packed.{has_bytes}
use Rattle.vx_pack.specs.Parts.{AreSameBy, IsPart, part_len, part_row}
use Rattle.vx_pack.specs.StoredTexts.{AreFullTexts, AreStoredTexts, AreValuesIn, IsRangeOf, bytes_or_empty, stored_value, stored_view}
use Rattle.vx_pack.specs.declared.parts.Part.{Part}
use Rattle.vx_pack.specs.declared.pieces.Piece.TheVariants.{Rows}
use Rattle.vx_pack.specs.declared.stored_texts.StoredTexts.{StoredTexts}

-- ---- the view of no bytes

no_size : view_size (replicate 16 0) ≡ 0
unfolding number_le
no_size = refl

no_value : (bs : List (List ℕ)) → view_value bs (replicate 16 0) ≡ []
unfolding number_le
no_value bs = refl

empty_resolves : (bs : List (List ℕ)) (view : List ℕ) → view ≡ replicate 16 0 → Resolves bs view
empty_resolves bs view e = λ long. absurd (omega (arith, long, ap view_size e, no_size))

-- ---- one row

bytes_of_value : (u : Bool) (x : List ℕ) → bytes_in (value_row u x) ≡ Some x
bytes_of_value true x = refl
bytes_of_value false x = refl

resolves_at : (views bs : List (List ℕ)) (h : Kind) (v : Valid) (i : ℕ) → WellFormed (view_array views bs h v) → i < length views
    → Resolves bs (slice_index_or views i [])
resolves_at views bs h v i formed l = elim (cases_Bool (is_valid_at v i)) [
  | inl valid ↦ (formed.1.sound i l valid).resolves
  | inr none ↦ empty_resolves bs (slice_index_or views i []) (formed.1.zeroes i l none)
]

full_at : (views bs : List (List ℕ)) (h : Kind) (v : Valid) (i : ℕ) → is_valid_at v i ≡ true
    → bytes_in (row_at (view_array views bs h v) i) ≡ Some (view_value bs (slice_index_or views i []))
full_at views bs h v i valid =
    let x = view_value bs (slice_index_or views i []) in
    ap (λ (b : Bool). bytes_in (if b then value_row (is_texts h) x else null)) valid ∙ bytes_of_value (is_texts h) x

read_at : (views bs : List (List ℕ)) (h : Kind) (v : Valid) (i : ℕ) → WellFormed (view_array views bs h v) → i < length views
    → bytes_or_empty (row_at (view_array views bs h v) i) ≡ view_value bs (slice_index_or views i [])
read_at views bs h v i formed l = elim (cases_Bool (is_valid_at v i)) [
  | inl valid ↦ ap value_of (full_at views bs h v i valid)
  | inr none ↦
      ap (λ (b : Bool). bytes_or_empty (if b then value_row (is_texts h) (view_value bs (slice_index_or views i [])) else null)) none
      ∙ sym (ap (view_value bs) (formed.1.zeroes i l none) ∙ no_value bs)
]

-- ---- a part of an array

-- a part of the views
view_part : (views : List (List ℕ)) (from len i : ℕ) → i < len → slice_index_or (slice_range views from (from + len)) i [] ≡ slice_index_or views (from + i) []
view_part views from len i l =
    let size : from + len - from ≡ len = omega arith in
    rw size (get_or-take len (drop from views) i [] l ∙ get_or-drop from views i [])

pub stored_texts_of : (a : Tree) (views bs : List (List ℕ)) (h : Kind) (v : Valid) (start n : ℕ) (p : Part) (s : StoredTexts)
    → a ≡ view_array views bs h v → WellFormed (view_array views bs h v) → start + n ≤ tree_len a
    → s.views.now ≡ slice_range views start (start + n) → s.buffers.now ≡ bs
    → (IsTrue s.is_full → (i : ℕ) → is_valid_at v i ≡ true) → part_len p ≡ n
    → ((k : Kind) (i : ℕ) → part_row k p i ≡ row_at a (start + i)) → AreStoredTexts p s
stored_texts_of a views bs h v start n p s same formed within cut buffers full len rows =
    let inside : start + n ≤ length views = rw same at within in
    let size : start + n - start ≡ n = omega arith in
    let long : length s.views.now ≡ n = ap length cut ∙ length_part views start (start + n) (omega arith) inside ∙ size in
    let view : (i : ℕ) → i < n → stored_view s i ≡ slice_index_or views (start + i) [] =
    λ i l. ap (λ (vs : List (List ℕ)). slice_index_or vs i []) cut ∙ view_part views start n i l in
    let value : (i : ℕ) → i < n → stored_value s i ≡ view_value bs (slice_index_or views (start + i) []) =
    λ i l. (λ j. view_value (buffers j) (view i l j)) in
    let row : (k : Kind) (i : ℕ) → part_row k p i ≡ row_at (view_array views bs h v) (start + i) =
    λ k i. rows k i ∙ ap (λ (x : Tree). row_at x (start + i)) same in
    record {
      count = long ∙ sym len;
      resolve = λ i l.
          let here : i < n = rw long at l in
          subst (λ w. Resolves s.buffers.now w) (sym (view i here))
          (subst (λ xs. Resolves xs (slice_index_or views (start + i) [])) (sym buffers)
          (resolves_at views bs h v (start + i) formed (omega (arith, here, inside))));
      rows = λ k i l.
          let here : i < n = rw len at l in
          ap bytes_or_empty (row k i) ∙ read_at views bs h v (start + i) formed (omega (arith, here, inside)) ∙ sym (value i here);
      full = λ yes k i l.
          let here : i < n = rw len at l in
          ap bytes_in (row k i) ∙ full_at views bs h v (start + i) (full yes (start + i)) ∙ ap Some (sym (value i here));
    }

-- ---- a part of the texts

pub texts_range : (s t : StoredTexts) (start n : ℕ) → start + n ≤ length s.views.now
    → t.views.now ≡ slice_range s.views.now start (start + n) → t.buffers.now ≡ s.buffers.now → IsRangeOf s start n t
texts_range s t start n inside cut buffers =
    let size : start + n - start ≡ n = omega arith in
    let long : length t.views.now ≡ n = ap length cut ∙ length_part s.views.now start (start + n) (omega arith) inside ∙ size in
    let view : (i : ℕ) → i < n → stored_view t i ≡ stored_view s (start + i) =
    λ i l. ap (λ (vs : List (List ℕ)). slice_index_or vs i []) cut ∙ view_part s.views.now start n i l in
    record {
      count = long;
      values = λ i l. (λ j. view_value (buffers j) (view i l j));
      resolve = λ all i l.
          let here : i < n = rw long at l in
          subst (λ w. Resolves t.buffers.now w) (sym (view i here))
          (subst (λ xs. Resolves xs (stored_view s (start + i))) (sym buffers) (all (start + i) (omega (arith, here, inside))));
    }

-- ---- the values of a piece

-- a row that fits is no longer than a buffer may be
pub bytes_short : (k : Kind) (r : Row) → has_bytes k ≡ true → Fits k r → length (bytes_or_empty r) ≤ MAX_BUFFER_LEN
bytes_short (texts n) null values fits = omega arith
bytes_short (texts n) (text bs) values fits = fits.1
bytes_short (texts n) _ values fits = absurd fits
bytes_short (binaries n) null values fits = omega arith
bytes_short (binaries n) (bytes bs) values fits = fits.1
bytes_short (binaries n) _ values fits = absurd fits
bytes_short _ r values fits = absurd (cc)

pub values_of_part : (k : Kind) (p : Part) (s : StoredTexts) → AreStoredTexts p s → has_bytes k ≡ true → IsPart k p → AreValuesIn k (Rows p) s
values_of_part k p s stored values part =
    let n = part_len p in
    let read = map (view_value s.buffers.now) s.views.now in
    let long : length read ≡ n = length-map s.views.now (view_value s.buffers.now) ∙ stored.count in
    record {
      resolve = stored.resolve;
      short = λ i l.
          let here : i < n = rw stored.count at l in
          subst (λ x. length x ≤ MAX_BUFFER_LEN) (stored.rows k i here) (bytes_short k (part_row k p i) values (part.fits i here));
      values =
          map-map bytes_or_empty (part_row k p) (range_with_len 0 n)
          ∙ sym (fill_by_all (λ i. bytes_or_empty (part_row k p i)) read n [] long (λ i l.
          get_or-map (view_value s.buffers.now) s.views.now i [] [] (omega (arith, l, stored.count)) ∙ sym (stored.rows k i l)));
    }

-- ---- two parts

pub same_by_values : (a b : Part) (s t : StoredTexts) (r : Bool) → AreFullTexts a s → AreFullTexts b t → part_len b ≡ part_len a
    → (IsTrue r ↔ ((i : ℕ) → i < length s.views.now → stored_value s i ≡ stored_value t i))
    → (k : Kind) → IsTrue r ↔ AreSameBy bytes_in k a b
same_by_values a b s t r first second len told k = (
  (λ yes i l.
      first.rows k i l ∙ ap Some (told.0 yes i (omega (arith, l, first.count)))
      ∙ sym (second.rows k i (omega (arith, l, len)))),
  (λ same. told.1 (λ i l.
      let here : i < part_len a = omega (arith, l, first.count) in
      let found : Some (stored_value s i) ≡ Some (stored_value t i) =
      sym (first.rows k i here) ∙ same i here ∙ second.rows k i (omega (arith, here, len)) in
      cc)),
)

-- what is read of a view is the value of the row
pub stored_value_read : (s : StoredTexts) (i : ℕ) (view value : List ℕ) → i < length s.views.now
    → value ≡ view_value s.buffers.now (get_or s.views.now i view) → value ≡ stored_value s i
stored_value_read s i view value inside is = is ∙ ap (view_value s.buffers.now) (get_or_default s.views.now i view [] inside)
