-- Views that are decided by whole buffers, those that are checked alone, and how many these are.
use Rattle.std.proofs.Common.{◌≡◌, ℕ, zero, suc, ◌+◌, ◌-◌, ◌<◌, ◌≤◌, ◌↔◌, ◌&&◌, ◌||◌, Bool, true, false, cond, ◌∙◌, sym, ap, refl, inl, inr, List, [], ◌∷◌, ◌++◌, zero-add, add-zero, length, get_or, take, drop, arith}
use Rattle.std.specs.Prelude.{IsTrue, IsUtf8, count_by, nat_le, slice_range}
use Rattle.std.specs.List.{list_any, range_with_len}
use Rattle.std.specs.Int.{from_bool}
use Rattle.std.specs.Str.{is_utf8, IsAscii}
use Rattle.std.proofs.lemmas.Bool.{cases_Bool, false≢true, le-leb, lt-leb, leb-false}
use Rattle.std.proofs.lemmas.List.{get_or_default, append_assoc, append-nil, drop_all, drop_more, take_all}
use Rattle.std.proofs.lemmas.List.Folds.{list_any_none}
use Rattle.std.proofs.lemmas.List.FromFn.{length-range_with_len, get_or-range_with_len}
use Rattle.std.proofs.lemmas.List.Sums.{count_by_more_yes, count_by_more_no}
use Rattle.std.proofs.lemmas.Str.{IsUtf8-from_is_utf8, is_utf8-from_IsUtf8}
use Rattle.std.proofs.lemmas.Str.Ascii.{All-from_ascii, IsAscii-nil, IsAscii-cons}
use Rattle.vx_base.specs.Bits.{bool_at}
use Rattle.vx_views.specs.Alone.{whole_texts, is_row_alone, count_alone, AreWholeTexts}
use Rattle.vx_views.specs.Views.{view_size, view_block, view_offset, buffer_at, view_value}
use Rattle.vx_views.specs.declared.view.TheConstants.{MAX_INLINED_SIZE}
use Rattle.vx_views.proofs.Places.{value_of_ref}

-- ---- bytes below 128

pub ascii_is : (bs : List ℕ) → IsAscii bs → false ≡ list_any (nat_le 128) bs
ascii_is bs ascii = sym (list_any_none (nat_le 128) bs (λ k d inside. lt-leb 128 (get_or bs k d) (All-from_ascii bs ascii k d inside)))

ascii_step : (b : ℕ) (bs : List ℕ) (high : Bool) → nat_le 128 b ≡ high → (list_any (nat_le 128) bs ≡ false → IsAscii bs) → (high || list_any (nat_le 128) bs) ≡ false → IsAscii (b ∷ bs)
ascii_step b bs true high rest none = absurd (cc)
ascii_step b bs false low rest none = IsAscii-cons b bs (leb-false 128 b low) (rest none)

ascii_from : (bs : List ℕ) → list_any (nat_le 128) bs ≡ false → IsAscii bs
ascii_from [] none = IsAscii-nil
ascii_from (b ∷ bs) none = ascii_step b bs (nat_le 128 b) refl (ascii_from bs) none

pub not_ascii_is : (bs : List ℕ) → ¬ (IsAscii bs) → true ≡ list_any (nat_le 128) bs
not_ascii_is bs other = elim (cases_Bool (list_any (nat_le 128) bs)) [ inl some ↦ sym some | inr none ↦ absurd (other (ascii_from bs none)) ]

-- ---- buffers that are read ahead

-- a test of UTF-8 tells what the definition does
test_is : (told : Bool) (bs : List ℕ) → IsTrue told ↔ IsUtf8 bs → told ≡ is_utf8 bs
test_is true bs tells = sym (is_utf8-from_IsUtf8 bs (tells.0 refl))
test_is false bs tells = elim (cases_Bool (is_utf8 bs)) [ inl text ↦ absurd (false≢true (tells.1 (IsUtf8-from_is_utf8 bs text))) | inr other ↦ sym other ]

-- one buffer more
module _ (texts : List Bool) (left : ℕ) (buffers : List (List ℕ)) (index : ℕ) (buffer : List ℕ) (within : index < length buffers) (at : buffer ≡ get_or buffers index buffer) where
  more : (fits : Bool) (left' : ℕ) (read : Bool) → nat_le (length buffer) left ≡ fits → left' ≡ cond fits (left - length buffer) left → read ≡ (fits && is_utf8 buffer)
      → (texts ++ read ∷ []) ++ whole_texts left' (drop (index + 1) buffers) ≡ texts ++ whole_texts left (drop index buffers)
  unfolding whole_texts
  more fits left' read fits_is left_is read_is =
      let here : drop index buffers ≡ buffer ∷ drop (index + 1) buffers = drop_more buffers index buffer within ∙ ap (λ b. b ∷ drop (index + 1) buffers) (sym at) in
      append_assoc texts (read ∷ []) (whole_texts left' (drop (index + 1) buffers)) ∙ rw (here, fits_is, left_is, read_is)

  pub whole_texts-fits : (left' : ℕ) (read : Bool) → length buffer ≤ left → left' ≡ left - length buffer → IsTrue read ↔ IsUtf8 buffer
      → (texts ++ read ∷ []) ++ whole_texts left' (drop (index + 1) buffers) ≡ texts ++ whole_texts left (drop index buffers)
  whole_texts-fits left' read fits left_is told = more true left' read (le-leb (length buffer) left fits) left_is (test_is read buffer told)

  pub whole_texts-long : (left' : ℕ) (read : Bool) → left < length buffer → left' ≡ left → read ≡ false
      → (texts ++ read ∷ []) ++ whole_texts left' (drop (index + 1) buffers) ≡ texts ++ whole_texts left (drop index buffers)
  whole_texts-long left' read long left_is skipped = more false left' read (lt-leb (length buffer) left long) left_is skipped

pub whole_texts-all : (budget left : ℕ) (buffers : List (List ℕ)) (index : ℕ) (texts : List Bool) → length buffers ≤ index
    → texts ++ whole_texts left (drop index buffers) ≡ whole_texts budget buffers → texts ≡ whole_texts budget buffers
unfolding whole_texts
whole_texts-all budget left buffers index texts end read = sym (append-nil texts) ∙ (rw (drop_all index buffers end) at read)

text_at : (budget : ℕ) (buffers : List (List ℕ)) (block : ℕ) → bool_at (whole_texts budget buffers) block ≡ true → is_utf8 (buffer_at buffers block) ≡ true
unfolding whole_texts
text_at budget [] block told = absurd (cc)
text_at budget (buffer ∷ buffers) zero told = second (nat_le (length buffer) budget) (is_utf8 buffer) told
  where
    second : (a b : Bool) → (a && b) ≡ true → b ≡ true
    second true b e = e
    second false b e = absurd (cc)
text_at budget (buffer ∷ buffers) (suc block) told = text_at (cond (nat_le (length buffer) budget) (budget - length buffer) budget) buffers block told

whole_texts-length : (budget : ℕ) (buffers : List (List ℕ)) → length (whole_texts budget buffers) ≡ length buffers
unfolding whole_texts
whole_texts-length budget [] = refl
whole_texts-length budget (buffer ∷ buffers) = ap suc (whole_texts-length (cond (nat_le (length buffer) budget) (budget - length buffer) budget) buffers)

pub are_whole_texts : (budget : ℕ) (buffers : List (List ℕ)) (texts : List Bool) → texts ≡ whole_texts budget buffers → AreWholeTexts buffers texts
are_whole_texts budget buffers texts made = rw made (record {
  len = whole_texts-length budget buffers;
  text = λ block told. IsUtf8-from_is_utf8 (buffer_at buffers block) (text_at budget buffers block told);
})

-- ---- boundaries

-- the value of a view that refers to one, as the range that is read
pub range_is : (buffers : List (List ℕ)) (view bytes : List ℕ) (start end : ℕ) → MAX_INLINED_SIZE < view_size view → view_block view < length buffers
    → bytes ≡ get_or buffers (view_block view) bytes → start ≡ view_offset view → end ≡ view_offset view + view_size view
    → view_value buffers view ≡ slice_range bytes start end
range_is buffers view bytes start end long there read start_is end_is =
    let same : buffer_at buffers (view_block view) ≡ bytes = get_or_default buffers (view_block view) [] bytes there ∙ sym read in
    value_of_ref buffers view long ∙ rw (same, start_is, end_is)

-- ---- counts

at_row : (f : ℕ → Bool) (n i : ℕ) → i < n → f (get_or (range_with_len 0 n) i 0) ≡ f i
at_row f n i inside = ap f (get_or-range_with_len 0 n i 0 inside ∙ zero-add i)

pub from_bool-le : (b : Bool) → from_bool b ≤ 1
from_bool-le true = omega arith
from_bool-le false = omega arith

-- one row more
pub counted_more : (texts mask : List Bool) (views : List (List ℕ)) (row alone : ℕ) → row < length views
    → alone ≡ count_by (is_row_alone texts mask views) (take row (range_with_len 0 (length views))) → (b : Bool) → is_row_alone texts mask views row ≡ b
    → alone + from_bool b ≡ count_by (is_row_alone texts mask views) (take (row + 1) (range_with_len 0 (length views)))
counted_more texts mask views row alone within counted true here =
    ap (λ n. n + 1) counted ∙ sym (count_by_more_yes (is_row_alone texts mask views) (range_with_len 0 (length views)) row 0 (omega (arith, length-range_with_len 0 (length views))) (at_row (is_row_alone texts mask views) (length views) row within ∙ here))
counted_more texts mask views row alone within counted false here =
    add-zero alone ∙ counted ∙ sym (count_by_more_no (is_row_alone texts mask views) (range_with_len 0 (length views)) row 0 (omega (arith, length-range_with_len 0 (length views))) (at_row (is_row_alone texts mask views) (length views) row within ∙ here))

pub counted_all : (texts mask : List Bool) (views : List (List ℕ)) (row alone : ℕ) → row ≡ length views
    → alone ≡ count_by (is_row_alone texts mask views) (take row (range_with_len 0 (length views))) → alone ≡ count_alone texts mask views
unfolding count_alone
counted_all texts mask views row alone end counted =
    counted ∙ ap (count_by (is_row_alone texts mask views)) (take_all row (range_with_len 0 (length views)) (omega (arith, length-range_with_len 0 (length views))))
