-- Views that are lent, and what they refer to.
use Rattle.std.proofs.Common.{◌≡◌, ℕ, ◌+◌, ◌<◌, ◌≤◌, ◌∙◌, Bool, true, false, List, [], length, map, take, get_or, ap, sym, subst, inl, inr, arith, IsUtf8, IsTrue}
use Rattle.std.specs.Prelude.{slice_range, slice_index_or}
use Rattle.std.proofs.lemmas.Bool.{cases_lt, false≢true}
use Rattle.std.proofs.lemmas.List.{get_or-map, get_or_default, length-map}
use Rattle.vx_views.specs.Sound.{IsSoundView, AreSoundViews}
use Rattle.vx_views.specs.Views.{view_size, view_block, view_offset, view_prefix, held_value, buffer_at}
use Rattle.vx_views.specs.declared.view.TheConstants.{MAX_INLINED_SIZE}
use Rattle.vx_views.proofs.AloneViews.{range_is}
use Rattle.vx_views.proofs.Places.{value_of_inlined}
use Rattle.vx_c.specs.declared.table.CodraskView.{CodraskView}
use Rattle.vx_c.specs.declared.table.CodraskBytes.{CodraskBytes}
use Rattle.vx_c.specs.LentBuffers.{bytes_in}
use Rattle.vx_c.specs.Tables.{view_bytes}

-- ---- buffers

-- what a read past the end gives
abbrev pub no_bytes : CodraskBytes
no_bytes = record { bytes = record { ref_ptr = (0, 0); now = [] } }

pub read_buffer : (buffers : List CodraskBytes) (i : ℕ) → i < length buffers → slice_index_or (bytes_in buffers) i [] ≡ (slice_index_or buffers i no_bytes).bytes.now
read_buffer buffers i inside = get_or-map (λ x. x.bytes.now) buffers i no_bytes [] inside

abbrev pub AreTextBuffersBefore : List CodraskBytes → ℕ → Type 0
AreTextBuffersBefore buffers n = (i : ℕ) → i < n → IsUtf8 (slice_index_or (bytes_in buffers) i [])

pub buffers_more : (buffers : List CodraskBytes) (n : ℕ) → n < length buffers → IsUtf8 (slice_index_or buffers n no_bytes).bytes.now
    → AreTextBuffersBefore buffers n → AreTextBuffersBefore buffers (n + 1)
buffers_more buffers n inside text before i l =
    elim (cases_lt i n) [
      | inl less ↦ before i less
      | inr here ↦
          let same : n ≡ i = omega arith in
          subst (λ k. IsUtf8 (slice_index_or (bytes_in buffers) k [])) same (subst IsUtf8 (sym (read_buffer buffers n inside)) text)
    ]

-- ---- one view

-- a view that holds its value is sound where that is a text
pub held_is_sound : (buffers : List (List ℕ)) (texts : Bool) (view : List ℕ) → view_size view ≤ MAX_INLINED_SIZE → (IsTrue texts → IsUtf8 (held_value view))
    → IsSoundView buffers texts view
held_is_sound buffers texts view short text = record {
  resolves = λ long. absurd (omega (arith, short, long));
  begins = λ long. absurd (omega (arith, short, long));
  utf8 = λ on. subst IsUtf8 (sym (value_of_inlined buffers view short)) (text on);
}

-- one that refers to bytes of a buffer
pub placed_is_sound : (buffers : List (List ℕ)) (view bytes : List ℕ) (start end : ℕ) → MAX_INLINED_SIZE < view_size view → view_block view < length buffers
    → buffer_at buffers (view_block view) ≡ bytes → start ≡ view_offset view → end ≡ view_offset view + view_size view → end ≤ length bytes
    → view_prefix view ≡ take 4 (slice_range bytes start end) → IsSoundView buffers false view
placed_is_sound buffers view bytes start end long there read start_is end_is within begins =
    let at : bytes ≡ get_or buffers (view_block view) bytes = sym read ∙ get_or_default buffers (view_block view) [] bytes there in
    record {
      resolves = λ l. (there, subst (λ (b : List ℕ). view_offset view + view_size view ≤ length b) (sym read) (omega (arith, end_is, within)));
      begins = λ l. begins ∙ ap (take 4) (sym (range_is buffers view bytes start end long there at start_is end_is));
      utf8 = λ on. absurd (false≢true on);
    }

-- one that is a text beside
pub text_is_sound : (buffers : List (List ℕ)) (view bytes : List ℕ) (start end : ℕ) → MAX_INLINED_SIZE < view_size view → IsSoundView buffers false view
    → buffer_at buffers (view_block view) ≡ bytes → start ≡ view_offset view → end ≡ view_offset view + view_size view
    → IsUtf8 (slice_range bytes start end) → IsSoundView buffers true view
text_is_sound buffers view bytes start end long sound read start_is end_is text =
    let there = (sound.resolves long).0 in
    let at : bytes ≡ get_or buffers (view_block view) bytes = sym read ∙ get_or_default buffers (view_block view) [] bytes there in
    record {
      resolves = sound.resolves;
      begins = sound.begins;
      utf8 = λ on. subst IsUtf8 (sym (range_is buffers view bytes start end long there at start_is end_is)) text;
    }

-- ---- all of them

abbrev pub AreSoundBefore : List CodraskView → List CodraskBytes → Bool → ℕ → Type 0
AreSoundBefore views buffers texts n = (i : ℕ) → i < n → IsSoundView (bytes_in buffers) texts (slice_index_or (map view_bytes views) i [])

pub views_more : (views : List CodraskView) (buffers : List CodraskBytes) (texts : Bool) (n : ℕ) (other : CodraskView) (view : List ℕ) → n < length views
    → view ≡ view_bytes (slice_index_or views n other) → IsSoundView (bytes_in buffers) texts view → AreSoundBefore views buffers texts n
    → AreSoundBefore views buffers texts (n + 1)
views_more views buffers texts n other view inside is sound before i l =
    elim (cases_lt i n) [
      | inl less ↦ before i less
      | inr here ↦
          let same : n ≡ i = omega arith in
          let at : view ≡ slice_index_or (map view_bytes views) n [] = is ∙ sym (get_or-map view_bytes views n other [] inside) in
          subst (λ k. IsSoundView (bytes_in buffers) texts (slice_index_or (map view_bytes views) k [])) same (subst (IsSoundView (bytes_in buffers) texts) at sound)
    ]

pub views_all : (views : List CodraskView) (buffers : List CodraskBytes) (texts : Bool) (n : ℕ) → length views ≤ n → AreSoundBefore views buffers texts n
    → (mask : List Bool) → AreSoundViews (map view_bytes views) mask (bytes_in buffers) texts
views_all views buffers texts n all sound mask i inside valid = sound i (omega (arith, inside, all, length-map views view_bytes))
