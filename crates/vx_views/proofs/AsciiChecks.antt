-- Where buffers and views are ASCII, no row is faulty, and none is left to be checked alone.
use Rattle.std.proofs.Common.{◌≡◌, ℕ, zero, suc, ◌+◌, ◌-◌, ◌<◌, ◌≤◌, Bool, true, false, ◌∙◌, sym, ap, subst, refl, inl, inr, List, [], ◌++◌, length, get_or, drop, replicate, arith}
use Rattle.std.specs.Prelude.{None, slice_index_or}
use Rattle.std.specs.Str.{IsAscii}
use Rattle.std.proofs.lemmas.Bool.{cases_Bool, cases_lt, le-leb, lt-leb}
use Rattle.std.proofs.lemmas.List.{get_or_default, get_or-replicate, replicate-append-replicate}
use Rattle.std.proofs.lemmas.Str.{IsAscii-take, IsAscii-drop, IsUtf8-from_ascii}
use Rattle.vx_base.specs.Bits.{bool_at}
use Rattle.vx_views.specs.Alone.{whole_texts, is_alone, views_left}
use Rattle.vx_views.specs.Ascii.{AreAscii, IsAsciiView, AreAsciiViews}
use Rattle.vx_views.specs.Faulty.{views_fault}
use Rattle.vx_views.specs.Sound.{IsSoundView}
use Rattle.vx_views.specs.Views.{view_size, view_block, view_offset, buffer_at, view_value}
use Rattle.vx_views.specs.declared.view.TheConstants.{MAX_INLINED_SIZE}
use Rattle.vx_views.proofs.AloneViews.{ascii_is, whole_texts-fits}
use Rattle.vx_views.proofs.CheckedRows.{AreChecked, checked-start, checked-valid, checked-null, checked-fault, checked-alone}
use Rattle.vx_views.proofs.FaultyViews.{view_fault-IsSoundView}
use Rattle.vx_views.proofs.Places.{value_of_inlined, value_of_ref}

-- ---- buffers

-- one buffer more is reached
pub reached_more : (budget left : ℕ) (buffers : List (List ℕ)) (index : ℕ) (buffer : List ℕ) → index < length buffers → buffer ≡ get_or buffers index buffer
    → length buffer ≤ left → IsAscii buffer → replicate index true ++ whole_texts left (drop index buffers) ≡ whole_texts budget buffers
    → replicate (index + 1) true ++ whole_texts (left - length buffer) (drop (index + 1) buffers) ≡ whole_texts budget buffers
reached_more budget left buffers index buffer within at fits ascii before =
    ap (λ marks. marks ++ whole_texts (left - length buffer) (drop (index + 1) buffers)) (sym (replicate-append-replicate index 1 true))
    ∙ whole_texts-fits (replicate index true) left buffers index buffer within at (left - length buffer) true fits refl (λ told. IsUtf8-from_ascii buffer ascii, λ text. refl)
    ∙ before

-- the buffers before one are ASCII
abbrev pub AreAsciiBefore : ℕ → List (List ℕ) → Type 0
AreAsciiBefore index buffers = (block : ℕ) → block < index → IsAscii (buffer_at buffers block)

pub ascii_more : (buffers : List (List ℕ)) (index : ℕ) (buffer : List ℕ) → index < length buffers → buffer ≡ get_or buffers index buffer → IsAscii buffer
    → AreAsciiBefore index buffers → AreAsciiBefore (index + 1) buffers
ascii_more buffers index buffer within at ascii before block l =
    elim (cases_lt block index) [
      | inl past ↦ before block past
      | inr here ↦
          let same : block ≡ index = omega arith in
          let read : buffer ≡ buffer_at buffers index = at ∙ get_or_default buffers index buffer [] within in
          subst (λ (b : ℕ). IsAscii (buffer_at buffers b)) (sym same) (subst IsAscii read ascii)
    ]

-- ---- views

-- the views before one are ASCII
abbrev pub AreAsciiViewsBefore : ℕ → List (List ℕ) → List (List ℕ) → Type 0
AreAsciiViewsBefore index buffers views = (row : ℕ) → row < index → IsAsciiView buffers (slice_index_or views row [])

pub ascii_views_more : (buffers views : List (List ℕ)) (index : ℕ) (view : List ℕ) → index < length views → view ≡ get_or views index view → IsAsciiView buffers view
    → AreAsciiViewsBefore index buffers views → AreAsciiViewsBefore (index + 1) buffers views
ascii_views_more buffers views index view within at is before row l =
    elim (cases_lt row index) [
      | inl past ↦ before row past
      | inr here ↦
          let same : row ≡ index = omega arith in
          let read : view ≡ slice_index_or views index [] = at ∙ get_or_default views index view [] within in
          subst (λ (r : ℕ). IsAsciiView buffers (slice_index_or views r [])) (sym same) (subst (IsAsciiView buffers) read is)
    ]

module _ (buffers : List (List ℕ)) (ascii : AreAscii buffers) where
  value_ascii : (view : List ℕ) → IsAsciiView buffers view → IsAscii (view_value buffers view)
  value_ascii view is =
      elim (cases_lt MAX_INLINED_SIZE (view_size view)) [
        | inl long ↦ rw (value_of_ref buffers view long) (IsAscii-take (drop (view_offset view) (buffer_at buffers (view_block view))) (view_offset view + view_size view - view_offset view)
            (IsAscii-drop (buffer_at buffers (view_block view)) (view_offset view) (ascii (view_block view) (is.sound.resolves long).0)))
        | inr short ↦ rw (value_of_inlined buffers view short) (is.held short)
      ]

  -- where text is asked, it is sound
  sound_text : (view : List ℕ) → IsAsciiView buffers view → IsSoundView buffers true view
  sound_text view is = record { resolves = is.sound.resolves; begins = is.sound.begins; utf8 = λ on. IsUtf8-from_ascii (view_value buffers view) (value_ascii view is) }

  not_alone : (view : List ℕ) → IsAsciiView buffers view → false ≡ is_alone (replicate (length buffers) true) view
  not_alone view is =
      elim (cases_lt MAX_INLINED_SIZE (view_size view)) [
        | inl long ↦ rw (lt-leb (view_size view) MAX_INLINED_SIZE long, get_or-replicate (length buffers) (view_block view) true false (is.sound.resolves long).0) refl
        | inr short ↦ rw (le-leb (view_size view) MAX_INLINED_SIZE short) (ascii_is _ (is.held short))
      ]

  module _ (mask : List Bool) (views : List (List ℕ)) (are : AreAsciiViews buffers views) where
    all_checked : (row : ℕ) → row ≤ length views → AreChecked true (replicate (length buffers) true) mask buffers views row 0
    all_checked zero within = checked-start true (replicate (length buffers) true) mask buffers views 0 refl
    all_checked (suc row) within =
        let texts = replicate (length buffers) true in
        let before = all_checked row (omega arith) in
        let here : row < length views = omega arith in
        let view = slice_index_or views row [] in
        let is = are row here in
        let next : row + 1 ≡ suc row = omega arith in
        subst (λ n. AreChecked true texts mask buffers views n 0) next
        (elim (cases_Bool (bool_at mask row)) [
          | inl valid ↦ checked-valid true texts mask buffers views row 0 0 view false before
              (record { within = here; same = sym (get_or_default views row view [] here); valid = valid })
              ((view_fault-IsSoundView true buffers view row).1 (sound_text view is)) (not_alone view is) refl
          | inr null ↦ checked-null true texts mask buffers views row 0 0 before here null refl
        ])

    pub ascii_faultless : views_fault true mask buffers views ≡ None
    ascii_faultless = checked-fault true (replicate (length buffers) true) mask buffers views (length views) 0 (all_checked (length views) (omega arith)) refl

    pub ascii_none_left : (budget : ℕ) → whole_texts budget buffers ≡ replicate (length buffers) true → 0 ≡ views_left true budget mask buffers views
    ascii_none_left budget reached = rw reached (checked-alone true (replicate (length buffers) true) mask buffers views (length views) 0 (all_checked (length views) (omega arith)) refl)
