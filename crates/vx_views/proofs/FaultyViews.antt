-- The first faulty view: what a check that goes row by row knows, and what a view without a fault is.
use Rattle.std.proofs.Common.{◌≡◌, ℕ, ◌+◌, ◌<◌, ◌≤◌, ◌⊎◌, ◌↔◌, Bool, true, false, cond, ◌∙◌, sym, ap, subst, refl, inl, inr, List, [], length, get_or, take, arith, rules, le-leb, lt-ltb, le-ltb}
use Rattle.std.specs.Prelude.{Option, Some, None, Result, Ok, Err, OnOk, IsUtf8, bytes_eq, count_by}
use Rattle.std.specs.Str.{is_utf8}
use Rattle.std.proofs.lemmas.Bool.{cases_lt, cases_Bool, lt-leb, leb-false}
use Rattle.std.proofs.lemmas.List.{get_or_default, get_or-replicate}
use Rattle.vx_base.proofs.MaskCounts.{all_true_from_count}
use Rattle.std.proofs.lemmas.Slice.Eq.{bytes_eq-Decides}
use Rattle.std.proofs.lemmas.Str.{IsUtf8-from_is_utf8, is_utf8-from_IsUtf8}
use Rattle.vx_base.specs.Bits.{bool_at}
use Rattle.vx_base.specs.Refusals.{Refusal, Names, Tests, refusal_of, not_utf8, first_fault}
use Rattle.vx_base.specs.declared.errors.VortexError.{VortexError}
use Rattle.vx_base.proofs.FirstFaults.{or_else-second, or_else-none, first_fault-none_at, first_fault-of_none, first_fault-next}
use Rattle.vx_views.proofs.FirstFaults.{first_fault-here}
use Rattle.vx_views.specs.Views.{view_size, view_prefix, view_block, view_offset, is_inline, buffer_at, view_value}
use Rattle.vx_views.specs.Faulty.{place_fault, text_fault, view_fault, row_fault, views_fault}
use Rattle.vx_views.specs.Sound.{IsSoundView, AreSoundViews}
use Rattle.vx_views.specs.declared.view.TheConstants.{MAX_INLINED_SIZE}

-- ---- text

pub text_fault_found : (check_utf8 : Bool) (value : List ℕ) (row : ℕ) → check_utf8 ≡ true → ¬ (IsUtf8 value) → text_fault check_utf8 value row ≡ Some (not_utf8 row)
text_fault_found check_utf8 value row on bad =
    elim (cases_Bool (is_utf8 value)) [
      | inl e ↦ absurd (bad (IsUtf8-from_is_utf8 value e))
      | inr e ↦ rw (on, e)
    ]

pub text_fault_none : (check_utf8 : Bool) (value : List ℕ) (row : ℕ) → (check_utf8 ≡ false) ⊎ (IsUtf8 value) → text_fault check_utf8 value row ≡ None
text_fault_none check_utf8 value row (inl off) = rw off
text_fault_none false value row (inr text) = refl
text_fault_none true value row (inr text) = rw (is_utf8-from_IsUtf8 value text)

-- ---- the row that a check looks at

-- where all rows are valid, this one is
pub all_true-at : (mask : List Bool) (row : ℕ) → count_by (λ b. b) mask ≡ length mask → row < length mask → bool_at mask row ≡ true
all_true-at mask row all within = ap (λ (bits : List Bool). bool_at bits row) (all_true_from_count mask all) ∙ get_or-replicate (length mask) row true false within

-- the view of the row is that one, and stands at a valid row
pub record IsValidAt (mask : List Bool) (views : List (List ℕ)) (row : ℕ) (view : List ℕ) : Type 0 where
  pub within : row < length views
  pub same : view ≡ get_or views row view
  pub valid : bool_at mask row ≡ true

module _ (check_utf8 : Bool) (mask : List Bool) (buffers views : List (List ℕ)) where
  abbrev fault : ℕ → Option Refusal
  fault = row_fault check_utf8 mask buffers views

  row_fault_valid : (row : ℕ) (view : List ℕ) → IsValidAt mask views row view → fault row ≡ view_fault check_utf8 buffers view row
  row_fault_valid row view at =
      let same : get_or views row [] ≡ view = get_or_default views row [] view at.within ∙ sym at.same in
      rw at.valid (ap (λ (v : List ℕ). view_fault check_utf8 buffers v row) same)

  pub views_fault_found : (row : ℕ) (view : List ℕ) (e : VortexError) → first_fault fault row ≡ None → IsValidAt mask views row view
      → Names (view_fault check_utf8 buffers view row) e → views_fault check_utf8 mask buffers views ≡ refusal_of e
  unfolding views_fault
  views_fault_found row view e before at names = first_fault-here fault (length views) row (refusal_of e) before (row_fault_valid row view at ∙ names.1) names.0 at.within

  pub no_fault_at_valid : (row : ℕ) (view : List ℕ) → first_fault fault row ≡ None → IsValidAt mask views row view → view_fault check_utf8 buffers view row ≡ None
      → first_fault fault (row + 1) ≡ None
  no_fault_at_valid row view before at here = first_fault-next fault row before (row_fault_valid row view at ∙ here)

  pub no_fault_at_null : (row : ℕ) → first_fault fault row ≡ None → bool_at mask row ≡ false → first_fault fault (row + 1) ≡ None
  no_fault_at_null row before null = first_fault-next fault row before (rw null)

  pub no_fault_at_end : (row : ℕ) → first_fault fault row ≡ None → row ≡ length views → views_fault check_utf8 mask buffers views ≡ None
  unfolding views_fault
  no_fault_at_end row before end = rw (← end) before

-- ---- a view without a fault

-- where a view refers to, it finds its value, which begins as it says
record IsPlaced (buffers : List (List ℕ)) (view : List ℕ) : Type 0 where
  there : view_block view < length buffers
  start : view_offset view < length (buffer_at buffers (view_block view))
  end : view_offset view + view_size view ≤ length (buffer_at buffers (view_block view))
  begins : view_prefix view ≡ take 4 (view_value buffers view)

place_fault-IsPlaced : (buffers : List (List ℕ)) (view : List ℕ) (row : ℕ) → place_fault buffers view row ≡ None → IsPlaced buffers view
place_fault-IsPlaced buffers view row none =
    let buffer = buffer_at buffers (view_block view) in
    elim (cases_lt (view_block view) (length buffers)) [
      | inr absent ↦ let e = rw (le-leb (length buffers) (view_block view) absent) at none in absurd (cc)
      | inl there ↦
          let none = rw (lt-leb (length buffers) (view_block view) there) at none in
          elim (cases_lt (view_offset view) (length buffer)) [
            | inr past ↦ let e = rw (le-leb (length buffer) (view_offset view) past) at none in absurd (cc)
            | inl start ↦
                let none = rw (lt-leb (length buffer) (view_offset view) start) at none in
                elim (cases_lt (length buffer) (view_offset view + view_size view)) [
                  | inl past ↦ let e = rw (lt-ltb (length buffer) (view_offset view + view_size view) past) at none in absurd (cc)
                  | inr end ↦
                      let none = rw (le-ltb (length buffer) (view_offset view + view_size view) end) at none in
                      elim (cases_Bool (bytes_eq (view_prefix view) (take 4 (view_value buffers view)))) [
                        | inr other ↦ let e = rw other at none in absurd (cc)
                        | inl same ↦ record { there = there; start = start; end = end; begins = (bytes_eq-Decides (view_prefix view) (take 4 (view_value buffers view))).0 same }
                      ]
                ]
          ]
    ]

place_fault-none : (buffers : List (List ℕ)) (view : List ℕ) (row : ℕ) → IsPlaced buffers view → place_fault buffers view row ≡ None
place_fault-none buffers view row placed =
    let buffer = buffer_at buffers (view_block view) in
    rw (
      lt-leb (length buffers) (view_block view) placed.there,
      lt-leb (length buffer) (view_offset view) placed.start,
      le-ltb (length buffer) (view_offset view + view_size view) placed.end,
      (bytes_eq-Decides (view_prefix view) (take 4 (view_value buffers view))).1 placed.begins,
    )

pub placed_there : (buffers : List (List ℕ)) (view : List ℕ) (row : ℕ) → place_fault buffers view row ≡ None → view_block view < length buffers
placed_there buffers view row none = (place_fault-IsPlaced buffers view row none).there

text_fault-IsUtf8 : (value : List ℕ) (row : ℕ) → text_fault true value row ≡ None → IsUtf8 value
text_fault-IsUtf8 value row none =
    elim (cases_Bool (is_utf8 value)) [
      | inl text ↦ IsUtf8-from_is_utf8 value text
      | inr other ↦ let e = rw other at none in absurd (cc)
    ]

-- of a fault that an inlined view is spared
spared_none : (inlined : Bool) (fault : Option Refusal) → (inlined ≡ false → fault ≡ None) → cond inlined None fault ≡ None
spared_none true fault none = refl
spared_none false fault none = none refl

none_spared : (inlined : Bool) (fault : Option Refusal) → cond inlined None fault ≡ None → inlined ≡ false → fault ≡ None
none_spared true fault none refers = absurd (cc)
none_spared false fault none refers = none

-- of a view that refers to its value, where it stands, the text is left to judge
pub view_fault-placed : (buffers : List (List ℕ)) (view : List ℕ) (row : ℕ) → place_fault buffers view row ≡ None
    → view_fault true buffers view row ≡ text_fault true (view_value buffers view) row
view_fault-placed buffers view row none =
    let text = text_fault true (view_value buffers view) row in
    or_else-second (cond (is_inline view) None (place_fault buffers view row)) text text (spared_none (is_inline view) (place_fault buffers view row) (λ off. none)) refl

-- a view has no fault just where it is sound
pub view_fault-IsSoundView : (check_utf8 : Bool) (buffers : List (List ℕ)) (view : List ℕ) (row : ℕ) → (view_fault check_utf8 buffers view row ≡ None) ↔ IsSoundView buffers check_utf8 view
view_fault-IsSoundView check_utf8 buffers view row = (to, from)
  where
    to : view_fault check_utf8 buffers view row ≡ None → IsSoundView buffers check_utf8 view
    to none =
        let parts = or_else-none (cond (is_inline view) None (place_fault buffers view row)) (text_fault check_utf8 (view_value buffers view) row) none in
        let placed : MAX_INLINED_SIZE < view_size view → IsPlaced buffers view =
        λ refers. place_fault-IsPlaced buffers view row (none_spared (is_inline view) (place_fault buffers view row) parts.0 (lt-leb (view_size view) MAX_INLINED_SIZE refers)) in
        record {
          resolves = λ refers. ((placed refers).there, (placed refers).end);
          begins = λ refers. (placed refers).begins;
          utf8 = λ on. text_fault-IsUtf8 (view_value buffers view) row (subst (λ (check : Bool). text_fault check (view_value buffers view) row ≡ None) on parts.1);
        }

    from : IsSoundView buffers check_utf8 view → view_fault check_utf8 buffers view row ≡ None
    from sound =
        or_else-second (cond (is_inline view) None (place_fault buffers view row)) (text_fault check_utf8 (view_value buffers view) row) None
        (spared_none (is_inline view) (place_fault buffers view row) (λ off.
        let refers : MAX_INLINED_SIZE < view_size view = leb-false (view_size view) MAX_INLINED_SIZE off in
        place_fault-none buffers view row (record { there = (sound.resolves refers).0; start = omega (arith, (sound.resolves refers).1); end = (sound.resolves refers).1; begins = sound.begins refers })))
        (elim (cases_Bool check_utf8) [ inl on ↦ text_fault_none check_utf8 (view_value buffers view) row (inr (sound.utf8 on)) | inr off ↦ text_fault_none check_utf8 (view_value buffers view) row (inl off) ])

pub views_fault-AreSoundViews : (check_utf8 : Bool) (mask : List Bool) (buffers views : List (List ℕ)) → (views_fault check_utf8 mask buffers views ≡ None) ↔ AreSoundViews views mask buffers check_utf8
unfolding views_fault
views_fault-AreSoundViews check_utf8 mask buffers views = (
  λ none row within valid.
      let here = first_fault-none_at (row_fault check_utf8 mask buffers views) (length views) row none within in
      (view_fault-IsSoundView check_utf8 buffers (get_or views row []) row).0 (rw valid at here),
  λ sound.
      first_fault-of_none (row_fault check_utf8 mask buffers views) (length views) (λ row within.
      elim (cases_Bool (bool_at mask row)) [
        | inl valid ↦ rw valid ((view_fault-IsSoundView check_utf8 buffers (get_or views row []) row).1 (sound row within valid))
        | inr null ↦ rw null
      ]),
)

-- a test that refuses the first faulty view answers Ok where the views are sound
pub sound-from_tests : {A : Type 0} (r : Result A VortexError) (check_utf8 : Bool) (mask : List Bool) (buffers views : List (List ℕ))
    → Tests r (views_fault check_utf8 mask buffers views) → OnOk r (AreSoundViews views mask buffers check_utf8)
sound-from_tests (Ok x) check_utf8 mask buffers views none = search (rules, (views_fault-AreSoundViews check_utf8 mask buffers views).0 none)
sound-from_tests (Err e) check_utf8 mask buffers views names = search rules
