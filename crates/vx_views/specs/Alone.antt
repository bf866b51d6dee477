-- Which views are checked alone where texts are asked and a budget of bytes is spent on whole buffers first.
use Rattle.std.specs.Prelude.{◌≡◌, ◌<◌, ◌≤◌, ◌↔◌, ℕ, ◌+◌, ◌-◌, Bool, true, IsUtf8, ◌&&◌, not, if◌then◌else◌, nat_le, List, [], ◌∷◌, length, map, take, sum, count_by, slice_index_or}
use Rattle.std.specs.List.{list_any, range_with_len, zip}
use Rattle.std.specs.Str.{is_utf8}
use Rattle.vx_base.specs.Bits.{bool_at, both}
use Rattle.vx_views.specs.Views.{view_block, is_inline, buffer_at, held_value}

-- whether a budget reaches each buffer: in order, each no longer than what is left, whose length is taken off
abbrev pub reached : ℕ → List (List ℕ) → List Bool
reached budget [] = []
reached budget (buffer ∷ buffers) =
    let fits = nat_le (length buffer) budget in
    fits ∷ reached (if fits then budget - length buffer else budget) buffers

-- the length of each buffer that is marked, 0 of the others
abbrev pub marked_lens : List Bool → List (List ℕ) → List ℕ
marked_lens marks buffers = map (λ pair. if pair.0 then length pair.1 else 0) (zip marks buffers)

-- one mark for each buffer: it is marked exactly where its length and those of the marked ones before it sum to at most the budget
pub record AreWithinBudget (budget : ℕ) (buffers : List (List ℕ)) (marks : List Bool) : Type 0 where
  pub len : length marks ≡ length buffers
  pub each : (k : ℕ) → k < length buffers
      → (bool_at marks k ≡ true) ↔ (sum (take k (marked_lens marks buffers)) + length (buffer_at buffers k) ≤ budget)

-- whether each buffer is reached and is UTF-8
unfoldable pub whole_texts : ℕ → List (List ℕ) → List Bool
whole_texts budget buffers = both (reached budget buffers) (map is_utf8 buffers)

-- an inlined view whose value has a byte of 128 or more, or a reference into a buffer that is no such text
abbrev pub is_alone : List Bool → List ℕ → Bool
is_alone texts view = if is_inline view then list_any (nat_le 128) (held_value view) else not (bool_at texts (view_block view))

-- a valid row with such a view
abbrev pub is_row_alone : List Bool → List Bool → List (List ℕ) → ℕ → Bool
is_row_alone texts mask views row = bool_at mask row && is_alone texts (slice_index_or views row [])

-- how many rows those are
unfoldable pub count_alone : List Bool → List Bool → List (List ℕ) → ℕ
count_alone texts mask views = count_by (is_row_alone texts mask views) (range_with_len 0 (length views))

-- the same where text is asked, and none where it is not
abbrev pub alone_of : Bool → List Bool → List Bool → List (List ℕ) → ℕ
alone_of check_utf8 texts mask views = if check_utf8 then count_alone texts mask views else 0

-- how many valid views a budget leaves to be checked alone
abbrev pub views_left : Bool → ℕ → List Bool → List (List ℕ) → List (List ℕ) → ℕ
views_left check_utf8 budget mask buffers views = alone_of check_utf8 (whole_texts budget buffers) mask views

-- one boolean for each buffer, and where it is true, the buffer is UTF-8
pub record AreWholeTexts (buffers : List (List ℕ)) (texts : List Bool) : Type 0 where
  pub len : length texts ≡ length buffers
  pub text : (block : ℕ) → bool_at texts block ≡ true → IsUtf8 (buffer_at buffers block)
