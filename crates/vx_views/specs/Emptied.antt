-- Views of which those of null rows say nothing.
use Rattle.std.specs.Prelude.{◌≡◌, ◌⊎◌, ℕ, Bool, true, if◌then◌else◌, List, [], length, map, replicate, slice_index_or}
use Rattle.std.specs.List.{range_with_len}
use Rattle.vx_base.specs.Bits.{bool_at}

-- the view of a row where a mask is true, 16 zero bytes elsewhere
abbrev pub valid_view : List (List ℕ) → List Bool → ℕ → List ℕ
valid_view views mask row = if bool_at mask row then slice_index_or views row [] else replicate 16 0

-- the views where a mask is true, 16 zero bytes elsewhere
abbrev pub emptied_views : List (List ℕ) → List Bool → List (List ℕ)
emptied_views views mask = map (valid_view views mask) (range_with_len 0 (length views))

-- as many views as there were: where a mask is true they are as they were, and elsewhere each is as it was, or 16 zero bytes
pub record AreKept (mask : List Bool) (before after : List (List ℕ)) : Type 0 where
  pub len : length after ≡ length before
  pub same : (row : ℕ) → bool_at mask row ≡ true → slice_index_or after row [] ≡ slice_index_or before row []
  pub either : (row : ℕ) → (slice_index_or after row [] ≡ slice_index_or before row []) ⊎ (slice_index_or after row [] ≡ replicate 16 0)
