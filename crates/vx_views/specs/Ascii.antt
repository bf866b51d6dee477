-- Views and buffers of bytes below 128 alone.
use Rattle.std.specs.Prelude.{◌≤◌, ℕ, ◌<◌, false, List, [], length, slice_index_or}
use Rattle.std.specs.Str.{IsAscii}
use Rattle.vx_views.specs.Sound.{IsSoundView}
use Rattle.vx_views.specs.Views.{view_size, held_value, buffer_at}
use Rattle.vx_views.specs.declared.view.TheConstants.{MAX_INLINED_SIZE}

-- each buffer has bytes below 128 alone
abbrev pub AreAscii : List (List ℕ) → Type 0
AreAscii buffers = (block : ℕ) → block < length buffers → IsAscii (buffer_at buffers block)

-- a view that can be read and begins as it says; a value that it holds has bytes below 128 alone
pub record IsAsciiView (buffers : List (List ℕ)) (view : List ℕ) : Type 0 where
  pub sound : IsSoundView buffers false view
  pub held : view_size view ≤ MAX_INLINED_SIZE → IsAscii (held_value view)

-- each view is one
abbrev pub AreAsciiViews : List (List ℕ) → List (List ℕ) → Type 0
AreAsciiViews buffers views = (row : ℕ) → row < length views → IsAsciiView buffers (slice_index_or views row [])
