-- The views that may stand at the valid rows of texts and of binaries.
use Rattle.std.specs.Prelude.{◌≡◌, ℕ, ◌<◌, Bool, true, IsTrue, List, [], length, take, slice_index_or, IsUtf8}
use Rattle.vx_base.specs.Bits.{bool_at}
use Rattle.vx_views.specs.Views.{view_size, view_prefix, view_value, Resolves}
use Rattle.vx_views.specs.declared.view.TheConstants.{MAX_INLINED_SIZE}

-- a view that may stand at a valid row: its value can be read, begins as the view says, and is UTF-8 in texts
pub record IsSoundView (buffers : List (List ℕ)) (is_text : Bool) (view : List ℕ) : Type 0 where
  pub resolves : Resolves buffers view
  pub begins : MAX_INLINED_SIZE < view_size view → view_prefix view ≡ take 4 (view_value buffers view)
  pub utf8 : IsTrue is_text → IsUtf8 (view_value buffers view)

-- the view of each valid row may stand there
abbrev pub AreSoundViews : List (List ℕ) → List Bool → List (List ℕ) → Bool → Type 0
AreSoundViews views mask buffers is_text =
    (row : ℕ) → row < length views → bool_at mask row ≡ true → IsSoundView buffers is_text (slice_index_or views row [])
