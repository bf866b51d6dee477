-- Texts and byte lists by their views: their parts, and what an array is made of.
use Rattle.std.specs.Prelude.{◌≡◌, ◌<◌, ℕ, List, [], length, slice_index_or, if◌then◌else◌}
use Rattle.vx_base.specs.Rows.{null}
use Rattle.vx_base.specs.Kinds.{Kind}
use Rattle.vx_views.specs.Views.{view_value, Resolves}
use Rattle.vx_views.specs.Sound.{AreSoundViews}
pub use Rattle.vx_views.specs.Emptied.{emptied_views}
use Rattle.vx_tree.specs.Tree.{Tree, view_array, Valid}
use Rattle.vx_tree.specs.Meaning.{row_at, is_valid_at, is_texts, nullable, valid_mask, value_row}
use Rattle.vx_tree.specs.Formed.{ValidFits, value_kind}
pub use Rattle.vx_tree.specs.Layouts.{is_view_array}
pub use Rattle.vx_tree.specs.Slots.{validity_of}

-- ---- the parts of an array of its layout

-- the views, one a row
abbrev pub views_of : Tree → List (List ℕ)
views_of (view_array vs bs k v) = vs
views_of _ = []

-- the buffers that the views refer to
abbrev pub buffers_of : Tree → List (List ℕ)
buffers_of (view_array vs bs k v) = bs
buffers_of _ = []

-- ---- views and buffers by themselves

pub record ViewData : Type 0 where
  pub views : List (List ℕ)
  pub buffers : List (List ℕ)

abbrev pub view_data : List (List ℕ) → List (List ℕ) → ViewData
view_data vs bs = record { views = vs; buffers = bs }

-- those of an array
abbrev pub view_data_of : Tree → ViewData
view_data_of t = view_data (views_of t) (buffers_of t)

-- each view resolves, so its value can be read
abbrev pub AllResolve : ViewData → Type 0
AllResolve d = (i : ℕ) → i < length d.views → Resolves d.buffers (slice_index_or d.views i [])

-- the value of view i
abbrev pub value_in : ViewData → ℕ → List ℕ
value_in d i = view_value d.buffers (slice_index_or d.views i [])

-- ---- what an array is made of

-- views and buffers under a kind and a validity that make an array: texts or byte lists, nullable just where the validity
-- is, a validity of as many rows, and views of which each valid one may stand there
pub record AreViewParts (views buffers : List (List ℕ)) (k : Kind) (v : Valid) : Type 0 where
  pub kind : k ≡ value_kind (is_texts k) (nullable v)
  pub fits : ValidFits v (length views)
  pub sound : AreSoundViews views (valid_mask v (length views)) buffers (is_texts k)

-- the array of these parts: the views of null rows are emptied
abbrev pub array_of_views : List (List ℕ) → List (List ℕ) → Kind → Valid → Tree
array_of_views views buffers k v = view_array (emptied_views views (valid_mask v (length views))) buffers k v

-- its rows: the values of the views, null where the validity is false
abbrev pub HasValues : List (List ℕ) → List (List ℕ) → Kind → Valid → Tree → Type 0
HasValues views buffers k v t =
    (i : ℕ) → i < length views
    → row_at t i ≡ (if is_valid_at v i then value_row (is_texts k) (view_value buffers (slice_index_or views i [])) else null)
