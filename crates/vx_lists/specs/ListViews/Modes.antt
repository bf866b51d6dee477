-- What each mode of rebuilding makes of a list view.
use Rattle.std.specs.Prelude.{◌≡◌, ◌≢◌, ◌<◌, ℕ, Bool, true, false}
use Rattle.vx_base.specs.Rows.{count_in, is_present}
use Rattle.vx_tree.specs.Tree.{Tree}
use Rattle.vx_tree.specs.Meaning.{tree_len, kind_of, row_at}
use Rattle.vx_lists.specs.declared.list_view.rebuild.ListViewRebuildMode.{ListViewRebuildMode}
use Rattle.vx_lists.specs.declared.list_view.rebuild.ListViewRebuildMode.TheVariants.{MakeZeroCopyToList, TrimElements}
use Rattle.vx_lists.specs.declared.list_view.rebuild.ListViewRebuildMode.TheVariants.{MakeExact, OverlapCompression}
use Rattle.vx_lists.specs.ListViews.Layout.{canonical}
use Rattle.vx_lists.specs.ListViews.References.{IsTrimmedToBounds}
use Rattle.vx_lists.specs.ListViews.{offsets_of, sizes_of, flag_of, with_flag, list_layout_of, list_rows, IsRebuilt}

-- every null row has size 0
abbrev pub HasEmptyNulls : Tree → Type 0
HasEmptyNulls t = (i : ℕ) → i < tree_len t → is_present (row_at t i) ≡ false → count_in (row_at (sizes_of t) i) ≡ 0

-- a flagged list view in the canonical layout of the rows of another, with offsets and sizes of the types that they had
pub record IsExact (t r : Tree) : Type 0 where
  pub canonical_layout : list_layout_of r ≡ canonical (list_rows t)
  pub flag : flag_of r ≡ true
  pub offsets_kind : kind_of (offsets_of r) ≡ kind_of (offsets_of t)
  pub sizes_kind : kind_of (sizes_of r) ≡ kind_of (sizes_of t)

-- what a mode makes of a list view with rows, by its flag
abbrev pub IsMadeBy : ListViewRebuildMode → Bool → Tree → Tree → Type 0
IsMadeBy MakeZeroCopyToList true t r = r ≡ t
IsMadeBy MakeZeroCopyToList false t r = IsRebuilt t r
IsMadeBy TrimElements flag t r = IsTrimmedToBounds t r
IsMadeBy MakeExact true t r = IsTrimmedToBounds t r
IsMadeBy MakeExact false t r = IsRebuilt t r
IsMadeBy OverlapCompression flag t r = ⊥

-- what a mode makes of any list view: one without rows is flagged and otherwise as it was
pub record IsRebuiltBy (mode : ListViewRebuildMode) (t r : Tree) : Type 0 where
  pub no_rows : tree_len t ≡ 0 → r ≡ with_flag true t
  pub some_rows : tree_len t ≢ 0 → IsMadeBy mode (flag_of t) t r
