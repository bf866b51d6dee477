-- Rebuilt list views are alike exactly where their rows are equal.
use Rattle.std.proofs.Common.{◌≡◌, map, sym, ◌∙◌, ap}
use Rattle.std.specs.Prelude.{◌↔◌}
use Rattle.vx_base.specs.Rows.{Row, list_in}
use Rattle.vx_tree.specs.Tree.{Tree}
use Rattle.vx_tree.specs.Meaning.{rows}
use Rattle.vx_lists.specs.ListViews.Layout.{ListLayout, canonical}
use Rattle.vx_lists.specs.ListViews.{list_layout_of, list_rows, AreAlike, IsRebuilt}
use Rattle.vx_lists.proofs.ListViews.CanonicalRows.{canonical_injective}
use Rattle.vx_lists.proofs.ListViews.TidyLayouts.{same_layouts}
use Rattle.vx_lists.proofs.ListViews.ViewLayouts.{row_of_list, rows-by_list_rows}

-- the rows of a list view that was rebuilt are what its lists are
rebuilt_rows : (t r : Tree) → IsRebuilt t r → rows t ≡ map row_of_list (list_rows t)
rebuilt_rows t r rebuilt = sym rebuilt.same_rows ∙ rows-by_list_rows r rebuilt.is_view ∙ ap (λ rs. map row_of_list (map list_in rs)) rebuilt.same_rows

pub rebuilt_alike : (t u r q : Tree) → IsRebuilt t r → IsRebuilt u q → AreAlike r q ↔ (rows t ≡ rows u)
rebuilt_alike t u r q first second = (
  λ alike.
      let layouts : list_layout_of r ≡ list_layout_of q = same_layouts (list_layout_of r) (list_layout_of q) alike.offsets alike.sizes alike.masks alike.elements in
      let lists : list_rows t ≡ list_rows u = canonical_injective (list_rows t) (list_rows u) (sym first.canonical_layout ∙ layouts ∙ second.canonical_layout) in
      rebuilt_rows t r first ∙ ap (map row_of_list) lists ∙ sym (rebuilt_rows u q second),
  λ same.
      let layouts : list_layout_of r ≡ list_layout_of q = first.canonical_layout ∙ ap (λ rs. canonical (map list_in rs)) same ∙ sym second.canonical_layout in
      record {
        offsets = ap (λ (l : ListLayout Row). l.offsets) layouts;
        sizes = ap (λ (l : ListLayout Row). l.sizes) layouts;
        masks = ap (λ (l : ListLayout Row). l.mask) layouts;
        elements = ap (λ (l : ListLayout Row). l.elements) layouts;
      },
)
