-- Lists of two rows.
use Rattle.std.proofs.Common.{◌≡◌, ℕ, ◌+◌, ◌*◌, [], ◌∷◌, Some, sym, ◌∙◌, ap, add-one}
use Rattle.vx_base.specs.Rows.{list_in}
use Rattle.vx_tree.specs.Tree.{Tree, fixed_list, non_nullable}
use Rattle.vx_tree.specs.Meaning.{row_at}

pub pair_rows : (e r : Tree) (n i : ℕ) → r ≡ fixed_list e 2 non_nullable n → list_in (row_at r i) ≡ Some (row_at e (i * 2) ∷ row_at e (i * 2 + 1) ∷ [])
pair_rows e r n i is =
    ap (λ t. list_in (row_at t i)) is ∙ ap (λ k. Some (row_at e (i * 2) ∷ row_at e k ∷ [])) (sym (add-one (i * 2)))
