-- Texts and byte lists that are taken.
use Rattle.std.proofs.Common.{ℕ, ◌≡◌, List, [], length, map, refl}
use Rattle.std.specs.Prelude.{slice_index}
use Rattle.std.specs.List.{range_with_len}
use Rattle.vx_base.specs.Selections.{item_of_position}
use Rattle.vx_base.specs.Kinds.{Kind, or_nullable}
use Rattle.vx_tree.specs.Tree.{Tree, view_array, Valid}
use Rattle.vx_tree.specs.Meaning.{nullable, valid_mask}
use Rattle.vx_tree.specs.Formed.{WellFormed}
use Rattle.vx_tree.specs.Operations.{IsValidSelected, IsValidNulled, IsTakenAt, AreBelow, valid_view}
use Rattle.vx_tree.proofs.Taken.{taken_at}
use Rattle.vx_tree.proofs.ViewArrays.{selected_rows, rows_formed, views_selected, nulled_formed, views_nulled, valid_views_made}

-- views that are gathered, of which those of null rows are empty
pub record AreTakenViews (t r : Tree) (ps : List ℕ) (u : Valid) (ws bs : List (List ℕ)) (k : Kind) (w : Valid) : Type 0 where
  pub formed : WellFormed (view_array ws bs (or_nullable (nullable u) k) w)
  pub taken : r ≡ view_array ws bs (or_nullable (nullable u) k) w → IsTakenAt t ps u r

pub views_taken : (t r : Tree) (vs bs gathered ws : List (List ℕ)) (k : Kind) (v s u w : Valid) (ps : List ℕ) → t ≡ view_array vs bs k v → WellFormed (view_array vs bs k v) → AreBelow (length vs) ps
    → gathered ≡ map (item_of_position [] vs) ps → IsValidSelected v ps s → IsValidNulled s u (length gathered) w → ws ≡ map (valid_view gathered (valid_mask w (length gathered))) (range_with_len 0 (length gathered))
    → AreTakenViews t r ps u ws bs k w
views_taken t r vs bs gathered ws k v s u w ps a formed below picked selected nulled made =
    let of = selected_rows vs gathered v s ps picked below selected in
    let are = valid_views_made gathered ws w made in
    record {
      formed = nulled_formed gathered bs ws k s u w (rows_formed vs bs gathered k v s (slice_index ps) (length ps) of formed) nulled are;
      taken = λ e. taken_at t (view_array gathered bs k s) r ps u (views_selected t (view_array gathered bs k s) vs bs gathered k v s ps a refl of selected)
          (views_nulled (view_array gathered bs k s) r gathered bs ws k s u w refl e nulled are);
    }
