-- Columns of lists that are compared part by part.
use Rattle.std.proofs.Common.{◌≡◌, ℕ, ◌<◌, Bool, true, false, cond, length, get_or, refl, sym, ◌∙◌, ap, arith}
use Rattle.std.specs.Prelude.{◌↔◌, IsTrue, pos}
use Rattle.std.proofs.lemmas.Bool.{false≢true}
use Rattle.std.proofs.lemmas.List.{ext_get_or}
use Rattle.vx_base.specs.Rows.{null, whole, items, count_in, is_present}
use Rattle.vx_tree.specs.Tree.{Tree, Valid, bools, primitive, constant, dictionary, fixed_list, list_view, structure, view_array}
use Rattle.vx_tree.specs.Formed.{IsCounts}
use Rattle.vx_tree.specs.Meaning.{tree_len, row_at, rows, valid_mask, is_valid_at}
use Rattle.vx_tree.specs.Operations.{IsValidityOf}
use Rattle.vx_lists.specs.ListViews.{is_list_view, validity_of, counts_in, mask_of}

-- ---- counts

abbrev pub EqualByPlace : Type 0
EqualByPlace = (t u : Tree) → (rows t ≡ rows u) ↔ ((tree_len t ≡ tree_len u) × ((i : ℕ) → i < tree_len t → row_at t i ≡ row_at u i))

module _ (by_place : EqualByPlace) (count_len : (t : Tree) → length (counts_in t) ≡ tree_len t) (count_each : (t : Tree) (i : ℕ) → i < tree_len t → get_or (counts_in t) i 0 ≡ count_in (row_at t i)) where
  pub rows_of_counts : (t u : Tree) → IsCounts t → IsCounts u → counts_in t ≡ counts_in u → rows t ≡ rows u
  rows_of_counts t u t_is u_is same =
      let len : tree_len t ≡ tree_len u = sym (count_len t) ∙ ap length same ∙ count_len u in
      (by_place t u).1 (
        len,
        λ i inside.
            let inside_u : i < tree_len u = omega arith in
            let counts : count_in (row_at t i) ≡ count_in (row_at u i) = sym (count_each t i inside) ∙ ap (λ cs. get_or cs i 0) same ∙ count_each u i inside_u in
            t_is.counts i inside ∙ ap (λ n. whole (pos n)) counts ∙ sym (u_is.counts i inside_u),
      )

-- ---- masks

-- a row of a list view is present where it is valid
present_as_valid : (t : Tree) (i : ℕ) → is_list_view t ≡ true → is_present (row_at t i) ≡ is_valid_at (validity_of t) i
present_as_valid (list_view e o s v f) i is = present_where (is_valid_at v i) _
  where
    present_where : (b : Bool) (rs : _) → is_present (cond b (items rs) null) ≡ b
    present_where true rs = refl
    present_where false rs = refl
present_as_valid (bools b bits v) i is = cc
present_as_valid (primitive t bs v) i is = cc
present_as_valid (constant k r n) i is = cc
present_as_valid (dictionary c v f) i is = cc
present_as_valid (fixed_list e k v n) i is = cc
present_as_valid (structure ns ts v n) i is = cc
present_as_valid (view_array vs bs k v) i is = cc

module _ (mask_len : (v : Valid) (n : ℕ) → length (valid_mask v n) ≡ n) (mask_each : (v : Valid) (n i : ℕ) (d : Bool) → i < n → get_or (valid_mask v n) i d ≡ is_valid_at v i) where
  -- the mask of a list view's validity, however it is asked
  pub mask_of_validity : (t : Tree) (v : Valid) (n : ℕ) → is_list_view t ≡ true → IsValidityOf t v → n ≡ tree_len t → valid_mask v n ≡ mask_of t
  mask_of_validity t v n is of len =
      ap (valid_mask v) len
      ∙ ext_get_or false (valid_mask v (tree_len t)) (mask_of t) (mask_len v (tree_len t) ∙ sym (mask_len (validity_of t) (tree_len t)))
      (λ i inside. (let here : i < tree_len t = omega (arith, mask_len v (tree_len t)) in
      mask_each v (tree_len t) i false here ∙ of.bits i here ∙ present_as_valid t i is ∙ sym (mask_each (validity_of t) (tree_len t) i false here)))

-- what a part that differs tells of the wholes
pub differing : (b : Bool) (P Q : Type 0) → (IsTrue b ↔ P) → b ≡ false → (Q → P) → (IsTrue false → Q) × (Q → IsTrue false)
differing b P Q tells is part = (λ never. absurd (false≢true never), λ whole. sym is ∙ tells.1 (part whole))
