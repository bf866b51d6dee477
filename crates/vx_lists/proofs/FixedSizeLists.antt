-- Lists of one size: a list ends within the elements, and is what stands there.
use Rattle.std.proofs.Common.{◌≡◌, ℕ, ◌+◌, ◌-◌, ◌*◌, ◌<◌, ◌≤◌, cond, List, take, drop, Some, None, sym, ◌∙◌, ap, subst, arith}
use Rattle.std.specs.Prelude.{slice_range}
use Rattle.vx_base.specs.Rows.{Row, list_from, list_in, is_present}
use Rattle.vx_tree.specs.Tree.{Tree, fixed_list, Valid}
use Rattle.vx_tree.specs.Meaning.{tree_len, row_at, rows, rows_range, is_valid_at}
use Rattle.vx_tree.specs.Formed.{WellFormed}
use Rattle.vx_tree.proofs.Fitting.{list_within}
use Rattle.vx_lists.proofs.ListViews.ViewLayouts.{take-drop-rows, list_in_present}

-- where row i is present, it is the list of the element rows at its place
pub list_of_fixed_elements : (t e : Tree) (k n : ℕ) (v : Valid) (i : ℕ) (xs : List Row) → t ≡ fixed_list e k v n → WellFormed (fixed_list e k v n) → i < tree_len t
    → xs ≡ slice_range (rows e) (i * k) (i * k + k) → list_in (row_at t i) ≡ cond (is_present (row_at t i)) (Some xs) None
list_of_fixed_elements t e k n v i xs same formed inside read =
    let here : i < n = rw same at inside in
    let fits : i * k + k ≤ tree_len e = list_within i k n (tree_len e) formed.1 here in
    let counted : i * k + k - i * k ≡ k = omega arith in
    let listed : xs ≡ list_from (rows_range (row_at e) (i * k) k) = read ∙ ap (λ m. take m (drop (i * k) (rows e))) counted ∙ take-drop-rows e (i * k) k fits in
    let one : list_in (row_at (fixed_list e k v n) i) ≡ cond (is_present (row_at (fixed_list e k v n) i)) (Some xs) None = list_in_present (is_valid_at v i) (rows_range (row_at e) (i * k) k) xs listed in
    subst (λ x. list_in (row_at x i) ≡ cond (is_present (row_at x i)) (Some xs) None) (sym same) one
