-- The total of the sizes of valid rows, row by row.
use Rattle.std.proofs.Common.{◌≡◌, ℕ, ◌+◌, ◌-◌, ◌*◌, ◌^◌, ◌<◌, ◌≤◌, Bool, false, cond, List, length, take, get_or, sum, sym, ◌∙◌, ap, arith}
use Rattle.std.proofs.lemmas.List.{take_all}
use Rattle.std.proofs.lemmas.List.Sums.{sum_by_more}
use Rattle.vx_base.specs.Bits.{bool_at}
use Rattle.vx_base.specs.Rows.{count_in}
use Rattle.vx_tree.specs.Tree.{Tree}
use Rattle.vx_tree.specs.Meaning.{tree_len, row_at}
use Rattle.vx_lists.specs.ListViews.Layout.{valid_sizes, valid_total}
use Rattle.vx_lists.specs.ListViews.{counts_in}
use Rattle.vx_lists.proofs.ListViews.PlannedRows.{get_or-valid_sizes, length-valid_sizes}
use Rattle.vx_lists.proofs.ListViews.ViewLayouts.{length-counts_in, get_or-counts_in}

-- the total of the first n rows, which is bounded by their number
pub record IsTotalBelow (s : Tree) (mask : List Bool) (n total : ℕ) : Type 0 where
  pub total_is : total ≡ sum (take n (valid_sizes (counts_in s) mask))
  pub bounded : total ≤ (2 ^ 64 - 1) * n

module _ (s : Tree) (mask : List Bool) (n total : ℕ) (same_len : length mask ≡ tree_len s) (so_far : IsTotalBelow s mask n total) where
  rows : length (valid_sizes (counts_in s) mask) ≡ tree_len s
  rows = length-valid_sizes (counts_in s) mask (same_len ∙ sym (length-counts_in s)) ∙ length-counts_in s

  pub IsTotalBelow-more : (size total' : ℕ) → n < tree_len s → size ≡ cond (bool_at mask n) (count_in (row_at s n)) 0 → size < 2 ^ 64 → total' ≡ total + size → IsTotalBelow s mask (n + 1) total'
  IsTotalBelow-more size total' inside size_is small added =
      let here : get_or (valid_sizes (counts_in s) mask) n 0 ≡ size = get_or-valid_sizes (counts_in s) mask n ∙ ap (λ m. cond (get_or mask n false) m 0) (get_or-counts_in s n inside) ∙ sym size_is in
      let more : sum (take (n + 1) (valid_sizes (counts_in s) mask)) ≡ sum (take n (valid_sizes (counts_in s) mask)) + get_or (valid_sizes (counts_in s) mask) n 0 = sum_by_more (λ (x : ℕ). x) (valid_sizes (counts_in s) mask) n 0 (omega (arith, rows)) in
      record {
        total_is = omega (arith, added, so_far.total_is, more, here);
        bounded = omega (arith, added, so_far.bounded, small);
      }

  pub IsTotalBelow-all : tree_len s ≤ n → total ≡ valid_total (counts_in s) mask
  IsTotalBelow-all all = so_far.total_is ∙ ap sum (take_all n (valid_sizes (counts_in s) mask) (omega (arith, rows)))
