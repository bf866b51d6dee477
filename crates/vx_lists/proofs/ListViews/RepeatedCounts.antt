-- Counts that are all one, as bytes, and the total of lists whose sizes are.
use Rattle.std.proofs.Common.{◌≡◌, ℕ, ◌*◌, Bool, true, false, List, [], ◌∷◌, length, map, replicate, sym, ◌∙◌, ap, arith}
use Rattle.std.specs.Prelude.{pos, count_by}
use Rattle.std.specs.List.{range_with_len}
use Rattle.std.proofs.Math.Nat.{mul-zero, mul-add}
use Rattle.std.proofs.lemmas.List.{length-replicate, get_or-replicate}
use Rattle.std.proofs.lemmas.List.FromFn.{fill_by_all}
use Rattle.std.proofs.lemmas.Simd.{map-map}
use Rattle.vx_base.proofs.MaskCounts.{count-true, count-false}
use Rattle.vx_base.proofs.Repeated.{map_repeated}
use Rattle.vx_base.specs.declared.ptypes.PType.{PType}
use Rattle.vx_base.specs.Integers.{byte_width, numbers, number_nth}
use Rattle.vx_base.specs.Rows.{count_in}
use Rattle.vx_tree.specs.Tree.{Tree}
use Rattle.vx_tree.specs.Meaning.{tree_len, row_at}
use Rattle.vx_lists.specs.ListViews.CountBytes.{HoldCounts}
use Rattle.vx_lists.specs.ListViews.Layout.{valid_sizes, valid_total}
use Rattle.vx_lists.specs.ListViews.{counts_in}
use Rattle.vx_lists.proofs.ListViews.CanonicalRows.{sum-cons}
use Rattle.vx_lists.proofs.ListViews.ViewLayouts.{length-counts_in}

-- a size that all rows have counts as often as rows are valid
valid_total-replicate : (c : ℕ) (mask : List Bool) → valid_total (replicate (length mask) c) mask ≡ c * count_by (λ b. b) mask
valid_total-replicate c [] = sym (mul-zero c)
valid_total-replicate c (true ∷ mask) =
    let m : ℕ = count_by (λ b. b) mask in
    sum-cons c (valid_sizes (replicate (length mask) c) mask)
    ∙ omega (arith, valid_total-replicate c mask, mul-add c 1 m, ap (λ n. c * n) (count-true mask))
valid_total-replicate c (false ∷ mask) =
    sum-cons 0 (valid_sizes (replicate (length mask) c) mask)
    ∙ omega (arith, valid_total-replicate c mask, ap (λ n. c * n) (count-false mask))

module _ (t : Tree) (c : ℕ) (alike : (i : ℕ) → row_at t i ≡ row_at t 0) (first : c ≡ count_in (row_at t 0)) where
  -- as many of the first
  pub counts_in-repeated : replicate (tree_len t) c ≡ counts_in t
  counts_in-repeated =
      fill_by_all (λ k. count_in (row_at t k)) (replicate (tree_len t) c) (tree_len t) 0 (length-replicate (tree_len t) c) (λ k l.
      get_or-replicate (tree_len t) k c 0 l ∙ first ∙ ap count_in (sym (alike k)))
      ∙ sym (map-map count_in (row_at t) (range_with_len 0 (tree_len t)))

  pub valid_total-repeated : (mask : List Bool) (n : ℕ) → length mask ≡ tree_len t → n ≡ count_by (λ b. b) mask → c * n ≡ valid_total (counts_in t) mask
  valid_total-repeated mask n same_len count =
      ap (λ m. c * m) count ∙ sym (valid_total-replicate c mask) ∙ ap (λ m. valid_total (replicate m c) mask) same_len
      ∙ ap (λ ns. valid_total ns mask) counts_in-repeated

  pub HoldCounts-repeated : (p : PType) (one bs : List ℕ) (n : ℕ) → n ≡ tree_len t → numbers p one ≡ pos c ∷ [] → numbers p bs ≡ map (number_nth (numbers p one)) (replicate n 0) → length bs ≡ length (replicate {A = ℕ} n 0) * byte_width p
      → HoldCounts p bs (counts_in t)
  HoldCounts-repeated p one bs n len written gathered long = record {
    are = gathered ∙ map_repeated (number_nth (numbers p one)) 0 n ∙ ap (λ zs. replicate n (number_nth zs 0)) written
        ∙ sym (map_repeated pos c n) ∙ ap (λ m. map pos (replicate m c)) len ∙ ap (map pos) counts_in-repeated;
    whole = long ∙ ap (λ m. m * byte_width p) (length-replicate {A = ℕ} n 0 ∙ len ∙ sym (length-counts_in t));
  }
