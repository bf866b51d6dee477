-- Rows in another order, and in runs.
use Rattle.std.proofs.Common.{◌≡◌, ℕ, ◌+◌, ◌-◌, ◌<◌, List, [], ◌∷◌, ◌++◌, length, take, drop, get_or, sym, ◌∙◌, ap, ap₂, append-nil, arith}
use Rattle.std.specs.Prelude.{reverse}
use Rattle.std.specs.List.{All, flat_map}
use Rattle.std.proofs.lemmas.List.{take_all, length-drop, length-reverse, get_or-reverse, get_or_default, ext_get_or}
use Rattle.vx_base.specs.MaskRuns.{AreRuns}
use Rattle.vx_base.specs.Rows.{Row, null}
use Rattle.vx_tree.specs.Tree.{Tree}
use Rattle.vx_tree.specs.Meaning.{tree_len, row_at, rows}
use Rattle.vx_tree.specs.Operations.{AreBelow, IsSelected}
use Rattle.vx_tree.specs.Runs.{IsRunWithin, rows_in_run}

-- the first i positions of n, the last one first
pub record AreLastFirst (n i : ℕ) (ps : List ℕ) : Type 0 where
  pub len : length ps ≡ i
  pub each : (k : ℕ) → k < i → get_or ps k 0 ≡ n - 1 - k

pub last_first_below : (n : ℕ) (ps : List ℕ) → AreLastFirst n n ps → AreBelow n ps
last_first_below n ps are = λ k d inside.
    let within : k < n = omega (arith, are.len) in
    let place : get_or ps k d ≡ n - 1 - k = get_or_default ps k d 0 inside ∙ are.each k within in
    omega (arith, place)

-- by the law that each row has its place
module _ (rows_len : (t : Tree) → length (rows t) ≡ tree_len t) (rows_each : (t : Tree) (i : ℕ) (d : Row) → i < tree_len t → get_or (rows t) i d ≡ row_at t i) where
  pub rows_reversed : (t r : Tree) (ps : List ℕ) → AreLastFirst (tree_len t) (tree_len t) ps → IsSelected t ps r → rows r ≡ reverse (rows t)
  rows_reversed t r ps are is =
      ext_get_or null (rows r) (reverse (rows t)) (rows_len r ∙ is.len ∙ are.len ∙ sym (rows_len t) ∙ sym (length-reverse (rows t)))
      (λ k inside.
      let in_r : k < tree_len r = omega (arith, rows_len r) in
      let in_ps : k < length ps = omega (arith, is.len) in
      let in_t : k < tree_len t = omega (arith, are.len) in
      let place : get_or ps k 0 ≡ length (rows t) - 1 - k = are.each k in_t ∙ ap (λ n. n - 1 - k) (sym (rows_len t)) in
      let below : get_or ps k 0 < tree_len t = omega (arith, place, rows_len t) in
      rows_each r k null in_r ∙ is.rows k in_ps ∙ sym (rows_each t (get_or ps k 0) null below) ∙ ap (λ i. get_or (rows t) i null) place
      ∙ sym (get_or-reverse (rows t) k null (omega (arith, rows_len t))))

-- the rows up to a place, and those from another one on
pub rows_around : (rs : List Row) (n start end : ℕ) → length rs ≡ n → flat_map (rows_in_run rs) ((0, start) ∷ (end, n) ∷ []) ≡ take start rs ++ drop end rs
rows_around rs n start end len =
    let first : take (start - 0) (drop 0 rs) ≡ take start rs = ap (λ k. take k rs) {x = start - 0} {y = start} (omega arith) in
    let last : take (n - end) (drop end rs) ≡ drop end rs = take_all (n - end) (drop end rs) (omega (arith, length-drop end rs, len)) in
    ap₂ (λ qs ps. qs ++ ps) first (append-nil (take (n - end) (drop end rs)) ∙ last)

-- runs of a mask lie within its length
pub runs_within : (n : ℕ) (runs : List (ℕ × ℕ)) → AreRuns n runs → All (IsRunWithin n) runs
runs_within n runs are = λ i d inside. (let filled = are.filled i d inside in omega arith, are.within i d inside)
