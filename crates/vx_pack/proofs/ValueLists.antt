-- Values as the rows of a list.
use Rattle.std.proofs.Common.{◌≡◌, ◌+◌, ◌<◌, ℕ, zero, suc, List, [], ◌∷◌, length, map, get_or, refl, sym, ◌∙◌, ap, arith, Option, None}
use Rattle.vx_base.specs.declared.scalar_value.ScalarValue.{ScalarValue}
use Rattle.vx_base.specs.Kinds.{Kind, Fits, AllFit}
use Rattle.vx_base.specs.Rows.{row, rows_from}
use Rattle.vx_base.specs.ValueRows.{all_named, option_row, row_under}
use Rattle.vx_tree.specs.Meaning.{rows_range}
use Rattle.std.proofs.lemmas.List.{get_or_default}
use Rattle.vx_tree.proofs.FixedLists.{rows_range-same}

pub values_range : (k : Kind) (vs : List (Option ScalarValue)) → all_named k (rows_from (map option_row vs)) ≡ rows_range (λ i. row_under k (get_or vs i None)) 0 (length vs)
values_range k [] = refl
values_range k (v ∷ vs) =
    let rest : rows_range (λ i. row_under k (get_or vs i None)) 0 (length vs) ≡ rows_range (λ i. row_under k (get_or (v ∷ vs) i None)) 1 (length vs)
    = rows_range-same (λ i. row_under k (get_or vs i None)) (λ i. row_under k (get_or (v ∷ vs) i None)) 0 1 (length vs) (λ j l. next j) in
    λ j. row (row_under k v) ((values_range k vs ∙ rest) j)
  where
    next : (j : ℕ) → row_under k (get_or vs (0 + j) None) ≡ row_under k (get_or (v ∷ vs) (1 + j) None)
    next j =
        let p : 0 + j ≡ j = omega arith in
        let q : 1 + j ≡ suc j = omega arith in
        ap (λ i. row_under k (get_or vs i None)) p ∙ sym (ap (λ i. row_under k (get_or (v ∷ vs) i None)) q)

pub each_fits : (k : Kind) (vs : List (Option ScalarValue)) (i : ℕ) → AllFit k (all_named k (rows_from (map option_row vs))) → i < length vs → Fits k (row_under k (get_or vs i None))
each_fits k [] i h l = absurd (omega arith)
each_fits k (v ∷ vs) zero h l = h.0
each_fits k (v ∷ vs) (suc i) h l = each_fits k vs i h.1 (omega arith)

-- the row of the value at a place
pub value_row_at : (k : Kind) (vs : List (Option ScalarValue)) (i : ℕ) (v : Option ScalarValue) → i < length vs → v ≡ get_or vs i v → row_under k v ≡ row_under k (get_or vs i None)
value_row_at k vs i v inside at = ap (row_under k) (at ∙ get_or_default vs i v None inside)
