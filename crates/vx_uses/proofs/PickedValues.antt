-- The rows of dictionaries.
use Rattle.std.proofs.Common.{◌≡◌, ℕ, ◌<◌, Bool, true, false, cond, List, length, get_or, refl, sym, ◌∙◌, ap, subst, arith}
use Rattle.std.specs.Prelude.{pos, negsuc, nat_lt, Option, Some, None}
use Rattle.std.proofs.lemmas.Bool.{ltb-true}
use Rattle.std.proofs.lemmas.List.{ext_get_or, length-map, get_or-map}
use Rattle.vx_base.specs.Kinds.{is_integers}
use Rattle.vx_base.specs.Refusals.{Refusal, mismatched_types, out_of_bounds, IsLeastFault, FirstFaultIsLeast}
use Rattle.vx_base.specs.Rows.{Row, null, boolean, whole, bytes, text, items, record_of, position_in}
use Rattle.vx_tree.specs.Tree.{Tree, dictionary}
use Rattle.vx_tree.specs.Faults.{index_fault, indices_fault}
use Rattle.vx_tree.specs.Meaning.{tree_len, kind_of, row_at, rows, picked}
use Rattle.vx_tree.specs.Operations.{picks, positions}
use Rattle.vx_leaves.specs.Dictionaries.{dictionary_fault}

within_where : (b : Bool) (r : Refusal) → cond b None (Some r) ≡ None → b ≡ true
within_where true r none = refl
within_where false r none = cc

-- a position that is not refused lies within
position_within : (len i : ℕ) (r : Row) (k : ℕ) → index_fault len i r ≡ None → position_in r ≡ Some k → k < len
position_within len i (whole (pos m)) k none is =
    let same : m ≡ k = cc in subst (λ n. n < len) same (ltb-true m len (within_where (nat_lt m len) (out_of_bounds m) none))
position_within len i (whole (negsuc m)) k none is = cc
position_within len i null k none is = cc
position_within len i (boolean b) k none is = cc
position_within len i (bytes bs) k none is = cc
position_within len i (text bs) k none is = cc
position_within len i (items rs) k none is = cc
position_within len i (record_of fs) k none is = cc

codes_accepted : (b : Bool) (fault : Option Refusal) → cond b fault (Some mismatched_types) ≡ None → fault ≡ None
codes_accepted true fault none = none
codes_accepted false fault none = cc

-- the row that a position picks of some rows
abbrev pick_in : List Row → Option ℕ → Row
pick_in rs = picked (λ k. get_or rs k null)

pub dictionary_rows : FirstFaultIsLeast → ((t : Tree) → length (rows t) ≡ tree_len t) → ((t : Tree) (i : ℕ) (d : Row) → i < tree_len t → get_or (rows t) i d ≡ row_at t i)
    → (c v : Tree) (f : Bool) → dictionary_fault c v ≡ None → rows (dictionary c v f) ≡ picks (rows v) (positions (rows c))
dictionary_rows law len each c v f accepted =
    ext_get_or null (rows (dictionary c v f)) (picks (rows v) (positions (rows c)))
    (len (dictionary c v f) ∙ sym (len c) ∙ sym (length-map (rows c) position_in) ∙ sym (length-map (positions (rows c)) (pick_in (rows v))))
    (λ i inside. at_row i (omega (arith, len (dictionary c v f))))
  where
    none : indices_fault (tree_len v) c ≡ None
    none = codes_accepted (is_integers (kind_of c)) (indices_fault (tree_len v) c) accepted

    each_none : (i : ℕ) → i < tree_len c → index_fault (tree_len v) i (row_at c i) ≡ None
    each_none = subst (IsLeastFault (λ i. index_fault (tree_len v) i (row_at c i)) (tree_len c)) none (law (λ i. index_fault (tree_len v) i (row_at c i)) (tree_len c))

    same_pick : (p : Option ℕ) → ((k : ℕ) → p ≡ Some k → k < tree_len v) → picked (row_at v) p ≡ pick_in (rows v) p
    same_pick None below = refl
    same_pick (Some k) below = sym (each v k null (below k refl))

    at_row : (i : ℕ) → i < tree_len c → get_or (rows (dictionary c v f)) i null ≡ get_or (picks (rows v) (positions (rows c))) i null
    at_row i inside =
        let in_rows : i < length (rows c) = omega (arith, len c) in
        let in_positions : i < length (positions (rows c)) = omega (arith, length-map (rows c) position_in, len c) in
        each (dictionary c v f) i null inside
        ∙ same_pick (position_in (row_at c i)) (λ k is. position_within (tree_len v) i (row_at c i) k (each_none i inside) is)
        ∙ ap (λ r. pick_in (rows v) (position_in r)) (sym (each c i null inside))
        ∙ ap (pick_in (rows v)) (sym (get_or-map position_in (rows c) i null None in_rows))
        ∙ sym (get_or-map (pick_in (rows v)) (positions (rows c)) i None null in_positions)
