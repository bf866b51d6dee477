-- Lists that are joined, by their elements.
use Rattle.std.proofs.Common.{ℕ, suc, ◌+◌, ◌-◌, ◌*◌, ◌<◌, ◌≡◌, List, [], ◌∷◌, map, get_or, refl, sym, ◌∙◌, ap, inl, inr, arith}
use Rattle.std.specs.List.{All}
use Rattle.std.proofs.Math.Nat.{add-mul}
use Rattle.std.proofs.lemmas.Bool.{cases_lt}
use Rattle.vx_base.specs.Rows.{Row, null, items}
use Rattle.vx_base.specs.Kinds.{fixed_lists}
use Rattle.vx_tree.specs.Tree.{Tree, fixed_list, Valid}
use Rattle.vx_tree.specs.Meaning.{tree_len, kind_of, row_at, rows_range, is_valid_at, nullable}
use Rattle.vx_tree.specs.Formed.{WellFormed}
use Rattle.vx_canonical.specs.Joined.{joined_len, joined_at, joined_row, IsJoined, IsValidJoined, elements_in, AreFixedLists}
use Rattle.vx_tree.proofs.FixedLists.{rows_range-same, place_within}
use Rattle.vx_tree.specs.Extents.{fixed_list_extent}
use Rattle.vx_canonical.proofs.ExtentParts.{fixed_list_elements, elements_joined}
use Rattle.vx_canonical.proofs.JoinedRows.{joined-here, joined-later, rows_of_content}

-- the elements of all of them
pub fixed_elements : (k : ℕ) (ts : List Tree) → All (AreFixedLists k) ts → joined_len (map elements_in ts) ≡ joined_len ts * k
fixed_elements k [] h = omega arith
fixed_elements k (t ∷ ts) h =
    let here : AreFixedLists k t = h 0 t (omega arith) in
    ap (λ n. n + joined_len (map elements_in ts)) here.elements ∙ ap (λ n. tree_len t * k + n) (fixed_elements k ts (λ i d l. h (suc i) d (omega arith)))
    ∙ sym (add-mul (tree_len t) (joined_len ts) k)

-- the list at a place
abbrev list_at : ℕ → Tree → ℕ → Row
list_at k t j = items (rows_range (row_at (elements_in t)) (j * k) k)

pub fixed_list-joined : (k : ℕ) (ts : List Tree) → All (AreFixedLists k) ts → (i : ℕ) → i < joined_len ts
    → items (rows_range (joined_row (map elements_in ts)) (i * k) k) ≡ joined_at (list_at k) null ts i
fixed_list-joined k [] h i l = absurd (omega arith)
fixed_list-joined k (t ∷ ts) h i l =
    let mine : AreFixedLists k t = h 0 t (omega arith) in
    let e = elements_in t in
    let es = map elements_in ts in
    elim (cases_lt i (tree_len t)) [
      | inl here ↦
          ap items (rows_range-same (joined_row (e ∷ es)) (row_at e) (i * k) (i * k) k
          (λ j q. joined-here row_at null e es (i * k + j) (rw mine.elements (place_within i j (tree_len t) k here q))))
          ∙ sym (joined-here (list_at k) null t ts i here)
      | inr later ↦
          let same : i ≡ tree_len t + (i - tree_len t) = omega arith in
          let place : i * k ≡ tree_len (elements_in t) + (i - tree_len t) * k = ap (λ n. n * k) same ∙ add-mul (tree_len t) (i - tree_len t) k ∙ ap (λ n. n + (i - tree_len t) * k) (sym mine.elements) in
          ap items (rows_range-same (joined_row (e ∷ es)) (joined_row es) (i * k) ((i - tree_len t) * k) k
          (λ j q. joined-later row_at null e es (i * k + j) (omega (arith, place)) ∙ ap (joined_row es) {x = i * k + j - tree_len (elements_in t)} {y = (i - tree_len t) * k + j} (omega (arith, place))))
          ∙ fixed_list-joined k ts (λ m d q. h (suc m) d (omega arith)) (i - tree_len t) (omega arith)
          ∙ sym (joined-later (list_at k) null t ts i later)
    ]

pub fixed_lists_joined : (k n : ℕ) (ts : List Tree) (r : Tree) (v : Valid) → All (AreFixedLists k) ts → IsJoined (kind_of r) (map elements_in ts) r → n ≡ joined_len ts → IsValidJoined (nullable v) ts v
    → IsJoined (fixed_lists (kind_of r) k (nullable v)) ts (fixed_list r k v n) × WellFormed (fixed_list r k v n)
fixed_lists_joined k n ts r v h joined e valid = (
  record {
    len = e;
    kind = refl;
    plain = (joined.plain, valid.plain);
    state = valid.state;
    extent = ap fixed_list_extent (elements_joined r ts joined.extent (λ i d l. fixed_list_elements (get_or ts i d) (h i d l).layout));
    flag = refl;
    rows = λ i l.
        rows_of_content (list_at k) (fixed_list r k v n) ts (λ m d q. (h m d q).content) i l (is_valid_at v i) (items (rows_range (row_at r) (i * k) k)) (valid.bits i l)
        (ap items (rows_range-same (row_at r) (joined_row (map elements_in ts)) (i * k) (i * k) k
        (λ j q. joined.rows (i * k + j) (rw (fixed_elements k ts h) (place_within i j (joined_len ts) k l q))))
        ∙ fixed_list-joined k ts h i l) refl;
  },
  (rw e valid.fits, joined.len ∙ fixed_elements k ts h ∙ ap (λ m. m * k) (sym e)),
)
