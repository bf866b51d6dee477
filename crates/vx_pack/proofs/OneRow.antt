-- Arrays whose rows are all one, as their parts are.
use Rattle.std.proofs.Common.{◌≡◌, ◌+◌, ◌*◌, ◌<◌, ℕ, suc, List, [], ◌∷◌, length, get_or, refl, sym, ◌∙◌, ap, arith, Bool, true}
use Rattle.vx_base.specs.Rows.{items, record_of, field}
use Rattle.vx_tree.specs.Meaning.{fields_at, is_valid_at, row_at, trees_from}
use Rattle.vx_tree.specs.Tree.{Tree, Valid, fixed_list, list_view, structure}
use Rattle.vx_tree.proofs.FixedLists.{rows_range-same}

pub one_fixed_list : (t e : Tree) (k : ℕ) (v : Valid) (n : ℕ) → t ≡ fixed_list e k v n → ((i : ℕ) → is_valid_at v i ≡ true) → ((i : ℕ) → row_at e i ≡ row_at e 0) → (i : ℕ) → row_at t i ≡ row_at t 0
one_fixed_list t e k v n same valid one i =
    rw (same, valid i, valid 0) (ap items (rows_range-same (row_at e) (row_at e) (i * k) (0 * k) k (λ j l. one (i * k + j) ∙ sym (one (0 * k + j)))))

pub one_list_view : (t e o s : Tree) (v : Valid) (f : Bool) → t ≡ list_view e o s v f → ((i : ℕ) → is_valid_at v i ≡ true) → ((i : ℕ) → row_at o i ≡ row_at o 0) → ((i : ℕ) → row_at s i ≡ row_at s 0)
    → (i : ℕ) → row_at t i ≡ row_at t 0
one_list_view t e o s v f same valid one_o one_s i = rw (same, valid i, valid 0, one_o i, one_s i) refl

pub one_struct : (t : Tree) (ns : List (List ℕ)) (ts : List Tree) (v : Valid) (n : ℕ) → t ≡ structure ns (trees_from ts) v n → ((i : ℕ) → is_valid_at v i ≡ true)
    → ((names : List (List ℕ)) (i : ℕ) → fields_at (trees_from ts) names i ≡ fields_at (trees_from ts) names 0) → (i : ℕ) → row_at t i ≡ row_at t 0
one_struct t ns ts v n same valid one i = rw (same, valid i, valid 0) (ap record_of (one ns i))

-- each of the first columns has one row
abbrev pub HaveOneRow : List Tree → ℕ → Type 0
HaveOneRow ts n = (j : ℕ) → j < n → (d : Tree) (i : ℕ) → row_at (get_or ts j d) i ≡ row_at (get_or ts j d) 0

pub one_record : (ts : List Tree) → HaveOneRow ts (length ts) → (names : List (List ℕ)) (i : ℕ) → fields_at (trees_from ts) names i ≡ fields_at (trees_from ts) names 0
one_record [] each names i = refl
one_record (t ∷ ts) each [] i = refl
one_record (t ∷ ts) each (n ∷ ns) i =
    let first : row_at t i ≡ row_at t 0 = each 0 (omega arith) t i in
    let rest = one_record ts (λ j l d k. each (suc j) (omega arith) d k) ns i in
    λ j. field n (first j) (rest j)
