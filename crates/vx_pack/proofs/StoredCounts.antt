-- Counts that stand as numbers one after another.
use Rattle.std.proofs.Common.{◌≡◌, ◌∙◌, ◌<◌, ℕ, Bool, true, false, List, length, sym, ap}
use Rattle.std.specs.Prelude.{ℤ, pos, if◌then◌else◌}
use Rattle.vx_base.specs.Integers.{number_nth, numbers}
use Rattle.vx_base.specs.Rows.{count_in, null, whole}
use Rattle.vx_base.specs.declared.ptypes.PType.{PType}
use Rattle.vx_tree.specs.Formed.{IsCounts}
use Rattle.vx_tree.specs.Meaning.{is_valid_at, row_at, tree_len}
use Rattle.vx_tree.specs.Tree.{Tree, Valid, primitive}

number_there : (b : Bool) (z : ℤ) (n : ℕ) → (if b then whole z else null) ≡ whole (pos n) → z ≡ pos n
number_there true z n e = cc
number_there false z n e = absurd (cc)

-- the number at a row is its count
pub stored_count_is : (a : Tree) (t : PType) (bs : List ℕ) (v : Valid) (row : ℕ) → a ≡ primitive t bs v → IsCounts a → row < tree_len a
    → number_nth (numbers t bs) row ≡ pos (count_in (row_at a row))
stored_count_is a t bs v row same counts inside =
    number_there (is_valid_at v row) (number_nth (numbers t bs) row) (count_in (row_at a row))
    (sym (ap (λ (x : Tree). row_at x row) same) ∙ counts.counts row inside)

pub stored_count_within : (a : Tree) (t : PType) (bs : List ℕ) (v : Valid) (row : ℕ) → a ≡ primitive t bs v → row < tree_len a
    → row < length (numbers t bs)
stored_count_within a t bs v row same inside = rw same at inside
