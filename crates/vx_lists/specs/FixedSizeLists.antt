-- What lists of one size are made of, and why their parts are refused.
use Rattle.std.specs.Prelude.{◌*◌, ◌^◌, ◌==◌, ◌++◌, ℕ, List, codes, nat_lt, if◌then◌else◌, Option, Some, None}
use Rattle.std.specs.Fmt.{decimal}
use Rattle.vx_base.specs.Refusals.{Refusal, overflow, degenerate_elements, or_else}
use Rattle.vx_tree.specs.Tree.{Tree, fixed_list, Valid}
use Rattle.vx_tree.specs.Meaning.{tree_len}
use Rattle.vx_tree.specs.Faults.{length_fault, validity_fault}
pub use Rattle.vx_tree.specs.Layouts.{is_fixed_list}

-- how many elements each list has; another layout has none
abbrev pub list_size_of : Tree → ℕ
list_size_of (fixed_list e k v n) = k
list_size_of _ = 0

-- ---- the data: the number of lists where the elements do not tell it

-- the number of lists that have no elements, else 0
abbrev pub degenerate_len : ℕ → ℕ → ℕ
degenerate_len size len = if size == 0 then len else 0

abbrev pub degenerate_len_of : Tree → ℕ
degenerate_len_of t = degenerate_len (list_size_of t) (tree_len t)

-- how it is printed
abbrev pub degenerate_text : ℕ → List ℕ
degenerate_text len = codes "degenerate_len: " ++ decimal len

-- ---- the faults of the parts

-- so many elements are not those of `len` lists of a size: lists of size 0 have none; of another size there are just as
-- many as the lists have in all, which can be counted
abbrev pub element_count_fault : ℕ → ℕ → ℕ → Option Refusal
element_count_fault count size len =
    if size == 0
    then (if count == 0 then None else Some degenerate_elements)
    else (if nat_lt (len * size) (2 ^ 64) then length_fault (len * size) count else Some overflow)

-- the first fault of the parts of lists of one size: elements, size, validity and number of lists
abbrev pub fixed_list_fault : Tree → ℕ → Valid → ℕ → Option Refusal
fixed_list_fault e size v len = or_else (validity_fault v len) (element_count_fault (tree_len e) size len)
