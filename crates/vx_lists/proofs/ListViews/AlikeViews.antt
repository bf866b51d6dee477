-- List views that are alike: equal offsets, sizes, masks and element rows.
use Rattle.std.proofs.Common.{◌≡◌, ℕ, ◌<◌, length, get_or, refl, sym, ◌∙◌, ap, subst, arith}
use Rattle.vx_base.specs.Rows.{count_in}
use Rattle.vx_tree.specs.Tree.{Tree, bools, primitive, constant, dictionary, fixed_list, list_view, structure, view_array}
use Rattle.vx_tree.specs.Meaning.{tree_len, row_at}
use Rattle.vx_tree.specs.Formed.{WellFormed, IsConsecutive}
use Rattle.vx_lists.specs.ListViews.{offsets_of, sizes_of, counts_in, AreAlike}
use Rattle.vx_lists.proofs.ListViews.ViewLayouts.{length-counts_in, get_or-counts_in}

pub alike_itself : (t r : Tree) → r ≡ t → AreAlike t r
alike_itself t r same = subst (AreAlike t) (sym same) (record { offsets = refl; sizes = refl; masks = refl; elements = refl })

pub len-offsets_of : (t : Tree) → tree_len (offsets_of t) ≡ tree_len t
len-offsets_of (bools b bits v) = refl
len-offsets_of (primitive t bs v) = refl
len-offsets_of (constant k r n) = refl
len-offsets_of (dictionary c v f) = refl
len-offsets_of (fixed_list e k v n) = refl
len-offsets_of (list_view e o s v f) = refl
len-offsets_of (structure ns ts v n) = refl
len-offsets_of (view_array vs bs k v) = refl

-- no rows follow one another
pub no_rows_follow : (t : Tree) → tree_len t ≡ 0 → IsConsecutive (offsets_of t) (sizes_of t)
no_rows_follow t none = λ i inside. absurd (omega (arith, len-offsets_of t, none))

len-sizes_of : (t : Tree) → WellFormed t → tree_len (sizes_of t) ≡ tree_len t
len-sizes_of (list_view e o s v f) formed = formed.1.same_len
len-sizes_of (bools b bits v) formed = refl
len-sizes_of (primitive t bs v) formed = refl
len-sizes_of (constant k r n) formed = refl
len-sizes_of (dictionary c v f) formed = refl
len-sizes_of (fixed_list e k v n) formed = refl
len-sizes_of (structure ns ts v n) formed = refl
len-sizes_of (view_array vs bs k v) formed = refl

-- the counts of one array stand at the same places in another
same_counts : (a b : Tree) (i : ℕ) → counts_in a ≡ counts_in b → i < tree_len a → count_in (row_at a i) ≡ count_in (row_at b i)
same_counts a b i same inside =
    sym (get_or-counts_in a i inside) ∙ ap (λ ns. get_or ns i 0) same
    ∙ get_or-counts_in b i (omega (arith, length-counts_in a, length-counts_in b, ap length same))

-- so each list has its place
pub alike_offsets : (t u : Tree) (i : ℕ) → AreAlike t u → i < tree_len t → count_in (row_at (offsets_of t) i) ≡ count_in (row_at (offsets_of u) i)
alike_offsets t u i alike inside = same_counts (offsets_of t) (offsets_of u) i alike.offsets (omega (arith, len-offsets_of t))

pub alike_sizes : (t u : Tree) (i : ℕ) → WellFormed t → AreAlike t u → i < tree_len t → count_in (row_at (sizes_of t) i) ≡ count_in (row_at (sizes_of u) i)
alike_sizes t u i formed alike inside = same_counts (sizes_of t) (sizes_of u) i alike.sizes (omega (arith, len-sizes_of t formed))
