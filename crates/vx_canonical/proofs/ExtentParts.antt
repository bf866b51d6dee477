-- The extents of the parts of arrays.
use Rattle.std.proofs.Common.{ℕ, zero, suc, ◌+◌, ◌<◌, ◌≡◌, true, List, [], ◌∷◌, length, map, get_or, refl, sym, ◌∙◌, ap, subst, arith}
use Rattle.std.specs.List.{All, sum_by}
use Rattle.std.proofs.lemmas.List.{length-append}
use Rattle.std.proofs.lemmas.List.Sums.{sum_by-cons}
use Rattle.vx_tree.specs.Tree.{Tree, fixed_list, list_view, structure, view_array, Trees, no_trees, tree}
use Rattle.vx_tree.specs.Layouts.{is_fixed_list, is_list_view, is_struct, is_view_array}
use Rattle.vx_tree.specs.Meaning.{tree_len, kind_of, kinds_of}
use Rattle.vx_tree.specs.Formed.{column_count}
use Rattle.vx_tree.specs.Extents.{Extent, extent, extent_of, extents_of, buffer_count, element_count, elements_extent, extent_at, column_extent, joined_extent, joined_extents}
use Rattle.vx_canonical.specs.Joined.{joined_len, joined_buffers, buffers_in, elements_in, column_at, column_of}

-- ---- one array

list_count : (t : Tree) → is_list_view t ≡ true → element_count (extent_of t) ≡ tree_len (elements_in t)
list_count (list_view e o s v f) h = refl
list_count _ h = cc

pub list_elements : (t : Tree) → is_list_view t ≡ true → elements_extent (extent_of t) ≡ extent_of (elements_in t)
list_elements (list_view e o s v f) h = refl
list_elements _ h = cc

pub fixed_list_elements : (t : Tree) → is_fixed_list t ≡ true → elements_extent (extent_of t) ≡ extent_of (elements_in t)
fixed_list_elements (fixed_list e k v n) h = refl
fixed_list_elements _ h = cc

view_buffers : (t : Tree) → is_view_array t ≡ true → buffer_count (extent_of t) ≡ length (buffers_in t)
view_buffers (view_array vs bs k v) h = refl
view_buffers _ h = cc

extent_at-column : (c : ℕ) (ts : Trees) → extent_at c (extents_of ts) ≡ extent_of (column_at ts c)
extent_at-column c no_trees = refl
extent_at-column zero (tree t ts) = refl
extent_at-column (suc c) (tree t ts) = extent_at-column c ts

pub column_extent-of : (c : ℕ) (t : Tree) → is_struct t ≡ true → column_extent c (extent_of t) ≡ extent_of (column_of c t)
column_extent-of c (structure ns ts v n) h = extent_at-column c ts
column_extent-of c _ h = cc

-- ---- all of them

-- f of the extent of each is the extent of its part
pub parts_of_each : (f : Extent → Extent) (g : Tree → Tree) (ts : List Tree) → All (λ t. f (extent_of t) ≡ extent_of (g t)) ts → map f (map extent_of ts) ≡ map extent_of (map g ts)
parts_of_each f g [] h = refl
parts_of_each f g (t ∷ ts) h =
    let here = h 0 t (omega arith) in
    let rest = parts_of_each f g ts (λ i d l. h (suc i) d (omega arith)) in
    λ i. here i ∷ rest i

-- and the counts add up
pub elements_of_each : (ts : List Tree) → All (λ t. is_list_view t ≡ true) ts → sum_by element_count (map extent_of ts) ≡ joined_len (map elements_in ts)
elements_of_each [] h = refl
elements_of_each (t ∷ ts) h =
    let here = list_count t (h 0 t (omega arith)) in
    let rest = elements_of_each ts (λ i d l. h (suc i) d (omega arith)) in
    sum_by-cons element_count (extent_of t) (map extent_of ts) ∙ (λ i. here i + rest i)

pub buffers_of_each : (ts : List Tree) → All (λ t. is_view_array t ≡ true) ts → sum_by buffer_count (map extent_of ts) ≡ length (joined_buffers ts)
buffers_of_each [] h = refl
buffers_of_each (t ∷ ts) h =
    let here = view_buffers t (h 0 t (omega arith)) in
    let rest = buffers_of_each ts (λ i d l. h (suc i) d (omega arith)) in
    sum_by-cons buffer_count (extent_of t) (map extent_of ts) ∙ (λ i. here i + rest i) ∙ sym (length-append (buffers_in t) (joined_buffers ts))

-- ---- joined

pub elements_joined : (t : Tree) (ts : List Tree) → extent_of t ≡ joined_extent (kind_of t) (map extent_of (map elements_in ts)) → All (λ u. elements_extent (extent_of u) ≡ extent_of (elements_in u)) ts
    → extent_of t ≡ joined_extent (kind_of t) (map elements_extent (map extent_of ts))
elements_joined t ts h each = h ∙ ap (joined_extent (kind_of t)) (sym (parts_of_each elements_extent elements_in ts each))

-- the columns from place c on
pub columns_extents : (cs : Trees) (c : ℕ) (ts : List Tree) → All (λ t. is_struct t ≡ true) ts
    → ((i : ℕ) → i < column_count cs → extent_of (column_at cs i) ≡ joined_extent (kind_of (column_at cs i)) (map extent_of (map (column_of (c + i)) ts)))
    → extents_of cs ≡ joined_extents (kinds_of cs) c (map extent_of ts)
columns_extents no_trees c ts s h = refl
columns_extents (tree t cs) c ts s h =
    let parts = parts_of_each (column_extent c) (column_of c) ts (λ i d l. column_extent-of c (get_or ts i d) (s i d l)) in
    let P : ℕ → Type 0 = λ n. extent_of t ≡ joined_extent (kind_of t) (map extent_of (map (column_of n) ts)) in
    let here = subst P {x = c + 0} {y = c} (omega arith) (h 0 (omega arith)) ∙ ap (joined_extent (kind_of t)) (sym parts) in
    let rest = columns_extents cs (suc c) ts s (λ i l.
    let Q : ℕ → Type 0 = λ n. extent_of (column_at cs i) ≡ joined_extent (kind_of (column_at cs i)) (map extent_of (map (column_of n) ts)) in
    subst Q {x = c + suc i} {y = suc c + i} (omega arith) (h (suc i) (omega arith))) in
    λ i. extent (here i) (rest i)
