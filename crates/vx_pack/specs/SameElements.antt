-- Elements of lists of two columns, as those of lists are compared wherever they lie.
use Rattle.std.specs.Prelude.{◌≡◌, ◌↔◌, ◌<◌, ◌≤◌, ◌+◌, ◌*◌, ◌/◌, ℕ, List, length, slice_index, slice_range}
use Rattle.vx_tree.specs.Meaning.{row_at, tree_len}
use Rattle.vx_tree.specs.Tree.{Tree}
use Rattle.vx_pack.specs.StoredLists.{stored_sizes, stored_starts}
use Rattle.vx_pack.specs.StoredTexts.{AllResolve, stored_value}
use Rattle.vx_pack.specs.declared.same_elements.Elements.{Elements}
use Rattle.vx_pack.specs.declared.same_elements.Elements.TheVariants as elements
use Rattle.vx_pack.specs.declared.lists_anywhere.Block.{Block}
use Rattle.vx_pack.specs.declared.stored_lists.StoredLists.{StoredLists}

-- how many elements the first column has
abbrev pub first_len : Elements → ℕ
first_len (elements.Numbers width xs ys) = length xs.now / width
first_len (elements.Texts s z) = length s.views.now

-- and the second
abbrev pub second_len : Elements → ℕ
second_len (elements.Numbers width xs ys) = length ys.now / width
second_len (elements.Texts s z) = length z.views.now

-- numbers have bytes, and each view finds its value
abbrev pub AreReadable : Elements → Type 0
AreReadable (elements.Numbers width xs ys) = 0 < width
AreReadable (elements.Texts s z) = AllResolve s × AllResolve z

-- so many elements of the first column from x on are those of the second from y on
abbrev pub AreSameFrom : Elements → ℕ → ℕ → ℕ → Type 0
AreSameFrom (elements.Numbers width xs ys) x y n =
    slice_range xs.now (x * width) ((x + n) * width) ≡ slice_range ys.now (y * width) ((y + n) * width)
AreSameFrom (elements.Texts s z) x y n = (j : ℕ) → j < n → stored_value s (x + j) ≡ stored_value z (y + j)

-- the list of m elements of the first column from x on is that of n of the second from y on
abbrev pub IsSameList : Elements → ℕ → ℕ → ℕ → ℕ → Type 0
IsSameList e x m y n = (m ≡ n) × AreSameFrom e x y m

-- list i of one column is list i of the other
abbrev pub IsSameAt : Elements → StoredLists → StoredLists → ℕ → Type 0
IsSameAt e s z i =
    IsSameList e (slice_index (stored_starts s) i) (slice_index (stored_sizes s) i) (slice_index (stored_starts z) i)
    (slice_index (stored_sizes z) i)

-- each list of a block ends within so many elements
pub record AreBlockLists (n : ℕ) (b : Block) : Type 0 where
  pub as_many : length b.sizes.now ≡ length b.starts.now
  pub within : (i : ℕ) → i < length b.starts.now → slice_index b.starts.now i + slice_index b.sizes.now i ≤ n

-- the lists of a block are those of the second column, which begin there and have these sizes, from one on
abbrev pub AreSameLists : Elements → Block → List ℕ → List ℕ → ℕ → Type 0
AreSameLists e b starts sizes first =
    (i : ℕ) → i < length b.starts.now
    → IsSameList e (slice_index b.starts.now i) (slice_index b.sizes.now i) (slice_index starts (first + i)) (slice_index sizes (first + i))

-- they are the elements of two arrays
pub record AreElements (t u : Tree) (e : Elements) : Type 0 where
  pub readable : AreReadable e
  pub first : first_len e ≡ tree_len t
  pub second : second_len e ≡ tree_len u
  pub same :
      (x y n : ℕ) → x + n ≤ tree_len t → y + n ≤ tree_len u
      → AreSameFrom e x y n ↔ ((j : ℕ) → j < n → row_at t (x + j) ≡ row_at u (y + j))
