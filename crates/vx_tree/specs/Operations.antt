-- What slicing, selecting and taking give, row by row.
use Rattle.std.specs.Prelude.{◌≡◌, ◌<◌, ◌+◌, ◌&&◌, ℕ, pos, Bool, true, false, List, [], ◌∷◌, length, replicate, map}
use Rattle.std.specs.Prelude.{Option, Some, None, is_some, IfSome, slice_index, slice_index_or, if◌then◌else◌}
use Rattle.std.specs.List.{All}
use Rattle.vx_base.specs.declared.ptypes.PType.{PType}
use Rattle.vx_base.specs.declared.ptypes.PType.TheVariants.{U8}
use Rattle.vx_base.specs.Bits.{bool_at}
use Rattle.vx_base.specs.Rows.{Row, null, whole, position_in, is_present, truth_of}
use Rattle.vx_base.specs.Kinds.{or_nullable, booleans, integers, is_nullable_kind}
use Rattle.vx_tree.specs.Tree.{Tree, bools, primitive, Valid, non_nullable, by_array}
use Rattle.vx_tree.specs.Meaning.{tree_len, kind_of, row_at, is_valid_at, nullable, picked}
use Rattle.vx_tree.specs.Shapes.{state_of, tree_state, taken_state, shape_of, sliced_shape, selected_shape, nulled_shape, taken_shape}
use Rattle.vx_tree.specs.Formed.{ValidFits}
use Rattle.vx_tree.specs.Plain.{IsPlain, IsPlainValid}
use Rattle.vx_tree.specs.Layouts.{is_constant}
use Rattle.vx_tree.specs.Extents.{extent_of}
use Rattle.vx_tree.specs.Needs.{HasNeedsOf}

-- ---- slicing: n rows from a start on

pub record IsSlice (t : Tree) (start n : ℕ) (r : Tree) : Type 0 where
  pub len : tree_len r ≡ n
  pub kind : kind_of r ≡ kind_of t
  pub shape : shape_of r ≡ sliced_shape (shape_of t)
  pub plain : IsPlain t → IsPlain r
  pub needs : HasNeedsOf t r
  pub rows : (i : ℕ) → i < n → row_at r i ≡ row_at t (start + i)

pub record IsValidSlice (v : Valid) (start n : ℕ) (w : Valid) : Type 0 where
  pub fits : ValidFits w n
  pub kind : nullable w ≡ nullable v
  pub state : state_of w ≡ state_of v
  pub plain : IsPlainValid v → IsPlainValid w
  pub bits : (i : ℕ) → i < n → is_valid_at w i ≡ is_valid_at v (start + i)

-- ---- selecting: the rows at positions

-- each position is below n
abbrev pub AreBelow : ℕ → List ℕ → Type 0
AreBelow n ps = All (λ k. k < n) ps

-- the validity can be read at each of the positions
abbrev pub ValidHasAll : Valid → List ℕ → Type 0
ValidHasAll (by_array t) ps = (kind_of t ≡ booleans false) × AreBelow (tree_len t) ps
ValidHasAll _ ps = Unit {0}

pub record IsSelected (t : Tree) (ps : List ℕ) (r : Tree) : Type 0 where
  pub len : tree_len r ≡ length ps
  pub kind : kind_of r ≡ kind_of t
  pub shape : shape_of r ≡ selected_shape (shape_of t)
  pub plain : IsPlain t → IsPlain r
  pub needs : HasNeedsOf t r
  pub rows : (i : ℕ) → i < length ps → row_at r i ≡ row_at t (slice_index ps i)

pub record IsValidSelected (v : Valid) (ps : List ℕ) (w : Valid) : Type 0 where
  pub fits : ValidFits w (length ps)
  pub kind : nullable w ≡ nullable v
  pub state : state_of w ≡ state_of v
  pub plain : IsPlainValid v → IsPlainValid w
  pub bits : (i : ℕ) → i < length ps → is_valid_at w i ≡ is_valid_at v (slice_index ps i)

-- ---- nulls: the same rows, null where another validity is not true

pub record IsNulled (t : Tree) (u : Valid) (r : Tree) : Type 0 where
  pub len : tree_len r ≡ tree_len t
  pub kind : kind_of r ≡ or_nullable (nullable u) (kind_of t)
  pub shape : shape_of r ≡ nulled_shape (shape_of t) (state_of u)
  pub plain : IsPlain t → IsPlainValid u → IsPlain r
  pub extent : extent_of r ≡ extent_of t
  pub needs : is_constant t ≡ false → HasNeedsOf t r
  pub rows : (i : ℕ) → i < tree_len t → row_at r i ≡ (if is_valid_at u i then row_at t i else null)

pub record IsValidNulled (v u : Valid) (n : ℕ) (w : Valid) : Type 0 where
  pub fits : ValidFits w n
  pub state : state_of w ≡ taken_state (state_of v) (state_of u)
  pub plain : IsPlainValid v → IsPlainValid u → IsPlainValid w
  pub bits : (i : ℕ) → i < n → is_valid_at w i ≡ (is_valid_at v i && is_valid_at u i)

-- the view of row i where a mask is true, 16 zero bytes elsewhere
abbrev pub valid_view : List (List ℕ) → List Bool → ℕ → List ℕ
valid_view views mask i = if bool_at mask i then slice_index_or views i [] else replicate 16 0

-- n rows of null, by a validity that is nowhere true
pub record IsValidNulls (v u : Valid) (n : ℕ) (w : Valid) : Type 0 where
  pub fits : ValidFits w n
  pub state : state_of w ≡ taken_state (state_of v) (state_of u)
  pub bits : (i : ℕ) → i < n → is_valid_at w i ≡ false

-- n rows of null in the layout of an array, by a validity that is nowhere true
pub record IsNulls (t : Tree) (n : ℕ) (u : Valid) (r : Tree) : Type 0 where
  pub len : tree_len r ≡ n
  pub kind : kind_of r ≡ or_nullable (nullable u) (kind_of t)
  pub shape : shape_of r ≡ taken_shape (shape_of t) (state_of u)
  pub rows : (i : ℕ) → i < n → row_at r i ≡ null

-- n counts of a type that are all 0
pub record IsZeroes (p : PType) (n : ℕ) (t : Tree) : Type 0 where
  pub len : tree_len t ≡ n
  pub plain : IsPlain t
  pub kind : kind_of t ≡ integers p false
  pub rows : (i : ℕ) → i < n → row_at t i ≡ whole (pos 0)

-- n codes that are all 0, null where a validity is not true
pub record IsZeroCodes (n : ℕ) (u : Valid) (t : Tree) : Type 0 where
  pub len : tree_len t ≡ n
  pub kind : kind_of t ≡ integers U8 (nullable u)
  pub state : tree_state t ≡ state_of u
  pub rows : (i : ℕ) → i < n → row_at t i ≡ (if is_valid_at u i then whole (pos 0) else null)

-- ---- taking: the rows at positions, null where a validity is not true

pub record IsTakenAt (t : Tree) (ps : List ℕ) (u : Valid) (r : Tree) : Type 0 where
  pub len : tree_len r ≡ length ps
  pub kind : kind_of r ≡ or_nullable (nullable u) (kind_of t)
  pub shape : shape_of r ≡ taken_shape (shape_of t) (state_of u)
  pub extent : 0 < tree_len t → extent_of r ≡ extent_of t
  pub needs : 0 < tree_len t → is_constant t ≡ false → HasNeedsOf t r
  pub rows : (i : ℕ) → i < length ps → row_at r i ≡ (if is_valid_at u i then row_at t (slice_index ps i) else null)

-- the validity of an array's rows
pub record IsValidityOf (t : Tree) (v : Valid) : Type 0 where
  pub fits : ValidFits v (tree_len t)
  pub state : state_of v ≡ tree_state t
  pub kind : nullable v ≡ is_nullable_kind (kind_of t)
  pub bits : (i : ℕ) → i < tree_len t → is_valid_at v i ≡ is_present (row_at t i)

-- ---- indices

-- the position, 0 where there is none
abbrev pub or_zero : Option ℕ → ℕ
or_zero None = 0
or_zero (Some k) = k

-- the positions that rows of integers name
abbrev pub positions : List Row → List (Option ℕ)
positions rs = map position_in rs

-- the position below a bound that a row names, 0 where it is null
pub record IsPosition (bound : ℕ) (r : Row) (k : ℕ) : Type 0 where
  pub told : k ≡ or_zero (position_in r)
  pub within : IfSome (position_in r) (λ p. p < bound)
  pub present : is_some (position_in r) ≡ is_present r

-- the positions below a bound that the rows of an array name, 0 where they are null
pub record ArePositions (t : Tree) (bound : ℕ) (ps : List ℕ) : Type 0 where
  pub len : length ps ≡ tree_len t
  pub each : (i : ℕ) → i < tree_len t → IsPosition bound (row_at t i) (slice_index ps i)

-- numbers under a mask, as an array: null where the mask is false
abbrev pub masked_numbers : PType → List ℕ → List Bool → Tree
masked_numbers t bytes mask = primitive t bytes (by_array (bools 0 mask non_nullable))

-- ---- on lists of rows

-- the rows of a list at these positions: null where there is none
abbrev pub picks : List Row → List (Option ℕ) → List Row
picks rs ps = map (picked (λ k. slice_index_or rs k null)) ps

-- the rows at which a mask is true
abbrev pub filtered : List Bool → List Row → List Row
filtered [] rs = []
filtered (b ∷ mask) [] = []
filtered (true ∷ mask) (r ∷ rs) = r ∷ filtered mask rs
filtered (false ∷ mask) (r ∷ rs) = filtered mask rs

-- the same rows, null where a mask is false
abbrev pub masked : List Bool → List Row → List Row
masked [] rs = []
masked (b ∷ mask) [] = []
masked (b ∷ mask) (r ∷ rs) = (if b then r else null) ∷ masked mask rs

-- the booleans that rows are
abbrev pub truths : List Row → List Bool
truths rs = map truth_of rs
