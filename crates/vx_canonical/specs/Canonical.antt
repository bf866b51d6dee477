-- The same rows in plain layout.
use Rattle.std.specs.Prelude.{◌≡◌, ◌<◌, ℕ, suc, false, List, [], ◌∷◌, length, map, slice_index}
use Rattle.std.specs.List.{AllZip}
use Rattle.vx_base.specs.declared.dtypes.DType.{DType}
use Rattle.vx_base.specs.DTypes.{dtype_meaning}
use Rattle.vx_base.specs.Rows.{Row, null}
use Rattle.vx_base.specs.Kinds.{Kind}
use Rattle.vx_tree.specs.Tree.{Tree, dictionary, fixed_list, list_view, structure}
use Rattle.vx_tree.specs.Tree.{view_array, Trees, no_trees, tree, Valid}
use Rattle.vx_tree.specs.Meaning.{tree_len, kind_of, row_at, is_valid_at}
use Rattle.vx_tree.specs.Shapes.{State, state_of, tree_state}
use Rattle.vx_tree.specs.Flags.{is_flagged, kept_flag}
use Rattle.vx_tree.specs.Formed.{ValidFits}
use Rattle.vx_tree.specs.Plain.{IsPlain, ArePlain, IsPlainValid}
use Rattle.vx_tree.specs.Columns.{AreRowsAt}
use Rattle.vx_tree.specs.Extents.{Extent, extent_of, extents_of, rows_extent}
use Rattle.vx_tree.specs.RowParts.{field_in}

-- the same rows, of the same kind
pub record HasRowsOf (t r : Tree) : Type 0 where
  pub len : tree_len r ≡ tree_len t
  pub kind : kind_of r ≡ kind_of t
  pub rows : (i : ℕ) → i < tree_len t → row_at r i ≡ row_at t i

-- a list view keeps its numbers and the rows of its elements, a view array its views and buffers
abbrev pub KeepsParts : Tree → Tree → Type 0
KeepsParts (list_view e o s v f) (list_view e2 o2 s2 w g) = HasRowsOf e e2 × HasRowsOf o o2 × HasRowsOf s s2
KeepsParts (list_view e o s v f) _ = ⊥
KeepsParts (view_array vs bs k v) (view_array ws cs k2 w) = (ws ≡ vs) × (cs ≡ bs)
KeepsParts (view_array vs bs k v) _ = ⊥
KeepsParts _ _ = Unit {0}

-- the same rows in plain layout, in the same state and of the same extent: a list view keeps its flag, and none is set else
pub record IsCanonical (t r : Tree) : Type 0 where
  pub same : HasRowsOf t r
  pub plain : IsPlain r
  pub state : tree_state r ≡ tree_state t
  pub extent : extent_of r ≡ extent_of t
  pub flag : is_flagged r ≡ kept_flag t
  pub kept : KeepsParts t r

-- n rows of each column, in plain layout
pub record AreCanonical (ts : Trees) (n : ℕ) (us : Trees) : Type 0 where
  pub rows_at : AreRowsAt ts (λ i. i) n us
  pub plain : ArePlain us
  pub extents : extents_of us ≡ extents_of ts

-- the rows at positions in plain layout, in the same state and of the same extent: no flag is set
pub record IsCanonicalAt (t : Tree) (ps : List ℕ) (r : Tree) : Type 0 where
  pub len : tree_len r ≡ length ps
  pub kind : kind_of r ≡ kind_of t
  pub plain : IsPlain r
  pub state : tree_state r ≡ tree_state t
  pub extent : extent_of r ≡ extent_of t
  pub flag : is_flagged r ≡ false
  pub rows : (i : ℕ) → i < length ps → row_at r i ≡ row_at t (slice_index ps i)

-- the rows of each column at positions, in plain layout
pub record AreCanonicalAt (ts : Trees) (ps : List ℕ) (us : Trees) : Type 0 where
  pub rows_at : AreRowsAt ts (slice_index ps) (length ps) us
  pub plain : ArePlain us
  pub extents : extents_of us ≡ extents_of ts

-- of the kind, the state and the extent of an array, in plain layout: no flag is set
pub record IsPlainLike (t r : Tree) : Type 0 where
  pub kind : kind_of r ≡ kind_of t
  pub plain : IsPlain r
  pub state : tree_state r ≡ tree_state t
  pub extent : extent_of r ≡ extent_of t
  pub flag : is_flagged r ≡ false

-- each part of the plain layout is that of the part, at every depth: the elements of lists, offsets, sizes and columns; of a
-- dictionary that has values, the rows are some of its values
abbrev mutual
  pub IsCanonicalWithin : Tree → Tree → Type 0
  IsCanonicalWithin (dictionary c v f) r = 0 < tree_len v → IsPickedWithin v r
  IsCanonicalWithin (fixed_list e k v n) (fixed_list d j w m) = IsCanonical e d × IsCanonicalWithin e d
  IsCanonicalWithin (fixed_list e k v n) _ = ⊥
  IsCanonicalWithin (list_view e o s v f) (list_view d p q w g) =
      IsCanonical e d × IsCanonicalWithin e d × IsCanonical o p × IsCanonical s q
  IsCanonicalWithin (list_view e o s v f) _ = ⊥
  IsCanonicalWithin (structure ns ts v n) (structure ms us w m) = AreCanonicalWithin ts us
  IsCanonicalWithin (structure ns ts v n) _ = ⊥
  IsCanonicalWithin _ _ = Unit {0}

  -- each column is the plain layout of the column, at every depth
  pub AreCanonicalWithin : Trees → Trees → Type 0
  AreCanonicalWithin no_trees no_trees = Unit {0}
  AreCanonicalWithin (tree t ts) (tree u us) = IsCanonical t u × IsCanonicalWithin t u × AreCanonicalWithin ts us
  AreCanonicalWithin _ _ = ⊥

  -- the rows are some of an array's, in plain layout: lists keep their elements, each in plain layout at every depth, and the types of
  -- offsets and sizes, texts and byte lists their buffers, and so do the elements of lists of one size and the columns
  pub IsPickedWithin : Tree → Tree → Type 0
  IsPickedWithin (dictionary c v f) r = 0 < tree_len v → IsPickedWithin v r
  IsPickedWithin (fixed_list e k v n) (fixed_list d j w m) = IsPlainLike e d × IsPickedWithin e d
  IsPickedWithin (fixed_list e k v n) _ = ⊥
  IsPickedWithin (list_view e o s v f) (list_view d p q w g) =
      IsCanonical e d × IsCanonicalWithin e d × (kind_of p ≡ kind_of o) × (kind_of q ≡ kind_of s)
  IsPickedWithin (list_view e o s v f) _ = ⊥
  IsPickedWithin (structure ns ts v n) (structure ms us w m) = ArePickedWithin ts us
  IsPickedWithin (structure ns ts v n) _ = ⊥
  IsPickedWithin (view_array vs bs k v) (view_array ws cs j w) = cs ≡ bs
  IsPickedWithin (view_array vs bs k v) _ = ⊥
  IsPickedWithin _ _ = Unit {0}

  -- the same of each column
  pub ArePickedWithin : Trees → Trees → Type 0
  ArePickedWithin no_trees no_trees = Unit {0}
  ArePickedWithin (tree t ts) (tree u us) = IsPlainLike t u × IsPickedWithin t u × ArePickedWithin ts us
  ArePickedWithin _ _ = ⊥

-- the elements, the types of offsets and sizes, the columns and the buffers of an array in plain layout
abbrev pub HasPartsOf : Tree → Tree → Type 0
HasPartsOf (fixed_list e k v n) (fixed_list d j w m) = d ≡ e
HasPartsOf (fixed_list e k v n) _ = ⊥
HasPartsOf (list_view e o s v f) (list_view d p q w g) = (d ≡ e) × (kind_of p ≡ kind_of o) × (kind_of q ≡ kind_of s)
HasPartsOf (list_view e o s v f) _ = ⊥
HasPartsOf (structure ns ts v n) (structure ms us w m) = us ≡ ts
HasPartsOf (structure ns ts v n) _ = ⊥
HasPartsOf (view_array vs bs k v) (view_array ws cs j w) = cs ≡ bs
HasPartsOf (view_array vs bs k v) _ = ⊥
HasPartsOf _ _ = Unit {0}

-- the validity of the same n rows, its array a plain one
pub record IsCanonicalValid (v : Valid) (n : ℕ) (w : Valid) : Type 0 where
  pub fits : ValidFits w n
  pub state : state_of w ≡ state_of v
  pub plain : IsPlainValid w
  pub bits : (i : ℕ) → i < n → is_valid_at w i ≡ is_valid_at v i

-- n rows in plain layout, of a kind and an extent, of which a validity is known: no flag is set
pub record IsBlank (k : Kind) (x : Extent) (n : ℕ) (v : Valid) (r : Tree) : Type 0 where
  pub len : tree_len r ≡ n
  pub kind : kind_of r ≡ k
  pub plain : IsPlain r
  pub state : tree_state r ≡ state_of v
  pub extent : extent_of r ≡ x
  pub flag : is_flagged r ≡ false
  pub nulls : (i : ℕ) → i < n → is_valid_at v i ≡ false → row_at r i ≡ null

-- n rows in plain layout, of a kind and an extent
pub record IsBlankPart (k : Kind) (x : Extent) (n : ℕ) (r : Tree) : Type 0 where
  pub len : tree_len r ≡ n
  pub kind : kind_of r ≡ k
  pub plain : IsPlain r
  pub extent : extent_of r ≡ x

-- no rows in plain layout for each field of rows from place c on, of the kind of a data type, with what its rows keep
abbrev pub AreKeptFields : ℕ → List DType → List Row → List Tree → Type 0
AreKeptFields c [] rs [] = Unit {0}
AreKeptFields c (d ∷ ds) rs (t ∷ ts) =
    IsBlankPart (dtype_meaning d) (rows_extent (dtype_meaning d) (map (field_in c) rs)) 0 t × AreKeptFields (suc c) ds rs ts
AreKeptFields c _ rs _ = ⊥

-- n rows in plain layout for each array, of its kind and its extent
abbrev pub AreBlankParts : List Tree → ℕ → List Tree → Type 0
AreBlankParts ts n rs = AllZip (λ t r. IsBlankPart (kind_of t) (extent_of t) n r) ts rs

-- n rows of null in plain layout, of a kind and an extent, in a state
pub record IsPlainNulls (k : Kind) (x : Extent) (n : ℕ) (s : State) (r : Tree) : Type 0 where
  pub len : tree_len r ≡ n
  pub kind : kind_of r ≡ k
  pub plain : IsPlain r
  pub state : tree_state r ≡ s
  pub extent : extent_of r ≡ x
  pub flag : is_flagged r ≡ false
  pub rows : (i : ℕ) → i < n → row_at r i ≡ null
