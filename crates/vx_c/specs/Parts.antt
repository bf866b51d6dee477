-- What is known of arrays without having them.
use Rattle.std.specs.Prelude.{◌≡◌, ◌≤◌, ℕ, ℤ, Bool, true, List, [], ◌∷◌, length, take, drop, None, Result, Ok, Err}
use Rattle.vx_base.specs.declared.ptypes.PType.{PType}
use Rattle.vx_base.specs.Integers.{numbers}
use Rattle.vx_base.specs.Kinds.{is_integers, is_plain_booleans, is_plain_integers}
use Rattle.vx_views.specs.BuildFaults.{differences}
use Rattle.vx_tree.specs.Faults.{validity_fault, indices_fault}
use Rattle.vx_tree.specs.Meaning.{tree_len, kind_of, nullable}
use Rattle.vx_tree.specs.Tree.{Tree, primitive, Valid, non_nullable}
use Rattle.vx_c.specs.declared.parts.Part.{Part}
use Rattle.vx_c.specs.declared.parts.Part.TheVariants.{Truths, Numbers, Starts, Sizes, Rows}
use Rattle.vx_c.specs.declared.table.CodraskNode.{CodraskNode}
use Rattle.vx_c.specs.declared.table.NodeKind.{NodeKind}
use Rattle.vx_lists.specs.ListViews.Faults.{list_rows_fault}
use Rattle.vx_c.specs.Spans.{starts_of}
use Rattle.vx_structs.specs.Structs.Faults.{column_lens_fault}
use Rattle.vx_c.specs.Tables.{NodeFault, layout_made}

-- an array of these whole numbers, none of which may be null, in bytes
pub record HasNumbers (zs : List ℤ) (t : Tree) : Type 0 where
  pub type : PType
  pub bytes : List ℕ
  pub is : t ≡ primitive type bytes non_nullable
  pub same : numbers type bytes ≡ zs

pub record HasBytes (p : PType) (bytes : List ℕ) (null : Bool) (t : Tree) : Type 0 where
  pub valid : Valid
  pub is : t ≡ primitive p bytes valid
  pub may : nullable valid ≡ null

-- what is known holds of an array
abbrev pub Describes : Part → Tree → Type 0
Describes (Truths n) t = (is_plain_booleans (kind_of t) ≡ true) × (tree_len t ≡ n)
Describes (Numbers p bytes null) t = HasBytes p bytes.now null t
Describes (Starts p bytes) t = HasNumbers (starts_of (numbers p bytes.now)) t
Describes (Sizes p bytes) t = HasNumbers (differences (numbers p bytes.now)) t
Describes (Rows n) t = tree_len t ≡ n

abbrev pub AreDescribed : List Part → List Tree → Type 0
AreDescribed [] [] = Unit {0}
AreDescribed (p ∷ ps) (t ∷ ts) = Describes p t × AreDescribed ps ts
AreDescribed _ _ = ⊥

-- there is no fault, and it holds of the arrays
abbrev pub IsDescribed : {E : Type 0} → List Part → Result (List Tree) E → Type 0
IsDescribed ps (Ok ts) = AreDescribed ps ts
IsDescribed ps (Err f) = ⊥

-- there is no fault in a validity of so many rows, and it holds of the arrays that are left
abbrev pub IsValidOver : Bool → ℕ → List Part → Result (Valid × List Tree) NodeFault → Type 0
IsValidOver null len ps (Ok (v, ts)) = (validity_fault v len ≡ None) × (nullable v ≡ null) × AreDescribed ps ts
IsValidOver null len ps (Err f) = ⊥

-- there is no fault in an array of so many rows, and it holds of that and of the arrays that are left
abbrev pub IsPartMade : Part → List Part → ℕ → Result (Tree × List Tree) NodeFault → Type 0
IsPartMade p ps len (Ok (t, ts)) = Describes p t × (tree_len t ≡ len) × AreDescribed ps ts
IsPartMade p ps len (Err f) = ⊥

-- so it is of the array of a node of a kind, whichever arrays follow and whichever its validity is
abbrev pub Makes : NodeKind → CodraskNode → Bool → List Part → Part → List Part → Type 0
Makes k n null old p new =
    (v : Valid) (ts : List Tree) → validity_fault v n.length ≡ None → nullable v ≡ null → AreDescribed old ts
    → IsPartMade p new n.length (layout_made k n v ts)

-- so many arrays are there, each of so many rows, and it holds of those that are left
pub record AreTakenColumns (count len : ℕ) (ps : List Part) (ts : List Tree) : Type 0 where
  pub enough : count ≤ length ts
  pub faultless : column_lens_fault len (take count ts) ≡ None
  pub left : AreDescribed ps (drop count ts)

-- ---- lists and values

-- offsets and sizes of so many lists, each among so many elements
pub record AreLists (count len : ℕ) (o s : Tree) : Type 0 where
  pub offsets : is_plain_integers (kind_of o) ≡ true
  pub sizes : is_plain_integers (kind_of s) ≡ true
  pub offsets_len : tree_len o ≡ len
  pub sizes_len : tree_len s ≡ len
  pub rows : list_rows_fault count o s ≡ None

-- there is no fault in a validity of so many rows, and it holds of an array of as many and of those that are left
abbrev pub AreValuesOver : ℕ → List Part → Result (Valid × List Tree) NodeFault → Type 0
AreValuesOver len ps (Ok (v, ts)) = (validity_fault v len ≡ None) × ((t : Tree) → tree_len t ≡ len → AreDescribed ps (t ∷ ts))
AreValuesOver len ps (Err f) = ⊥

-- whole numbers of which each that is not null names one of so many values
abbrev pub AreCodes : ℕ → Tree → Type 0
AreCodes count c = (is_integers (kind_of c) ≡ true) × (indices_fault count c ≡ None)
