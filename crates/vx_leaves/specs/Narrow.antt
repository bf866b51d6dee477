-- The least type of whole numbers that has the valid numbers of an array.
use Rattle.std.specs.Prelude.{◌≡◌, ◌≤ℤ◌, ◌<◌, ◌&&◌, ℤ, pos, Bool, true, false, List, [], ◌∷◌, replicate, if◌then◌else◌}
use Rattle.std.specs.Int.Signed.{le_z}
use Rattle.std.specs.List.{All, list_all}
use Rattle.vx_base.specs.declared.ptypes.PType.{PType}
use Rattle.vx_base.specs.declared.ptypes.PType.TheVariants.{U8, U16, U32, I8, I16, I32, I64}
use Rattle.vx_base.specs.Integers.{byte_width, least, greatest, Holds}
use Rattle.vx_base.specs.Rows.{Row, whole}
use Rattle.vx_tree.specs.Tree.{Tree}
use Rattle.vx_tree.specs.Meaning.{tree_len, rows}
use Rattle.vx_leaves.specs.Leaves.{type_in, validity_of, numbers_in}

-- the numbers among rows, in order
abbrev pub numbers_among : List Row → List ℤ
numbers_among [] = []
numbers_among (whole z ∷ rs) = z ∷ numbers_among rs
numbers_among (_ ∷ rs) = numbers_among rs

-- the numbers of the valid rows of an array
abbrev pub valid_numbers : Tree → List ℤ
valid_numbers t = numbers_among (rows t)

-- ---- the narrowed type

-- none of the numbers is negative
abbrev pub none_negative : List ℤ → Bool
none_negative zs = list_all (λ z. le_z (pos 0) z) zs

-- none of the numbers passes the greatest number of a type
abbrev pub none_above : PType → List ℤ → Bool
none_above t zs = list_all (λ z. le_z z (greatest t)) zs

-- a type has each of the numbers
abbrev pub holds_all : PType → List ℤ → Bool
holds_all t zs = list_all (λ z. le_z (least t) z && le_z z (greatest t)) zs

-- the types to which numbers are narrowed, the narrowest first: without a sign where no number is negative
abbrev pub narrower : Bool → List PType
narrower true = U8 ∷ U16 ∷ U32 ∷ []
narrower false = I8 ∷ I16 ∷ I32 ∷ []

-- the first of these types that has each of the numbers, t where none has
abbrev pub first_that_holds : List PType → PType → List ℤ → PType
first_that_holds [] t zs = t
first_that_holds (u ∷ us) t zs = if holds_all u zs then u else first_that_holds us t zs

-- the narrowed type of numbers of a type: the type itself where one passes the greatest number of 64 bits with a sign
abbrev pub narrowed_type : PType → List ℤ → PType
narrowed_type t zs = if none_above I64 zs then first_that_holds (narrower (none_negative zs)) t zs else t

-- no type of fewer bytes has all of these numbers
abbrev pub IsLeastWidth : PType → List ℤ → Type 0
IsLeastWidth t zs = (u : PType) → byte_width u < byte_width t → All (Holds u) zs → ⊥

-- of numbers that a type has, the narrowed type has them too, and none of fewer bytes does; of none at all it is u8
pub record IsNarrowedType (t : PType) (zs : List ℤ) : Type 0 where
  pub holds : All (Holds (narrowed_type t zs)) zs
  pub least_width : IsLeastWidth (narrowed_type t zs) zs
  pub none : zs ≡ [] → narrowed_type t zs ≡ U8

abbrev pub NarrowedTypes : Type 0
NarrowedTypes = (t : PType) (zs : List ℤ) → All (Holds t) zs → IsNarrowedType t zs

-- ---- narrowed arrays

-- the same rows under the same validity, in the narrowed type of the valid numbers, which is of the least width; where
-- no row is valid each number is 0
pub record IsNarrowed (t r : Tree) : Type 0 where
  pub same_rows : rows r ≡ rows t
  pub validity : validity_of r ≡ validity_of t
  pub ptype : type_in r ≡ narrowed_type (type_in t) (valid_numbers t)
  pub least_width : IsLeastWidth (type_in r) (valid_numbers r)
  pub zeroes : valid_numbers t ≡ [] → numbers_in r ≡ replicate (tree_len t) (pos 0)

-- ---- numbers under a mask

-- the numbers at which a mask is true
abbrev pub kept : List Bool → List ℤ → List ℤ
kept [] zs = []
kept (b ∷ mask) [] = []
kept (true ∷ mask) (z ∷ zs) = z ∷ kept mask zs
kept (false ∷ mask) (z ∷ zs) = kept mask zs

-- the numbers, 0 where a mask is false
abbrev pub zeroed : List Bool → List ℤ → List ℤ
zeroed [] zs = []
zeroed (b ∷ mask) [] = []
zeroed (b ∷ mask) (z ∷ zs) = (if b then z else pos 0) ∷ zeroed mask zs

-- ---- from the least to the greatest of numbers

-- of numbers of a type, met one after another: m is the least and g the greatest, and of none the type's greatest and least
pub record IsSpan (t : PType) (zs : List ℤ) (m g : ℤ) : Type 0 where
  pub above : (lo : ℤ) → lo ≤ℤ greatest t → list_all (λ z. le_z lo z) zs ≡ le_z lo m
  pub below : (hi : ℤ) → least t ≤ℤ hi → list_all (λ z. le_z z hi) zs ≡ le_z g hi

-- a type has all numbers from m up to g
abbrev pub covers : PType → ℤ → ℤ → Bool
covers t m g = le_z (least t) m && le_z g (greatest t)

abbrev pub first_that_covers : List PType → PType → ℤ → ℤ → PType
first_that_covers [] t m g = t
first_that_covers (u ∷ us) t m g = if covers u m g then u else first_that_covers us t m g

-- the narrowed type of numbers of which m is the least and g the greatest
abbrev pub type_between : PType → ℤ → ℤ → PType
type_between t m g = if le_z g (greatest I64) then first_that_covers (narrower (le_z (pos 0) m)) t m g else t
