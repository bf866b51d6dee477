-- The arrays without rows of rows, their parts, and the faults of these.
use Rattle.std.specs.Prelude.{◌≡◌, ℕ, Bool, ℤ, pos, List, [], Option, Some, None, unwrap_or, if◌then◌else◌}
use Rattle.std.specs.Option.{option_map}
use Rattle.vx_base.specs.Refusals.{Refusal, has_nulls}
use Rattle.vx_base.specs.declared.ptypes.PType.{PType}
use Rattle.vx_base.specs.declared.ptypes.PType.TheVariants.{U8}
use Rattle.vx_base.specs.Integers.{numbers}
use Rattle.vx_base.specs.Scalars.{TypedRow, typed_row}
use Rattle.vx_base.specs.declared.nullability.Nullability.{Nullability}
use Rattle.vx_base.specs.declared.nullability.Nullability.TheVariants.{NonNullable, Nullable}
use Rattle.vx_tree.specs.Tree.{Tree, bools, primitive, Valid, non_nullable, all_valid}
use Rattle.vx_tree.specs.Meaning.{kind_of, row_at}
use Rattle.vx_tree.specs.Validities.{has_no_nulls}
pub use Rattle.vx_tree.specs.Layouts.{is_bools, is_primitive, is_constant, first_bit}
pub use Rattle.vx_tree.specs.Faults.{validity_fault}
pub use Rattle.vx_tree.specs.Slots.{validity_of}

-- an array of these numbers, in their bytes
pub record IsPrimitive (t : PType) (zs : List ℤ) (v : Valid) (a : Tree) : Type 0 where
  pub bytes : List ℕ
  pub tree : a ≡ primitive t bytes v
  pub same : numbers t bytes ≡ zs

-- ---- the parts of an array of its layout

-- the truth values, valid or not
abbrev pub bits_in : Tree → List Bool
bits_in (bools b bits v) = bits
bits_in _ = []

-- the type of the numbers
abbrev pub type_in : Tree → PType
type_in (primitive t bs v) = t
type_in _ = U8

-- the bytes of the numbers, valid or not
abbrev pub bytes_in : Tree → List ℕ
bytes_in (primitive t bs v) = bs
bytes_in _ = []

-- the row of a constant, with its data type
abbrev pub scalar_in : Tree → TypedRow
scalar_in t = typed_row (kind_of t) (row_at t 0)

-- the state of rows of which none is null
abbrev pub plain_state : Nullability → Valid
plain_state NonNullable = non_nullable
plain_state Nullable = all_valid

-- the numbers, valid or not
abbrev pub numbers_in : Tree → List ℤ
numbers_in t = numbers (type_in t) (bytes_in t)

-- ---- items that may be none

-- the number of the item, else 0
abbrev pub number_or_zero : {A : Type 0} → (A → ℤ) → Option A → ℤ
number_or_zero value item = unwrap_or (option_map value item) (pos 0)

-- ---- faults

-- rows of which one is null
abbrev pub null_fault : Valid → ℕ → Option Refusal
null_fault v n = if has_no_nulls v n then None else Some has_nulls
