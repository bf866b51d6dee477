-- How large the integers of the types are.
use Rattle.std.proofs.Common.{◌≡◌, ℤ, pos, negsuc, ◌-◌, ◌^◌, ◌-ℤ◌, ◌≤ℤ◌, Bool, int_lt, FitsSigned, to_z, of_z, ap, sym, ◌∙◌, arith}
use Rattle.std.specs.Int.{w128}
use Rattle.std.proofs.lemmas.Int.{ints, to_z-of_z}
use Rattle.vx_base.specs.Integers.{Holds}
use Rattle.vx_base.specs.declared.ptypes.PType.{PType}
use Rattle.vx_base.specs.declared.ptypes.PType.TheVariants.{U8, U16, U32, U64, I8, I16, I32, I64}

-- the difference of two integers of a type is below 2 ^ 64
pub difference-le : (t : PType) (a b : ℤ) → Holds t a → Holds t b → (b -ℤ a) ≤ℤ pos (2 ^ 64 - 1)
difference-le U8 a b h k = omega (arith, ints)
difference-le U16 a b h k = omega (arith, ints)
difference-le U32 a b h k = omega (arith, ints)
difference-le U64 a b h k = omega (arith, ints)
difference-le I8 a b h k = omega (arith, ints)
difference-le I16 a b h k = omega (arith, ints)
difference-le I32 a b h k = omega (arith, ints)
difference-le I64 a b h k = omega (arith, ints)

-- so is the difference of an integer and one that is no less than 0 and no greater, and the type has it
pub difference-holds : (t : PType) (a b : ℤ) → pos 0 ≤ℤ a → a ≤ℤ b → Holds t b → Holds t (b -ℤ a)
difference-holds U8 a b n r k = (omega (arith, ints), omega (arith, ints))
difference-holds U16 a b n r k = (omega (arith, ints), omega (arith, ints))
difference-holds U32 a b n r k = (omega (arith, ints), omega (arith, ints))
difference-holds U64 a b n r k = (omega (arith, ints), omega (arith, ints))
difference-holds I8 a b n r k = (omega (arith, ints), omega (arith, ints))
difference-holds I16 a b n r k = (omega (arith, ints), omega (arith, ints))
difference-holds I32 a b n r k = (omega (arith, ints), omega (arith, ints))
difference-holds I64 a b n r k = (omega (arith, ints), omega (arith, ints))

-- an integer of any of the types
pub record IsNative (z : ℤ) : Type 0 where
  pub low : negsuc (2 ^ 63 - 1) ≤ℤ z
  pub high : z ≤ℤ pos (2 ^ 64 - 1)

pub IsNative-holds : (t : PType) (z : ℤ) → Holds t z → IsNative z
IsNative-holds U8 z h = record { low = omega (arith, ints); high = omega (arith, ints) }
IsNative-holds U16 z h = record { low = omega (arith, ints); high = omega (arith, ints) }
IsNative-holds U32 z h = record { low = omega (arith, ints); high = omega (arith, ints) }
IsNative-holds U64 z h = record { low = omega (arith, ints); high = omega (arith, ints) }
IsNative-holds I8 z h = record { low = omega (arith, ints); high = omega (arith, ints) }
IsNative-holds I16 z h = record { low = omega (arith, ints); high = omega (arith, ints) }
IsNative-holds I32 z h = record { low = omega (arith, ints); high = omega (arith, ints) }
IsNative-holds I64 z h = record { low = omega (arith, ints); high = omega (arith, ints) }

-- i128 has it, and the difference of two
pub difference-cast : (a b : ℤ) → IsNative a → IsNative b → to_z w128 (of_z w128 (to_z w128 (of_z w128 b) -ℤ to_z w128 (of_z w128 a))) ≡ b -ℤ a
difference-cast a b h k = omega (arith, ints)

pub wide-cast : (z : ℤ) → FitsSigned w128 z → to_z w128 (of_z w128 z) ≡ z
wide-cast z f = to_z-of_z w128 z f

-- a comparison in i128 is that of the integers
pub test-cast : (x y : ℤ) (b : Bool) → FitsSigned w128 x → FitsSigned w128 y → int_lt (to_z w128 (of_z w128 x)) (to_z w128 (of_z w128 y)) ≡ b → int_lt x y ≡ b
test-cast x y b f g e = ap (λ z. int_lt z y) (sym (to_z-of_z w128 x f)) ∙ ap (int_lt (to_z w128 (of_z w128 x))) (sym (to_z-of_z w128 y g)) ∙ e
