-- Numbers that are written one after another.
use Rattle.std.proofs.Common.{ℕ, ◌+◌, ◌*◌, ◌≤◌, ◌≡◌, List, [], ◌∷◌, ◌++◌, length, take, arith}
use Rattle.std.specs.Prelude.{ℤ}
use borrow.Rule.Slice.PartMut.{put_mid}
use Rattle.vx_base.specs.Integers.{byte_width, bytes_of, numbers, Holds}
use Rattle.vx_base.specs.declared.ptypes.PType.{PType}
use Rattle.vx_base.specs.declared.ptypes.PType.TheVariants.{U8, U16, U32, U64, I8, I16, I32, I64}
use Rattle.vx_base.proofs.NumberLists.{numbers_put}

-- a number takes eight bytes at most
pub width_small : (t : PType) → byte_width t ≤ 8
width_small U8 = omega arith
width_small U16 = omega arith
width_small U32 = omega arith
width_small U64 = omega arith
width_small I8 = omega arith
width_small I16 = omega arith
width_small I32 = omega arith
width_small I64 = omega arith

-- a number after i others, where the width is known by itself
pub put_after : (t : PType) (xs ys : List ℕ) (width i k : ℕ) (z : ℤ) → width ≡ byte_width t → ys ≡ bytes_of t z → Holds t z → i * byte_width t + byte_width t ≤ length xs
    → numbers t (take ((i + 1) * byte_width t) (put_mid (i * width) k xs ys)) ≡ numbers t (take (i * byte_width t) xs) ++ z ∷ []
put_after t xs ys width i k z wide bytes h room = rw (wide, bytes) (numbers_put t xs i k z room h)
