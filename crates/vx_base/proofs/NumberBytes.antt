-- Numbers and their bytes.
use Rattle.std.proofs.Common.{ℕ, ◌^◌, ◌<◌, ◌≡◌, List, [], ◌∷◌, length, get_or, refl, ◌∙◌, ap, rules, arith}
use Rattle.std.specs.Prelude.{ℤ, pos, negsuc, ◌%◌, FitsSigned}
use Rattle.std.proofs.Math.Nat.{mod-eq_of_lt}
use Rattle.num_traits.specs.Ints.{signed-bounds}
use Rattle.std.specs.Int.{w8, w16, w32, w64, w128, cast_signed, cast_unsigned, from_le_bytes}
use Rattle.std.proofs.lemmas.Int.{ints, to_z-of_z, of_z-to_z}
use Rattle.std.proofs.lemmas.Nat.{le_bytes_2, le_bytes_4, le_bytes_8, from_le_bytes-to_le_bytes_2, from_le_bytes-to_le_bytes_4, from_le_bytes-to_le_bytes_8}
use Rattle.vx_base.specs.Integers.{byte_width, bytes_of, number_of, Holds}
use Rattle.vx_base.specs.declared.ptypes.PType.{PType}
use Rattle.vx_base.specs.declared.ptypes.PType.TheVariants.{U8, U16, U32, U64, I8, I16, I32, I64}

-- bytes stand for a number below the power of their count
pub below_2 : (bs : List ℕ) → ((i : ℕ) → get_or bs i 0 < 256) → from_le_bytes w16 bs < 2 ^ 16
below_2 bs h = omega (arith, h 0, h 1)

pub below_4 : (bs : List ℕ) → ((i : ℕ) → get_or bs i 0 < 256) → from_le_bytes w32 bs < 2 ^ 32
below_4 bs h = omega (arith, h 0, h 1, h 2, h 3)

pub below_8 : (bs : List ℕ) → ((i : ℕ) → get_or bs i 0 < 256) → from_le_bytes w64 bs < 2 ^ 64
below_8 bs h = omega (arith, h 0, h 1, h 2, h 3, h 4, h 5, h 6, h 7)

-- the bits of a signed number
bits_below_8 : (z : ℤ) → FitsSigned w8 z → cast_unsigned w8 z < 2 ^ 8
bits_below_8 z f = omega (arith, ints)

bits_below_16 : (z : ℤ) → FitsSigned w16 z → cast_unsigned w16 z < 2 ^ 16
bits_below_16 z f = omega (arith, ints)

bits_below_32 : (z : ℤ) → FitsSigned w32 z → cast_unsigned w32 z < 2 ^ 32
bits_below_32 z f = omega (arith, ints)

bits_below_64 : (z : ℤ) → FitsSigned w64 z → cast_unsigned w64 z < 2 ^ 64
bits_below_64 z f = omega (arith, ints)

pub holds-number_of : (t : PType) (bs : List ℕ) → ((i : ℕ) → get_or bs i 0 < 256) → Holds t (number_of t bs)
holds-number_of U8 bs h = let b = h 0 in (omega (arith, ints), omega (arith, ints))
holds-number_of U16 bs h = let b = below_2 bs h in (omega (arith, ints), omega (arith, ints))
holds-number_of U32 bs h = let b = below_4 bs h in (omega (arith, ints), omega (arith, ints))
holds-number_of U64 bs h = let b = below_8 bs h in (omega (arith, ints), omega (arith, ints))
holds-number_of I8 bs h = let b = h 0 in (omega (arith, ints), omega (arith, ints))
holds-number_of I16 bs h = let b = below_2 bs h in (omega (arith, ints), omega (arith, ints))
holds-number_of I32 bs h = let b = below_4 bs h in (omega (arith, ints), omega (arith, ints))
holds-number_of I64 bs h = let b = below_8 bs h in (omega (arith, ints), omega (arith, ints))

-- what was written is what is read
pub number_of-bytes_of : (t : PType) (z : ℤ) → Holds t z → number_of t (bytes_of t z) ≡ z
number_of-bytes_of U8 (pos n) h = ap pos (mod-eq_of_lt (omega (arith, ints)))
number_of-bytes_of U8 (negsuc n) h = absurd (omega (arith, ints))
number_of-bytes_of U16 (pos n) h = ap pos (from_le_bytes-to_le_bytes_2 n (omega (arith, ints)))
number_of-bytes_of U16 (negsuc n) h = absurd (omega (arith, ints))
number_of-bytes_of U32 (pos n) h = ap pos (from_le_bytes-to_le_bytes_4 n (omega (arith, ints)))
number_of-bytes_of U32 (negsuc n) h = absurd (omega (arith, ints))
number_of-bytes_of U64 (pos n) h = ap pos (from_le_bytes-to_le_bytes_8 n (omega (arith, ints)))
number_of-bytes_of U64 (negsuc n) h = absurd (omega (arith, ints))
number_of-bytes_of I8 z h =
    let f = (signed-bounds w8 z).1 h in
    ap (cast_signed w8) (mod-eq_of_lt (bits_below_8 z f)) ∙ to_z-of_z w8 z f
number_of-bytes_of I16 z h =
    let f = (signed-bounds w16 z).1 h in
    ap (cast_signed w16) (from_le_bytes-to_le_bytes_2 _ (bits_below_16 z f)) ∙ to_z-of_z w16 z f
number_of-bytes_of I32 z h =
    let f = (signed-bounds w32 z).1 h in
    ap (cast_signed w32) (from_le_bytes-to_le_bytes_4 _ (bits_below_32 z f)) ∙ to_z-of_z w32 z f
number_of-bytes_of I64 z h =
    let f = (signed-bounds w64 z).1 h in
    ap (cast_signed w64) (from_le_bytes-to_le_bytes_8 _ (bits_below_64 z f)) ∙ to_z-of_z w64 z f

-- the bytes of one byte
one_byte : (bs : List ℕ) → length bs ≡ 1 → get_or bs 0 0 < 256 → (get_or bs 0 0 % 256) ∷ [] ≡ bs
one_byte [] e h = absurd (omega arith)
one_byte (x ∷ []) e h = ap (λ (v : ℕ). v ∷ []) (mod-eq_of_lt h)
one_byte (x ∷ y ∷ ys) e h = absurd (omega arith)

-- what was read is what was written
pub bytes_of-number_of : (t : PType) (bs : List ℕ) → length bs ≡ byte_width t → ((i : ℕ) → get_or bs i 0 < 256) → bytes_of t (number_of t bs) ≡ bs
bytes_of-number_of U8 bs e h = one_byte bs e (h 0)
bytes_of-number_of U16 bs e h = le_bytes_2 bs _ e h refl
bytes_of-number_of U32 bs e h = le_bytes_4 bs _ e h refl
bytes_of-number_of U64 bs e h = le_bytes_8 bs _ e h refl
bytes_of-number_of I8 bs e h = ap (λ (n : ℕ). (n % 256) ∷ []) (of_z-to_z w8 _ (h 0)) ∙ one_byte bs e (h 0)
bytes_of-number_of I16 bs e h = le_bytes_2 bs _ e h (of_z-to_z w16 _ (below_2 bs h))
bytes_of-number_of I32 bs e h = le_bytes_4 bs _ e h (of_z-to_z w32 _ (below_4 bs h))
bytes_of-number_of I64 bs e h = le_bytes_8 bs _ e h (of_z-to_z w64 _ (below_8 bs h))

-- a number of an integer type is passed to a function as it is
pub number_passed : (t : PType) (z : ℤ) → Holds t z → cast_signed w128 (cast_unsigned w128 z) ≡ z
number_passed U8 z held = to_z-of_z w128 z (search (rules, ints))
number_passed U16 z held = to_z-of_z w128 z (search (rules, ints))
number_passed U32 z held = to_z-of_z w128 z (search (rules, ints))
number_passed U64 z held = to_z-of_z w128 z (search (rules, ints))
number_passed I8 z held = to_z-of_z w128 z (search (rules, ints))
number_passed I16 z held = to_z-of_z w128 z (search (rules, ints))
number_passed I32 z held = to_z-of_z w128 z (search (rules, ints))
number_passed I64 z held = to_z-of_z w128 z (search (rules, ints))
