-- Numbers of a type that are positions, which are never negative.
use Rattle.std.proofs.Common.{ℕ, suc, ◌^◌, ◌*◌, ◌<◌, ◌≡◌, List, [], ◌∷◌, take, drop, map, true, refl, sym, ◌∙◌, ap, subst, arith, to_z, of_z}
use Rattle.std.specs.Prelude.{ℤ, pos, negsuc, ◌≤ℤ◌, ◌<ℤ◌, unsigned_abs}
use Rattle.std.specs.Int.{w128}
use Rattle.std.specs.List.{All}
use Rattle.std.proofs.lemmas.Int.{ints, to_z_pos}
use Rattle.vx_base.proofs.NumberLists.{length_numbers, get_numbers}
use Rattle.vx_base.specs.Integers.{byte_width, is_unsigned, number_of, numbers, Holds}
use Rattle.vx_base.specs.declared.ptypes.PType.{PType}
use Rattle.vx_base.specs.declared.ptypes.PType.TheVariants.{U8, U16, U32, U64, I8, I16, I32, I64}

-- no type has a number of more than 64 bits
pub holds-below : (t : PType) (z : ℤ) → Holds t z → z <ℤ pos (2 ^ 64)
holds-below U8 z h = omega (arith, ints)
holds-below U16 z h = omega (arith, ints)
holds-below U32 z h = omega (arith, ints)
holds-below U64 z h = omega (arith, ints)
holds-below I8 z h = omega (arith, ints)
holds-below I16 z h = omega (arith, ints)
holds-below I32 z h = omega (arith, ints)
holds-below I64 z h = omega (arith, ints)

-- the size of a number is a position
pub size_below : (t : PType) (z : ℤ) → Holds t z → unsigned_abs z < 2 ^ 64
size_below U8 z h = omega (arith, ints)
size_below U16 z h = omega (arith, ints)
size_below U32 z h = omega (arith, ints)
size_below U64 z h = omega (arith, ints)
size_below I8 z h = omega (arith, ints)
size_below I16 z h = omega (arith, ints)
size_below I32 z h = omega (arith, ints)
size_below I64 z h = omega (arith, ints)

-- the size of a number that is not negative
size_of : (z : ℤ) → pos 0 ≤ℤ z → pos (unsigned_abs z) ≡ z
size_of (pos n) low = refl
size_of (negsuc n) low = absurd (omega (arith, ints))

-- the sizes of numbers none of which is negative
pub sizes_of : (zs : List ℤ) → All (λ z. pos 0 ≤ℤ z) zs → map pos (map unsigned_abs zs) ≡ zs
sizes_of [] all = refl
sizes_of (z ∷ zs) all = ap (λ (x : ℤ). x ∷ map pos (map unsigned_abs zs)) (size_of z (all 0 (pos 0) (omega arith))) ∙ ap (λ (xs : List ℤ). z ∷ xs) (sizes_of zs (λ k d within. all (suc k) d (omega (arith, within))))

-- what a cast to a position gives
pub position_of : (z : ℤ) → pos 0 ≤ℤ z → z <ℤ pos (2 ^ 64) → pos (unsigned_abs (to_z w128 (of_z w128 z))) ≡ z
position_of (pos n) low high = ap pos (omega (arith, ints))
position_of (negsuc n) low high = absurd (omega (arith, ints))

-- a position as a signed number of 128 bits
pub signed_position : (n : ℕ) → n < 2 ^ 64 → to_z w128 n ≡ pos n
signed_position n h = to_z_pos w128 n (omega arith)

-- a number of a type without sign is not negative
unsigned_number : (t : PType) (bs : List ℕ) → is_unsigned t ≡ true → pos 0 ≤ℤ number_of t bs
unsigned_number U8 bs h = omega (arith, ints)
unsigned_number U16 bs h = omega (arith, ints)
unsigned_number U32 bs h = omega (arith, ints)
unsigned_number U64 bs h = omega (arith, ints)
unsigned_number I8 bs h = absurd (cc)
unsigned_number I16 bs h = absurd (cc)
unsigned_number I32 bs h = absurd (cc)
unsigned_number I64 bs h = absurd (cc)

pub unsigned-numbers : (t : PType) (bs : List ℕ) → is_unsigned t ≡ true → All (λ y. pos 0 ≤ℤ y) (numbers t bs)
unsigned-numbers t bs h = λ k d within.
    let P : ℤ → Type 0 = λ y. pos 0 ≤ℤ y in
    subst P (sym (get_numbers t bs k d (omega (arith, length_numbers t bs)))) (unsigned_number t (take (byte_width t) (drop (k * byte_width t) bs)) h)
