-- Numbers that stand one after another, with bits that tell which of them are there.
use Rattle.std.specs.Prelude.{◌≡◌, ◌<◌, ◌≤◌, ◌+◌, ◌*◌, ◌/◌, ◌^◌, ℕ, ℤ, List, length, replicate, slice_range, if◌then◌else◌}
use Rattle.std.specs.List.{flat_map, range_with_len}
use Rattle.vx_base.specs.Bits.{bool_at}
use Rattle.vx_base.specs.Integers.{byte_width}
use Rattle.vx_base.specs.declared.ptypes.PType.{PType}
use Rattle.vx_pack.specs.Packed.{bytes_of_numbers}
use Rattle.vx_pack.specs.declared.stored_numbers.StoredNumbers.{StoredNumbers}

-- how many numbers of so many bytes there are
abbrev pub stored_count : ℕ → StoredNumbers → ℕ
stored_count width s = length s.bytes.now / width

-- the bytes of the number at a place, zeroes where it is null
abbrev pub stored_bytes : ℕ → StoredNumbers → ℕ → List ℕ
stored_bytes width s i =
    if bool_at s.valid.now.bits (s.start + i) then slice_range s.bytes.now (i * width) (i * width + width) else replicate width 0

-- the bytes of all numbers
abbrev pub all_stored_bytes : ℕ → StoredNumbers → List ℕ
all_stored_bytes width s = flat_map (stored_bytes width s) (range_with_len 0 (stored_count width s))

-- there is a bit for each number of so many bytes, at places that can be counted
abbrev pub HasBits : ℕ → StoredNumbers → Type 0
HasBits width s = (s.start + stored_count width s ≤ length s.valid.now.bits) × (s.start + stored_count width s < 2 ^ 64)

-- they are these numbers, 0 where null
pub record AreStoredNumbers (t : PType) (zs : List ℤ) (s : StoredNumbers) : Type 0 where
  pub bits : HasBits (byte_width t) s
  pub bytes : all_stored_bytes (byte_width t) s ≡ bytes_of_numbers t zs
