-- The parts of a bool and of a primitive array apart from its validity.
use Rattle.std.specs.Prelude.{◌≡◌, ◌≤◌, ◌<◌, ◌+◌, ◌*◌, ℕ, ℤ, Bool, List, length, codes, ◌++◌}
use Rattle.std.specs.Fmt.{decimal}
use Rattle.vx_base.specs.Bits.{unpacked}
use Rattle.vx_base.specs.Integers.{type_name, numbers, byte_width}
use Rattle.vx_base.specs.declared.ptypes.PType.{PType}

-- bytes, and the bit of the first of them at which truth values begin
pub record BitData : Type 0 where
  pub bytes : List ℕ
  pub offset : ℕ

abbrev pub bit_data : List ℕ → ℕ → BitData
bit_data bs at = record { bytes = bs; offset = at }

-- these truth values stand there
pub record HoldsBits (d : BitData) (bits : List Bool) : Type 0 where
  pub below : d.offset < 8
  pub enough : d.offset + length bits ≤ 8 * length d.bytes
  pub same : unpacked d.bytes d.offset (length bits) ≡ bits

-- bytes, and the type of the numbers that they hold
pub record NumberData : Type 0 where
  pub ptype : PType
  pub bytes : List ℕ

abbrev pub number_data : PType → List ℕ → NumberData
number_data t bs = record { ptype = t; bytes = bs }

-- these numbers, of this type, stand there, and no byte beyond the last of them
pub record HoldsNumbers (t : PType) (zs : List ℤ) (d : NumberData) : Type 0 where
  pub type : d.ptype ≡ t
  pub same : numbers t d.bytes ≡ zs
  pub whole : length d.bytes ≡ length zs * byte_width t

-- what is printed of either
abbrev pub bit_data_text : BitData → List ℕ
bit_data_text d = codes "offset: " ++ decimal d.offset

abbrev pub number_data_text : NumberData → List ℕ
number_data_text d = codes "ptype: " ++ type_name d.ptype
