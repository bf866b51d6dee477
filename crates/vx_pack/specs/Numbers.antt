-- Numbers that stand one after another.
use Rattle.std.specs.Prelude.{◌≡◌, ◌<◌, ◌*◌, ℕ, List, length}
use Rattle.vx_base.specs.Bytes.{AreBytes}
use Rattle.vx_base.specs.Integers.{byte_width, number_nth, numbers}
use Rattle.vx_base.specs.Kinds.{Kind}
use Rattle.vx_base.specs.Rows.{whole}
use Rattle.vx_base.specs.declared.ptypes.PType.{PType}
use Rattle.vx_pack.specs.Parts.{part_len, part_row}
use Rattle.vx_pack.specs.declared.parts.Part.{Part}

-- the bytes of the rows, each of which is a number
pub record AreNumberBytes (t : PType) (p : Part) (bs : List ℕ) : Type 0 where
  pub len : length bs ≡ part_len p * byte_width t
  pub bytes : AreBytes bs
  pub rows : (k : Kind) (i : ℕ) → i < part_len p → part_row k p i ≡ whole (number_nth (numbers t bs) i)
