-- Which rows of numbers are valid, as they are read.
use Rattle.std.specs.Prelude.{◌≡◌, ◌≤◌, ◌<◌, ◌+◌, ◌*◌, ◌^◌, ℕ, Bool, List, length, replicate}
use Rattle.vx_base.specs.Bits.{unpacked}
use Rattle.vx_base.specs.declared.ptypes.PType.{PType}
use Rattle.vx_tree.specs.Tree.{Tree, Valid, primitive}
use Rattle.vx_tree.specs.Meaning.{tree_len, valid_mask}
use Rattle.vx_leaves.specs.declared.valid_rows.ValidState.{ValidState}
use Rattle.vx_leaves.specs.declared.valid_rows.ValidState.TheVariants.{Alike, Told}

-- the booleans: one for so many rows, or those that the bits of bytes tell
abbrev pub told_rows : ValidState → List Bool
told_rows (Alike valid len) = replicate len valid
told_rows (Told bytes offset len) = unpacked bytes offset len

-- the bytes have all of these bits
abbrev pub AreHeld : ValidState → Type 0
AreHeld (Alike valid len) = Unit {0}
AreHeld (Told bytes offset len) = (offset + len ≤ 8 * length bytes) × (offset + len < 2 ^ 64)

-- where an array has numbers, these booleans tell which of them are valid
abbrev pub TellsNumbers : Tree → List Bool → Type 0
TellsNumbers c mask = (p : PType) (bs : List ℕ) (v : Valid) → c ≡ primitive p bs v → mask ≡ valid_mask v (tree_len c)
