-- The bytes of numbers, appended array by array.
use Rattle.std.specs.Prelude.{◌≡◌, ◌<◌, ◌++◌, ◌*◌, ℕ, ℤ, List, length, map, replicate, if◌then◌else◌}
use Rattle.vx_base.specs.Integers.{byte_width, numbers, number_nth}
use Rattle.vx_base.specs.Kinds.{integers, is_nullable_kind}
use Rattle.vx_base.specs.declared.ptypes.PType.{PType}
use Rattle.vx_base.specs.Rows.{Row, null, whole, is_present}
use Rattle.vx_tree.specs.Tree.{Tree}
use Rattle.vx_tree.specs.Meaning.{kind_of}

-- the rows are integers of a type
abbrev pub AreOfType : PType → Tree → Type 0
AreOfType p t = kind_of t ≡ integers p (is_nullable_kind (kind_of t))

-- bytes of n numbers: each row that is not null is the number at its place
pub record HoldNumbers (p : PType) (n : ℕ) (row : ℕ → Row) (bs : List ℕ) : Type 0 where
  pub len : length bs ≡ n * byte_width p
  pub each : (i : ℕ) → i < n → row i ≡ (if is_present (row i) then whole (number_nth (numbers p bs) i) else null)

-- the bytes of the numbers at positions of others
pub record ArePicked (p : PType) (bs : List ℕ) (ps : List ℕ) (cs : List ℕ) : Type 0 where
  pub len : length cs ≡ length ps * byte_width p
  pub numbers : numbers p cs ≡ map (number_nth (numbers p bs)) ps

-- the bytes of one number, n times
pub record AreRepeated (p : PType) (z : ℤ) (n : ℕ) (cs : List ℕ) : Type 0 where
  pub len : length cs ≡ n * byte_width p
  pub numbers : numbers p cs ≡ replicate n z

-- bytes are appended, of which P holds
pub record AreAppended (P : List ℕ → Type 0) (old new : List ℕ) : Type 0 where
  pub bytes : List ℕ
  pub items : new ≡ old ++ bytes
  pub holds : P bytes
