-- The positions that indices name, where they lie.
use Rattle.std.specs.Prelude.{◌≡◌, ◌<◌, ℕ, ℤ, pos, Bool, List, length, map, replicate, unsigned_abs, Some, is_some, IfSome}
use Rattle.std.specs.Prelude.{slice_index, if◌then◌else◌}
use Rattle.vx_base.specs.declared.ptypes.PType.{PType}
use Rattle.vx_base.specs.Bits.{bool_at}
use Rattle.vx_base.specs.Integers.{numbers, number_nth}
use Rattle.vx_base.specs.Rows.{Row, whole, position_in, is_present}
use Rattle.vx_tree.specs.declared.indices.rows.Form.{Form}
use Rattle.vx_tree.specs.declared.indices.rows.Form.TheVariants as form
use Rattle.vx_tree.specs.Tree.{Tree, Valid}
use Rattle.vx_tree.specs.Meaning.{tree_len, row_at, is_valid_at, nullable}
use Rattle.vx_tree.specs.Shapes.{state_of}
use Rattle.vx_tree.specs.Formed.{ValidFits}
use Rattle.vx_tree.specs.Plain.{IsPlain}

-- the positions, in each form
abbrev pub named_by : Form → List ℕ
named_by (form.Numbers t bytes) = map unsigned_abs (numbers t bytes.now)
named_by (form.OwnNumbers t bytes) = map unsigned_abs (numbers t bytes.items)
named_by (form.Positions ps) = ps.items
named_by (form.Repeated position n) = replicate n position

-- a position below a bound, where that is not 0: the one that a row names, and any where the row is null
pub record IsIndex (bound : ℕ) (r : Row) (k : ℕ) : Type 0 where
  pub told : IfSome (position_in r) (λ p. k ≡ p)
  pub within : IfSome (position_in r) (λ p. p < bound)
  pub below : 0 < bound → k < bound
  pub present : is_some (position_in r) ≡ is_present r

-- such positions, one for each row of an array
pub record AreIndices (t : Tree) (bound : ℕ) (ps : List ℕ) : Type 0 where
  pub len : length ps ≡ tree_len t
  pub each : (i : ℕ) → i < tree_len t → IsIndex bound (row_at t i) (slice_index ps i)

-- the number at a place where a mask is true, 0 elsewhere
abbrev pub number_under : List ℤ → List Bool → ℕ → ℤ
number_under zs mask i = if bool_at mask i then number_nth zs i else pos 0

-- the rows of an array are these numbers, none of them null
pub record HasNumbers (t : Tree) (p : PType) (bytes : List ℕ) : Type 0 where
  pub len : tree_len t ≡ length (numbers p bytes)
  pub rows : (i : ℕ) → i < tree_len t → row_at t i ≡ whole (number_nth (numbers p bytes) i)

-- there are rows, they are all one, and the array is not plain
pub record IsRepeated (t : Tree) : Type 0 where
  pub some : 0 < tree_len t
  pub worked : IsPlain t → ⊥
  pub alike : (i : ℕ) → row_at t i ≡ row_at t 0

-- for each row the validity of the value that its code names, in the state of the values
pub record IsValidNamed (v : Valid) (c : Tree) (w : Valid) : Type 0 where
  pub fits : ValidFits w (tree_len c)
  pub kind : nullable w ≡ nullable v
  pub state : state_of w ≡ state_of v
  pub bits : (i k : ℕ) → i < tree_len c → position_in (row_at c i) ≡ Some k → is_valid_at w i ≡ is_valid_at v k
