-- A constant that is selected stays one; nulls make it a dictionary of one value.
use Rattle.std.proofs.Common.{ℕ, ◌≡◌, false, refl}
use Rattle.vx_base.specs.Rows.{Row}
use Rattle.vx_base.specs.Kinds.{Kind}
use Rattle.vx_tree.specs.Tree.{Tree, constant, dictionary}
use Rattle.vx_tree.specs.OneValue.{HasOneValue}

pub constant_one_value : (t : Tree) (k : Kind) (r : Row) (n : ℕ) → t ≡ constant k r n → HasOneValue t
constant_one_value t k r n e = rw e tt

pub dictionary_one_value : (t c v : Tree) (k : Kind) (r : Row) → v ≡ constant k r 1 → t ≡ dictionary c v false → HasOneValue t
dictionary_one_value t c v k r a b = rw (b, a) refl

pub ruleset one_values = (constant_one_value, dictionary_one_value)
