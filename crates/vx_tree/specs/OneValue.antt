-- Dictionaries of one value.
use Rattle.std.specs.Prelude.{◌≡◌}
use Rattle.vx_tree.specs.Tree.{Tree, dictionary}
use Rattle.vx_tree.specs.Meaning.{tree_len}

-- a dictionary has one value
abbrev pub HasOneValue : Tree → Type 0
HasOneValue (dictionary c v f) = tree_len v ≡ 1
HasOneValue _ = Unit {0}
