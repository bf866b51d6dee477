-- The flags of list views and of dictionaries.
use Rattle.std.specs.Prelude.{Bool, false}
use Rattle.vx_tree.specs.Tree.{Tree, dictionary, list_view}

-- the flag of a list view or of a dictionary is set
abbrev pub is_flagged : Tree → Bool
is_flagged (list_view e o s v f) = f
is_flagged (dictionary c v f) = f
is_flagged _ = false

-- the flag that the plain layout keeps: a list view's
abbrev pub kept_flag : Tree → Bool
kept_flag (list_view e o s v f) = f
kept_flag _ = false
