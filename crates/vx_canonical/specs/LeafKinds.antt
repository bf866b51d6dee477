-- Kinds of rows that have no rows in them.
use Rattle.std.specs.Prelude.{Bool, true, false}
use Rattle.vx_base.specs.Kinds.{Kind, lists, fixed_lists, records}

-- booleans, integers, texts and byte lists
abbrev pub is_leaf_kind : Kind → Bool
is_leaf_kind (lists k m) = false
is_leaf_kind (fixed_lists k size m) = false
is_leaf_kind (records names ks m) = false
is_leaf_kind _ = true
