-- The row of a kind where none is given.
use Rattle.std.specs.Prelude.{◌&&◌, if◌then◌else◌, ℕ, pos, Bool, true, false, List, [], ◌∷◌, replicate}
use Rattle.vx_base.specs.Kinds.{Kind, booleans, integers, texts, binaries, lists, fixed_lists, records, Kinds, no_kinds, kind}
use Rattle.vx_base.specs.Rows.{Row, null, boolean, whole, bytes, text, items, record_of, no_rows, rows_from, Fields, no_fields, field}

-- null where it may stand, and else false, 0, nothing, a list of defaults of the fixed size, or a record of defaults
abbrev mutual
  pub default_row : Kind → Row
  default_row (booleans n) = if n then null else boolean false
  default_row (integers t n) = if n then null else whole (pos 0)
  default_row (texts n) = if n then null else text []
  default_row (binaries n) = if n then null else bytes []
  default_row (lists k n) = if n then null else items no_rows
  default_row (fixed_lists k size n) = if n then null else items (rows_from (replicate size (default_row k)))
  default_row (records names ks n) = if n then null else record_of (default_fields names ks)

  pub default_fields : List (List ℕ) → Kinds → Fields
  default_fields (n ∷ ns) (kind k ks) = field n (default_row k) (default_fields ns ks)
  default_fields _ _ = no_fields

-- each record has as many names as kinds
abbrev mutual
  pub is_even : Kind → Bool
  is_even (lists k n) = is_even k
  is_even (fixed_lists k size n) = is_even k
  is_even (records names ks n) = even_fields names ks
  is_even _ = true

  pub even_fields : List (List ℕ) → Kinds → Bool
  even_fields [] no_kinds = true
  even_fields (n ∷ ns) (kind k ks) = is_even k && even_fields ns ks
  even_fields _ _ = false
