-- The items of lists, one list after another, and where each list begins.
use Rattle.std.specs.Prelude.{◌≡◌, ℕ, Bool, List, [], map, sum, pos}
use Rattle.std.specs.List.{flat_map}
use Rattle.vx_base.specs.Kinds.{Kind, lists}
use Rattle.vx_base.specs.Rows.{Row}
use Rattle.vx_base.specs.declared.ptypes.PType.TheVariants.{I32}
use Rattle.vx_pack.specs.Packed.{bytes_of_numbers, count_type, items_or_blank, list_sizes, list_starts}
use Rattle.vx_pack.specs.declared.list_counts.ListCounts.{ListCounts}

-- the kind of the items of lists
abbrev pub item_of : Kind → Kind
item_of (lists k n) = k
item_of k = k

-- a kind of lists that have any size
abbrev pub AreLists : Kind → Type 0
AreLists k = (n : Bool) × (k ≡ lists (item_of k) n)

-- the items of all lists, none where a row is null
abbrev pub list_items : Kind → List Row → List Row
list_items k rs = flat_map (items_or_blank (item_of k) 0) rs

-- how many items each list has
abbrev pub item_counts : Kind → List Row → List ℕ
item_counts k rs = list_sizes (item_of k) rs

-- offsets and sizes of lists that have so many items each, of so many in all
pub record AreListCounts (total : ℕ) (ns : List ℕ) (c : ListCounts) : Type 0 where
  pub all : c.total ≡ total
  pub next : c.next ≡ sum ns
  pub offsets : c.offsets.items ≡ bytes_of_numbers (count_type total) (map pos (list_starts ns))
  pub sizes : c.sizes.items ≡ bytes_of_numbers (count_type total) (map pos ns)

-- no offsets and sizes yet
pub record IsNoCounts (c : ListCounts) : Type 0 where
  pub next : c.next ≡ 0
  pub offsets : c.offsets.items ≡ []
  pub sizes : c.sizes.items ≡ []

-- the bytes of offsets and sizes of the narrow type, of lists that have so many items each, where the next list begins there
pub record AreCountsUpTo (ns : List ℕ) (next : ℕ) (os ss : List ℕ) : Type 0 where
  pub begins : next ≡ sum ns
  pub offsets : os ≡ bytes_of_numbers I32 (map pos (list_starts ns))
  pub sizes : ss ≡ bytes_of_numbers I32 (map pos ns)
