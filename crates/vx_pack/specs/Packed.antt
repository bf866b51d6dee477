-- The packed form of rows: one tree for a kind and its rows, at every depth, and nothing in it but them.
use Rattle.std.specs.Prelude.{◌≡◌, ◌⊎◌, ◌<◌, ◌≤◌, ◌-◌, ◌*◌, ◌^◌, ℕ, ℤ, suc, pos, Bool, true, false, List, length, map, sum, replicate, nat_le, if◌then◌else◌}
use Rattle.std.specs.Prelude.{unwrap_or}
use Rattle.std.specs.List.{flat_map, range_with_len}
use Rattle.vx_base.specs.Defaults.{default_row}
use Rattle.vx_base.specs.Integers.{bytes_of}
use Rattle.vx_base.specs.Kinds.{Kind, booleans, integers, texts, binaries, lists, fixed_lists, records, Kinds, no_kinds, kind}
use Rattle.vx_base.specs.Rows.{Row, items, list_from, record_of, is_present, truth_of, number_in}
use Rattle.vx_base.specs.declared.errors.VortexError.{VortexError}
use Rattle.vx_base.specs.declared.errors.VortexError.TheVariants.{Memory, Overflow}
use Rattle.vx_base.specs.declared.ptypes.PType.{PType}
use Rattle.vx_base.specs.declared.ptypes.PType.TheVariants.{I32, I64}
use Rattle.vx_views.specs.BuildFaults.{IsPieceCount}
use Rattle.vx_views.specs.Places.{place_of}
use Rattle.vx_views.specs.declared.view.TheConstants.{MAX_BUFFER_LEN}
use Rattle.vx_tree.specs.RowParts.{field_at}
use Rattle.vx_tree.specs.Tree.{Tree, bools, primitive, fixed_list, list_view, structure, Trees, no_trees, tree, Valid, non_nullable, all_valid}
use Rattle.vx_tree.specs.Validities.{valid_from}
use Rattle.vx_tree.specs.Values.{bytes_in}
use Rattle.vx_text.specs.Items.{Item, IsArrayOf, heap_lens}

-- ---- parts

-- the validity of rows: no null may stand, none stands, all are null, or bits tell, which begin with a byte
abbrev pub packed_valid : Bool → List Row → Valid
packed_valid false rs = non_nullable
packed_valid true rs = valid_from 0 (map is_present rs) all_valid

-- a kind of texts or of byte lists
abbrev pub has_bytes : Kind → Bool
has_bytes (texts n) = true
has_bytes (binaries n) = true
has_bytes _ = false

-- the number of a row, 0 where it is null
abbrev pub number_or_zero : Row → ℤ
number_or_zero r = unwrap_or (number_in r) (pos 0)

-- numbers as bytes of a type, one number after another
abbrev pub bytes_of_numbers : PType → List ℤ → List ℕ
bytes_of_numbers t zs = flat_map (bytes_of t) zs

-- counts, as an array of a type
abbrev pub counts_array : PType → List ℕ → Tree
counts_array t ns = primitive t (bytes_of_numbers t (map pos ns)) non_nullable

-- the rows of a list, so many default rows where it is null
abbrev pub items_or_blank : Kind → ℕ → Row → List Row
items_or_blank k blank (items rs) = list_from rs
items_or_blank k blank _ = replicate blank (default_row k)

-- how many rows each list has, none where it is null
abbrev pub list_sizes : Kind → List Row → List ℕ
list_sizes k rs = map (λ r. length (items_or_blank k 0 r)) rs

-- where each list begins, where they stand end to end
abbrev pub list_starts : List ℕ → List ℕ
list_starts sizes = map (place_of sizes) (range_with_len 0 (length sizes))

-- the type of offsets and sizes: the narrow one, where it holds the number of all elements
abbrev pub count_type : ℕ → PType
count_type total = if nat_le total (2 ^ 31 - 1) then I32 else I64

-- lists of these sizes, end to end
abbrev pub packed_lists : Tree → List ℕ → Valid → Tree
packed_lists e sizes v =
    let t = count_type (sum sizes) in list_view e (counts_array t (list_starts sizes)) (counts_array t sizes) v true

-- the field at a place of a row, the default row of its kind where the row is null
abbrev pub field_or_default : Kind → ℕ → Row → Row
field_or_default k c (record_of fs) = field_at c fs
field_or_default k c _ = default_row k

-- ---- the packed form

abbrev mutual
  -- a tree is the packed form of rows of a kind: nothing constant or coded, at every depth. Bits begin with a byte. What lies under
  -- null is false, 0, no bytes, no elements, default rows; values of at most 12 bytes stand in their views, the others in order in
  -- the fewest buffers; lists stand end to end
  pub IsPacked : Kind → List Row → Tree → Type 0
  IsPacked (booleans n) rs t = t ≡ bools 0 (map truth_of rs) (packed_valid n rs)
  IsPacked (integers p n) rs t = t ≡ primitive p (bytes_of_numbers p (map number_or_zero rs)) (packed_valid n rs)
  IsPacked (texts n) rs t = IsArrayOf (texts n) (map bytes_in rs) t
  IsPacked (binaries n) rs t = IsArrayOf (binaries n) (map bytes_in rs) t
  IsPacked (lists k n) rs t =
      (sum (list_sizes k rs) < 2 ^ 63) × ((e : Tree) × IsPacked k (flat_map (items_or_blank k 0) rs) e
      × (t ≡ packed_lists e (list_sizes k rs) (packed_valid n rs)))
  IsPacked (fixed_lists k size n) rs t =
      (length rs * size < 2 ^ 64) × ((e : Tree) × IsPacked k (flat_map (items_or_blank k size) rs) e
      × (t ≡ fixed_list e size (packed_valid n rs) (length rs)))
  IsPacked (records names ks n) rs t =
      (us : Trees) × ArePacked 0 ks rs us × (t ≡ structure names us (packed_valid n rs) (length rs))

  -- the same of the fields of rows, from a place on
  pub ArePacked : ℕ → Kinds → List Row → Trees → Type 0
  ArePacked c no_kinds rs no_trees = Unit {0}
  ArePacked c (kind k ks) rs (tree t us) = IsPacked k (map (field_or_default k c) rs) t × ArePacked (suc c) ks rs us
  ArePacked _ _ _ _ = ⊥

-- ---- what cannot be held

-- there are more buffers than can be numbered
abbrev pub HasTooManyBuffers : List Item → Type 0
HasTooManyBuffers its = (pieces : ℕ) × IsPieceCount MAX_BUFFER_LEN (heap_lens its) pieces × (2 ^ 32 < pieces)

abbrev mutual
  -- rows have no packed form: buffers past u32, lists whose elements i64 does not count, lists of one size with more elements
  -- than 64 bits count, at any depth
  pub IsTooLarge : Kind → List Row → Type 0
  IsTooLarge (booleans n) rs = ⊥
  IsTooLarge (integers p n) rs = ⊥
  IsTooLarge (texts n) rs = HasTooManyBuffers (map bytes_in rs)
  IsTooLarge (binaries n) rs = HasTooManyBuffers (map bytes_in rs)
  IsTooLarge (lists k n) rs = (2 ^ 63 ≤ sum (list_sizes k rs)) ⊎ IsTooLarge k (flat_map (items_or_blank k 0) rs)
  IsTooLarge (fixed_lists k size n) rs = (2 ^ 64 ≤ length rs * size) ⊎ IsTooLarge k (flat_map (items_or_blank k size) rs)
  IsTooLarge (records names ks n) rs = AreTooLarge 0 ks rs

  pub AreTooLarge : ℕ → Kinds → List Row → Type 0
  AreTooLarge c no_kinds rs = ⊥
  AreTooLarge c (kind k ks) rs = IsTooLarge k (map (field_or_default k c) rs) ⊎ AreTooLarge (suc c) ks rs

-- why rows are not packed: memory was refused, or they are too large
abbrev pub IsPackRefused : Kind → List Row → VortexError → Type 0
IsPackRefused k rs e = (e ≡ Memory) ⊎ ((e ≡ Overflow) × IsTooLarge k rs)
