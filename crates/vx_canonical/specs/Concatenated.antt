-- Arrays that are concatenated.
use Rattle.std.specs.Prelude.{◌≡◌, ◌*◌, ℕ, suc, Bool, true, ◌&&◌, List, [], ◌∷◌, map, if◌then◌else◌, Option, Some, None}
use Rattle.std.specs.List.{All, AllZip, flat_map, sum_by}
use Rattle.vx_base.specs.Kinds.{Kind, texts, binaries, lists, fixed_lists, records, Kinds, no_kinds, kind}
use Rattle.vx_base.specs.SameKind.{kind_eq}
use Rattle.vx_base.specs.Booleans.{count_fault}
use Rattle.vx_base.specs.Refusals.{Refusal, empty_input, differing_dtypes, or_else}
use Rattle.vx_tree.specs.Tree.{Tree, primitive}
use Rattle.vx_tree.specs.Meaning.{kind_of, rows, trees_from}
use Rattle.vx_tree.specs.Plain.{IsPlain}
use Rattle.vx_tree.specs.CanonicalFaults.{columns_fault}
use Rattle.vx_tree.specs.CanonicalFaults.{buffers_overflow}
use Rattle.vx_tree.specs.Extents.{Extent, extent_of, buffer_count, element_count, elements_extent, column_extent, joined_extent}
use Rattle.vx_canonical.specs.Canonical.{IsCanonical, IsCanonicalWithin}
use Rattle.vx_canonical.specs.Joined.{joined_len, HasJoinedNumbers}

-- all of them are of a kind
abbrev pub are_alike : Kind → List Tree → Bool
are_alike k [] = true
are_alike k (t ∷ ts) = kind_eq (kind_of t) k && are_alike k ts

-- none are given, they are not of one kind, or have more rows than can be counted; else the first fault of making each plain
abbrev pub given_fault : List Tree → Option Refusal
given_fault [] = Some empty_input
given_fault (t ∷ ts) =
    or_else (if are_alike (kind_of t) (t ∷ ts) then None else Some differing_dtypes)
    (or_else (count_fault (joined_len (t ∷ ts))) (columns_fault (trees_from (t ∷ ts))))

-- arrays of a kind, with so many rows together, of these extents: their lists have together more elements than can be counted, or
-- their texts or byte lists more buffers than can be numbered
abbrev mutual
  pub extents_fault : Kind → ℕ → List Extent → Option Refusal
  extents_fault (lists k m) n xs =
      or_else (count_fault (sum_by element_count xs)) (extents_fault k (sum_by element_count xs) (map elements_extent xs))
  extents_fault (fixed_lists k size m) n xs = or_else (count_fault (n * size)) (extents_fault k (n * size) (map elements_extent xs))
  extents_fault (records names ks m) n xs = fields_extents_fault ks 0 n xs
  extents_fault (texts m) n xs = buffers_overflow (sum_by buffer_count xs)
  extents_fault (binaries m) n xs = buffers_overflow (sum_by buffer_count xs)
  extents_fault _ n xs = None

  -- of the fields from place c on
  pub fields_extents_fault : Kinds → ℕ → ℕ → List Extent → Option Refusal
  fields_extents_fault no_kinds c n xs = None
  fields_extents_fault (kind k ks) c n xs =
      or_else (extents_fault k n (map (column_extent c) xs)) (fields_extents_fault ks (suc c) n xs)

-- the same of arrays of the kind of the first
abbrev pub plain_fault : List Tree → Option Refusal
plain_fault [] = None
plain_fault (t ∷ ts) = extents_fault (kind_of t) (joined_len (t ∷ ts)) (map extent_of (t ∷ ts))

-- the first fault of what is given, then that of joining it in plain layout
abbrev pub concat_fault : List Tree → Option Refusal
concat_fault ts = or_else (given_fault ts) (plain_fault ts)

-- the plain layouts of arrays, and their numbers and columns, one after another
pub record HasPlainNumbers (ts : List Tree) (r : Tree) : Type 0 where
  pub plain : List Tree
  pub canonical : AllZip IsCanonical ts plain
  pub within : AllZip IsCanonicalWithin ts plain
  pub numbers : HasJoinedNumbers plain r

-- the numbers and columns of arrays in plain layout, one after another, at every depth; an array of integers has none beside its rows
abbrev pub HasNumbersOf : List Tree → Tree → Type 0
HasNumbersOf ts (primitive p bs v) = Unit {0}
HasNumbersOf ts r = HasPlainNumbers ts r

-- the rows of arrays, of the kind of all, in plain layout, with the elements and the buffers of all
pub record IsConcatenated (ts : List Tree) (r : Tree) : Type 0 where
  pub same_rows : rows r ≡ flat_map rows ts
  pub kind : All (λ t. kind_of t ≡ kind_of r) ts
  pub plain : IsPlain r
  pub extent : extent_of r ≡ joined_extent (kind_of r) (map extent_of ts)
