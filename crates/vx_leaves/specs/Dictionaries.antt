-- Dictionaries: their parts, the fault of these, and which values are referenced.
use Rattle.std.specs.Prelude.{◌≡◌, ◌⊎◌, ◌≤◌, ◌<◌, ◌+◌, ◌↔◌, ℕ, Bool, true, false, List, codes, Option, Some, length, map, unsigned_abs}
use Rattle.std.specs.Prelude.{slice_index, if◌then◌else◌}
use Rattle.std.specs.Int.{bit_at}
use Rattle.vx_base.specs.Bits.{bool_at}
use Rattle.vx_base.specs.Integers.{numbers}
use Rattle.vx_base.specs.Kinds.{is_integers}
use Rattle.vx_base.specs.declared.ptypes.PType.{PType}
use Rattle.vx_base.specs.Refusals.{Refusal, mismatched_types}
use Rattle.vx_base.specs.Rows.{position_in}
use Rattle.vx_tree.specs.Tree.{Tree, dictionary}
use Rattle.vx_tree.specs.Meaning.{tree_len, kind_of, row_at}
use Rattle.vx_tree.specs.Faults.{indices_fault}
pub use Rattle.vx_tree.specs.Layouts.{is_dictionary, values_in}

-- ---- the parts of an array of its layout

-- the codes, one a row
abbrev pub codes_in : Tree → Tree
codes_in (dictionary c v f) = c
codes_in t = t

-- whether it is known that every value is referenced
abbrev pub referenced_flag : Tree → Bool
referenced_flag (dictionary c v f) = f
referenced_flag t = false

-- codes that are no integers, then the first valid one that is no position of a value
abbrev pub dictionary_fault : Tree → Tree → Option Refusal
dictionary_fault c v = if is_integers (kind_of c) then indices_fault (tree_len v) c else Some mismatched_types

-- ---- referenced values

-- some valid code is j
abbrev pub IsReferenced : Tree → ℕ → Type 0
IsReferenced c j = (i : ℕ) × (i < tree_len c) × (position_in (row_at c i) ≡ Some j)

-- a boolean for each value of a dictionary: r exactly where some valid code names it
pub record MarksReferenced (t : Tree) (r : Bool) (bits : List Bool) : Type 0 where
  pub len : length bits ≡ tree_len (values_in t)
  pub each : (j : ℕ) → j < tree_len (values_in t) → (bool_at bits j ≡ r) ↔ IsReferenced (codes_in t) j

-- one of the first n codes is j
abbrev pub IsNamedBefore : Tree → ℕ → ℕ → Type 0
IsNamedBefore c n j = (i : ℕ) × (i < n) × (position_in (row_at c i) ≡ Some j)

-- a boolean is r exactly where one of the first n codes names it
pub record AreNamed (c : Tree) (n count : ℕ) (r : Bool) (bits : List Bool) : Type 0 where
  pub len : length bits ≡ count
  pub each : (j : ℕ) → j < count → (bool_at bits j ≡ r) ↔ IsNamedBefore c n j

-- some of the codes from first up to last is j
abbrev pub NamesAmong : List ℕ → ℕ → ℕ → ℕ → Type 0
NamesAmong ps first last j = (i : ℕ) × (first ≤ i) × (i < last) × (slice_index ps i ≡ j)

-- the codes from first up to last mark what they name: a boolean is r where it was, and where one of them names it
pub record Marks (ps : List ℕ) (first last : ℕ) (r : Bool) (old new : List Bool) : Type 0 where
  pub len : length new ≡ length old
  pub each : (j : ℕ) → j < length old → (bool_at new j ≡ r) ↔ ((bool_at old j ≡ r) ⊎ NamesAmong ps first last j)

-- some of the codes from first on whose bit is set in a word is j
abbrev pub NamesSet : List ℕ → ℕ → ℕ → ℕ → Type 0
NamesSet ps first word j = (i : ℕ) × (bit_at word i ≡ 1) × (slice_index ps (first + i) ≡ j)

-- the codes from first on whose bit is set in a word mark what they name
pub record MarksSet (ps : List ℕ) (first word : ℕ) (r : Bool) (old new : List Bool) : Type 0 where
  pub len : length new ≡ length old
  pub each : (j : ℕ) → j < length old → (bool_at new j ≡ r) ↔ ((bool_at old j ≡ r) ⊎ NamesSet ps first word j)

-- the places that the numbers of bytes name, where they are not negative
abbrev pub number_places : PType → List ℕ → List ℕ
number_places t bytes = map unsigned_abs (numbers t bytes)

-- ---- printing

-- how the data of a dictionary is printed
abbrev pub data_text : Bool → List ℕ
data_text true = codes "all_values_referenced: true"
data_text false = codes "all_values_referenced: false"
