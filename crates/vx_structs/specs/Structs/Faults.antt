-- Why the parts of records, or a call on their columns, are refused.
use Rattle.std.specs.Prelude.{◌≡◌, ◌⊎◌, ℕ, List, [], ◌∷◌, length, if◌then◌else◌, Option, Some, None}
use Rattle.std.specs.Iterator.{Drains}
use Rattle.vx_base.specs.Fields.{place_of_name}
use Rattle.vx_base.specs.Kinds.{Kind, Kinds, kind}
use Rattle.vx_base.specs.SameKind.{kind_eq}
use Rattle.vx_base.specs.declared.errors.VortexError.{VortexError}
use Rattle.vx_base.specs.declared.errors.VortexError.TheVariants.{Memory}
use Rattle.vx_base.specs.Refusals.{Refusal, Names, mismatched_types, unknown_field, empty_input, or_else}
use Rattle.vx_tree.specs.Tree.{Tree, Valid}
use Rattle.vx_tree.specs.Meaning.{tree_len, kind_of}
use Rattle.vx_tree.specs.Faults.{length_fault, validity_fault}

-- ---- parts

-- the first column that has not so many rows
abbrev pub column_lens_fault : ℕ → List Tree → Option Refusal
column_lens_fault n [] = None
column_lens_fault n (t ∷ ts) = or_else (length_fault n (tree_len t)) (column_lens_fault n ts)

-- the first fault of the validity and the columns of so many records
abbrev pub columns_fault : List Tree → Valid → ℕ → Option Refusal
columns_fault columns v n = or_else (validity_fault v n) (column_lens_fault n columns)

-- the first fault of the parts of so many records: another number of columns than of names, validity, columns
abbrev pub struct_fault : List (List ℕ) → List Tree → Valid → ℕ → Option Refusal
struct_fault names columns v n = or_else (length_fault (length names) (length columns)) (columns_fault columns v n)

-- a column of another kind
abbrev pub kind_fault : Kind → Tree → Option Refusal
kind_fault k t = if kind_eq (kind_of t) k then None else Some mismatched_types

-- a column of another kind, then one that has not so many rows
abbrev pub typed_column_fault : Kind → ℕ → Tree → Option Refusal
typed_column_fault k n t = or_else (kind_fault k t) (length_fault n (tree_len t))

-- the first column that is not of the kind at its place, or has not so many rows
abbrev pub typed_columns_fault : Kinds → ℕ → List Tree → Option Refusal
typed_columns_fault (kind k ks) n (t ∷ ts) = or_else (typed_column_fault k n t) (typed_columns_fault ks n ts)
typed_columns_fault _ n _ = None

-- the first fault of so many records under these names and kinds: columns and validity
abbrev pub typed_struct_fault : List (List ℕ) → Kinds → List Tree → Valid → ℕ → Option Refusal
typed_struct_fault names ks columns v n =
    or_else (length_fault (length names) (length columns)) (or_else (validity_fault v n) (typed_columns_fault ks n columns))

-- no column is given; else the first fault of as many records as the first column has rows
abbrev pub first_fault_of : List Tree → Valid → Option Refusal
first_fault_of [] v = Some empty_input
first_fault_of (t ∷ ts) v = columns_fault (t ∷ ts) v (tree_len t)

-- ---- names

-- no field has the name
abbrev pub unknown_fault : Option ℕ → Option Refusal
unknown_fault None = Some unknown_field
unknown_fault (Some i) = None

-- a name that no field has
abbrev pub names_fault : List (List ℕ) → List (List ℕ) → Option Refusal
names_fault names [] = None
names_fault names (wanted ∷ more) = or_else (unknown_fault (place_of_name names wanted)) (names_fault names more)

-- ---- what comes of an iterator

-- its items, without a fault, and what is made of them
pub record IsMadeOf {S A : Type 0} (steps : S → Option A → S → Type 0) (s : S) (fault : List A → Option Refusal)
    (P : List A → Tree → Type 0) (made : Tree) : Type 0 where
  pub all : List A
  pub came : Drains steps s all
  pub faultless : fault all ≡ None
  pub is : P all made

-- why nothing is made of its items: want of memory, or their first fault
abbrev pub AreFaulty : {S A : Type 0} → (S → Option A → S → Type 0) → S → (List A → Option Refusal) → VortexError → Type 0
AreFaulty {S} {A} steps s fault e = (e ≡ Memory) ⊎ ((all : List A) × Drains steps s all × Names (fault all) e)
