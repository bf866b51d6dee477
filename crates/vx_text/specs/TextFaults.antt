-- Why the parts of an array of texts or byte lists are refused.
use Rattle.std.specs.Prelude.{ℕ, Bool, true, false, List, length, Option, Some, None, if◌then◌else◌}
use Rattle.std.specs.Bool.{beq}
use Rattle.vx_base.specs.Kinds.{Kind, texts, binaries, is_nullable_kind}
use Rattle.vx_base.specs.Refusals.{Refusal, mismatched_types, nullability_mismatch, or_else}
use Rattle.vx_views.specs.Faulty.{views_fault}
use Rattle.vx_tree.specs.Tree.{Valid}
use Rattle.vx_tree.specs.Meaning.{is_texts, nullable, valid_mask}
use Rattle.vx_tree.specs.Faults.{valid_type_fault, valid_len_fault}

-- texts or byte lists
abbrev pub is_values : Kind → Bool
is_values (texts n) = true
is_values (binaries n) = true
is_values _ = false

-- rows that are neither texts nor byte lists
abbrev pub value_type_fault : Kind → Option Refusal
value_type_fault k = if is_values k then None else Some mismatched_types

-- null may stand under the one of the two alone
abbrev pub nullability_fault : Kind → Valid → Option Refusal
nullability_fault k v = if beq (is_nullable_kind k) (nullable v) then None else Some nullability_mismatch

-- of n views: the kind, a validity array that is not one of plain booleans, the nullability, the validity's length
abbrev pub parts_fault : ℕ → Kind → Valid → Option Refusal
parts_fault n k v =
    or_else (value_type_fault k) (or_else (valid_type_fault v) (or_else (nullability_fault k v) (valid_len_fault v n)))

-- these, then the first faulty valid view
abbrev pub view_array_fault : List (List ℕ) → List (List ℕ) → Kind → Valid → Option Refusal
view_array_fault views buffers k v =
    or_else (parts_fault (length views) k v) (views_fault (is_texts k) (valid_mask v (length views)) buffers views)
