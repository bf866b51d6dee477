-- Validities that are joined, one after another, each of a number of rows.
use Rattle.std.specs.Prelude.{◌&&◌, ℕ, Bool, true, List, [], ◌∷◌, length, map, Option, Some, None, if◌then◌else◌}
use Rattle.vx_base.specs.Booleans.{joined, count_fault}
use Rattle.vx_base.specs.Refusals.{Refusal, or_else}
use Rattle.vx_tree.specs.declared.array.Validity.{Validity}
use Rattle.vx_tree.specs.Tree.{Valid, bools, non_nullable, by_array}
use Rattle.vx_tree.specs.Meaning.{tree_len, valid_mask}
use Rattle.vx_tree.specs.Formed.{IsLenOf}
use Rattle.vx_tree.specs.Layouts.{first_bit}
use Rattle.vx_tree.specs.Parts.{valid_of}
use Rattle.vx_tree.specs.Faults.{valid_type_fault}
use Rattle.vx_tree.specs.Patches.{is_unchanged}

-- ---- an array of its own rows

-- a state without an array as it is, an array as plain booleans, which begin where its own do
abbrev pub executed : Valid → Valid
executed (by_array t) = by_array (bools (first_bit t) (valid_mask (by_array t) (tree_len t)) non_nullable)
executed v = v

-- ---- joined

-- an array has as many rows as stand beside it
abbrev pub AreLens : List (Validity × ℕ) → Type 0
AreLens [] = Unit {0}
AreLens (part ∷ parts) = IsLenOf (valid_of part.0) part.1 × AreLens parts

-- the booleans of a validity and its number of rows
abbrev pub mask_of : Validity × ℕ → List Bool
mask_of part = valid_mask (valid_of part.0) part.1

-- the booleans of all of them, one validity after another
abbrev pub joined_mask : List (Validity × ℕ) → List Bool
joined_mask parts = joined (map mask_of parts)

-- all of them are one state without an array
abbrev pub are_all : Valid → List (Validity × ℕ) → Bool
are_all v [] = true
are_all v (part ∷ parts) = is_unchanged v (valid_of part.0) && are_all v parts

-- nothing of none, the state that all of them are, else an array of their booleans
abbrev pub joined_validity : List (Validity × ℕ) → Option Valid
joined_validity [] = None
joined_validity (part ∷ parts) =
    Some (if are_all (valid_of part.0) (part ∷ parts) then valid_of part.0
    else by_array (bools 0 (joined_mask (part ∷ parts)) non_nullable))

-- ---- faults

-- an array of them that is not one of plain booleans
abbrev pub types_fault : List (Validity × ℕ) → Option Refusal
types_fault [] = None
types_fault (part ∷ parts) = or_else (valid_type_fault (valid_of part.0)) (types_fault parts)

-- of states that are alike nothing is looked at, not even how many rows they are
abbrev pub join_fault : List (Validity × ℕ) → Option Refusal
join_fault [] = None
join_fault (part ∷ parts) =
    if are_all (valid_of part.0) (part ∷ parts) then None
    else or_else (types_fault (part ∷ parts)) (count_fault (length (joined_mask (part ∷ parts))))
