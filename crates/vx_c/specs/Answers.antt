-- What C is told of a table.
use Rattle.std.specs.Prelude.{◌≡◌, ◌≤◌, ◌==◌, ℕ, List, [], ◌∷◌, length, Option, Some, None, IsSome, Result, Ok, Err, MatchResult}
use Rattle.std.specs.Prelude.{option_map, ◌⊎◌, if◌then◌else◌}
use Rattle.vx_base.specs.declared.errors.VortexError.{VortexError}
use Rattle.vx_base.specs.declared.errors.VortexError.TheVariants.{Memory, OutOfBounds, Negative, NotUtf8, BadBuffer, BadStart, BadEnd, BadPrefix}
use Rattle.vx_base.specs.declared.errors.VortexError.TheVariants.{ValueTooLong, FallingOffsets, PatchOutOfRange}
use Rattle.vx_base.specs.Refusals.{refusal_of, error_number}
use Rattle.vx_c.specs.declared.faults.CodraskFault.{CodraskFault}
use Rattle.vx_c.specs.declared.reading.TheConstants.{MAX_NODES}
use Rattle.vx_c.specs.declared.table.CodraskNode.{CodraskNode}
use Rattle.vx_c.specs.NodeKinds.{kind_numbered}
use Rattle.vx_c.specs.declared.faults.NodeError.{NodeError}
use Rattle.vx_c.specs.declared.faults.NodeError.TheVariants.{UnknownKind, BadValidity, MissingNodes, NotOneArray, TooManyNodes, BadMode, TooManySteps, Refused}
use Rattle.vx_c.specs.Tables.{NodeFault, unknown_kind, bad_validity, missing_nodes, not_one_array, too_many_nodes, bad_mode, too_many_steps, refused, fault_in}

-- the row or the position that an error names, else 0
abbrev pub error_place : VortexError → ℕ
error_place (OutOfBounds index len) = index
error_place (Negative row) = row
error_place (NotUtf8 row) = row
error_place (BadBuffer row) = row
error_place (BadStart row) = row
error_place (BadEnd row) = row
error_place (BadPrefix row) = row
error_place (ValueTooLong row) = row
error_place (FallingOffsets row) = row
error_place (PatchOutOfRange row) = row
error_place _ = 0

-- the fault that an error names: none where memory was refused
abbrev pub fault_of : NodeError → Option NodeFault
fault_of UnknownKind = Some unknown_kind
fault_of BadValidity = Some bad_validity
fault_of MissingNodes = Some missing_nodes
fault_of NotOneArray = Some not_one_array
fault_of TooManyNodes = Some too_many_nodes
fault_of BadMode = Some bad_mode
fault_of TooManySteps = Some too_many_steps
fault_of (Refused e) = option_map refused (refusal_of e)

-- the number of an error, and its place
abbrev pub node_error_number : NodeError → ℕ
node_error_number UnknownKind = 32
node_error_number BadValidity = 33
node_error_number MissingNodes = 34
node_error_number NotOneArray = 35
node_error_number TooManyNodes = 36
node_error_number BadMode = 37
node_error_number TooManySteps = 38
node_error_number (Refused e) = error_number e

abbrev pub node_error_place : NodeError → ℕ
node_error_place (Refused e) = error_place e
node_error_place _ = 0

-- ---- which fault is answered

-- an error is want of memory, or the fault that stands
abbrev pub IsFaultOf : {A : Type 0} → NodeError → Result A NodeFault → Type 0
IsFaultOf e r = (e ≡ Refused Memory) ⊎ (fault_in r ≡ fault_of e)

-- the same of a fault by itself
abbrev pub IsFormFault : NodeError → Option NodeFault → Type 0
IsFormFault e fault = (e ≡ Refused Memory) ⊎ (fault ≡ fault_of e)

-- the same of a table: the fault with its node
abbrev pub with_node : ℕ → Option NodeFault → Option (ℕ × NodeFault)
with_node i fault = option_map (λ f. (i, f)) fault

abbrev pub IsTableFault : {A : Type 0} → ℕ × NodeError → Result A (ℕ × NodeFault) → Type 0
IsTableFault p r = (p.1 ≡ Refused Memory) ⊎ (fault_in r ≡ with_node p.0 (fault_of p.1))

-- a call answers Ok only where the table has no fault, else its fault, or want of memory
abbrev pub IsRead : {A : Type 0} → Result A (ℕ × NodeError) → Option (ℕ × NodeFault) → Type 0
IsRead r fault = MatchResult r (λ _. fault ≡ None) (λ p. (p.1 ≡ Refused Memory) ⊎ (fault ≡ with_node p.0 (fault_of p.1)))

-- ---- what C is told

-- that there is no fault, and that memory was refused
abbrev pub no_fault : CodraskFault
no_fault = record { number = 0; node = 0; place = 0 }

abbrev pub want_of_memory : CodraskFault
want_of_memory = record { number = 1; node = 0; place = 0 }

-- an error at a node: its number, and its place
abbrev pub fault_at : ℕ → NodeError → CodraskFault
fault_at i e = record { number = node_error_number e; node = i; place = node_error_place e }

-- where memory was refused, that alone
abbrev pub as_told : CodraskFault → CodraskFault
as_told fault = if fault.number == 1 then want_of_memory else fault

-- of a table that was read, or of the error of a node
abbrev pub told_of : {A : Type 0} → Result A (ℕ × NodeError) → CodraskFault
told_of (Ok a) = no_fault
told_of (Err p) = as_told (fault_at p.0 p.1)

-- C is told that memory was refused, or that there is no fault where there is none, or the fault: its node, and the number and
-- the place of the error that names it
abbrev pub IsAnswer : CodraskFault → Option (ℕ × NodeFault) → Type 0
IsAnswer told None = (told ≡ want_of_memory) ⊎ (told ≡ no_fault)
IsAnswer told (Some (i, f)) = (told ≡ want_of_memory) ⊎ ((e : NodeError) × (fault_of e ≡ Some f) × (told ≡ fault_at i e))

-- ---- what is told without asking for memory

-- the last of a node and of those after it
abbrev pub last_node : CodraskNode → List CodraskNode → CodraskNode
last_node n [] = n
last_node n (m ∷ ns) = last_node m ns

-- there is a last node, and a kind has its number
abbrev pub IsLastKnown : List CodraskNode → Type 0
IsLastKnown [] = ⊥
IsLastKnown (n ∷ ns) = IsSome (kind_numbered (last_node n ns).kind)

-- memory is asked for: there are nodes, no more than a table may have, and the last one is of a kind
abbrev pub TakesMemory : List CodraskNode → Type 0
TakesMemory ns = (length ns ≤ MAX_NODES) × IsLastKnown ns

-- an error that is told before memory is asked for
abbrev pub IsEarly : NodeError → Type 0
IsEarly e = (e ≡ TooManyNodes) ⊎ (e ≡ NotOneArray) ⊎ (e ≡ UnknownKind)
