-- What a refusal says, and which of several faults is answered.
use Rattle.std.specs.Prelude.{◌≡◌, ◌<◌, ◌⊎◌, ℕ, zero, suc, List, codes, Option, Some, None, IsSome, Result, MatchResult}
use Rattle.vx_base.specs.declared.errors.VortexError.{VortexError}
use Rattle.vx_base.specs.declared.errors.VortexError.TheVariants.{Memory, MismatchedTypes, LengthMismatch, NullabilityMismatch, OutOfBounds}
use Rattle.vx_base.specs.declared.errors.VortexError.TheVariants.{Negative, Overflow, NotImplemented, HasNulls, UnknownField, EmptyInput}
use Rattle.vx_base.specs.declared.errors.VortexError.TheVariants.{DifferingDtypes, NotUtf8, BadBuffer, BadStart, BadEnd, BadPrefix}
use Rattle.vx_base.specs.declared.errors.VortexError.TheVariants.{LimitTooLarge, ValueTooLong, LengthsNotExact, FallingOffsets}
use Rattle.vx_base.specs.declared.errors.VortexError.TheVariants.{PatchOutOfRange, DegenerateElements}

-- a fault, with the row or the position that has it
pub data Refusal : Type 0 where
  mismatched_types : Refusal
  length_mismatch : Refusal
  nullability_mismatch : Refusal
  out_of_bounds : ℕ → Refusal
  negative : ℕ → Refusal
  overflow : Refusal
  not_implemented : Refusal
  has_nulls : Refusal
  unknown_field : Refusal
  empty_input : Refusal
  differing_dtypes : Refusal
  not_utf8 : ℕ → Refusal
  bad_buffer : ℕ → Refusal
  bad_start : ℕ → Refusal
  bad_end : ℕ → Refusal
  bad_prefix : ℕ → Refusal
  limit_too_large : Refusal
  value_too_long : ℕ → Refusal
  lengths_not_exact : Refusal
  falling_offsets : ℕ → Refusal
  patch_out_of_range : ℕ → Refusal
  degenerate_elements : Refusal

-- the fault that an error names: none where memory was refused. The lengths beside it are part of no promise
abbrev pub refusal_of : VortexError → Option Refusal
refusal_of Memory = None
refusal_of MismatchedTypes = Some mismatched_types
refusal_of (LengthMismatch expected found) = Some length_mismatch
refusal_of NullabilityMismatch = Some nullability_mismatch
refusal_of (OutOfBounds index len) = Some (out_of_bounds index)
refusal_of (Negative row) = Some (negative row)
refusal_of Overflow = Some overflow
refusal_of NotImplemented = Some not_implemented
refusal_of HasNulls = Some has_nulls
refusal_of UnknownField = Some unknown_field
refusal_of EmptyInput = Some empty_input
refusal_of DifferingDtypes = Some differing_dtypes
refusal_of (NotUtf8 row) = Some (not_utf8 row)
refusal_of (BadBuffer row) = Some (bad_buffer row)
refusal_of (BadStart row) = Some (bad_start row)
refusal_of (BadEnd row) = Some (bad_end row)
refusal_of (BadPrefix row) = Some (bad_prefix row)
refusal_of LimitTooLarge = Some limit_too_large
refusal_of (ValueTooLong row) = Some (value_too_long row)
refusal_of LengthsNotExact = Some lengths_not_exact
refusal_of (FallingOffsets row) = Some (falling_offsets row)
refusal_of (PatchOutOfRange row) = Some (patch_out_of_range row)
refusal_of DegenerateElements = Some degenerate_elements

-- an error is want of memory, or names just that fault
abbrev pub IsMemoryOr : Option Refusal → VortexError → Type 0
IsMemoryOr fault e = (e ≡ Memory) ⊎ (fault ≡ refusal_of e)

-- an error names just that fault
abbrev pub Names : Option Refusal → VortexError → Type 0
Names fault e = IsSome (refusal_of e) × (fault ≡ refusal_of e)

-- a call answers Ok only where there is no fault, and else this fault, or want of memory in place of either
abbrev pub Refuses : {A : Type 0} → Result A VortexError → Option Refusal → Type 0
Refuses r fault = MatchResult r (λ _. fault ≡ None) (IsMemoryOr fault)

-- a call gives what P says, or memory was refused
abbrev pub Gives : {A : Type 0} → Result A VortexError → (A → Type 0) → Type 0
Gives r P = MatchResult r P (λ e. e ≡ Memory)

-- a call that takes no memory answers Ok just where there is no fault, and else this fault
abbrev pub Tests : {A : Type 0} → Result A VortexError → Option Refusal → Type 0
Tests r fault = MatchResult r (λ _. fault ≡ None) (Names fault)

-- the first of two faults that stands
abbrev pub or_else : Option Refusal → Option Refusal → Option Refusal
or_else None second = second
or_else (Some first) second = Some first

-- the fault of the least of the first n rows that has one
abbrev pub first_fault : (ℕ → Option Refusal) → ℕ → Option Refusal
first_fault fault zero = None
first_fault fault (suc n) = or_else (first_fault fault n) (fault n)

-- a fault of the first n rows stands at the least row that has one; where none is answered, no row has one
abbrev pub IsLeastFault : (ℕ → Option Refusal) → ℕ → Option Refusal → Type 0
IsLeastFault fault n None = (i : ℕ) → i < n → fault i ≡ None
IsLeastFault fault n (Some r) = (i : ℕ) × (i < n) × (fault i ≡ Some r) × ((j : ℕ) → j < i → fault j ≡ None)

-- the first fault is the fault of the least row that has one
abbrev pub FirstFaultIsLeast : Type 0
FirstFaultIsLeast = (fault : ℕ → Option Refusal) (n : ℕ) → IsLeastFault fault n (first_fault fault n)

-- the number of each refusal
abbrev pub error_number : VortexError → ℕ
error_number Memory = 1
error_number MismatchedTypes = 2
error_number (LengthMismatch expected found) = 3
error_number NullabilityMismatch = 4
error_number (OutOfBounds index len) = 5
error_number (Negative row) = 6
error_number Overflow = 7
error_number NotImplemented = 8
error_number HasNulls = 9
error_number UnknownField = 10
error_number EmptyInput = 11
error_number DifferingDtypes = 12
error_number (NotUtf8 row) = 13
error_number (BadBuffer row) = 14
error_number (BadStart row) = 15
error_number (BadEnd row) = 16
error_number (BadPrefix row) = 17
error_number LimitTooLarge = 18
error_number (ValueTooLong row) = 19
error_number LengthsNotExact = 20
error_number (FallingOffsets row) = 21
error_number (PatchOutOfRange row) = 22
error_number DegenerateElements = 23

-- the name of each refusal
abbrev pub error_name : VortexError → List ℕ
error_name Memory = codes "Memory"
error_name MismatchedTypes = codes "MismatchedTypes"
error_name (LengthMismatch expected found) = codes "LengthMismatch"
error_name NullabilityMismatch = codes "NullabilityMismatch"
error_name (OutOfBounds index len) = codes "OutOfBounds"
error_name (Negative row) = codes "Negative"
error_name Overflow = codes "Overflow"
error_name NotImplemented = codes "NotImplemented"
error_name HasNulls = codes "HasNulls"
error_name UnknownField = codes "UnknownField"
error_name EmptyInput = codes "EmptyInput"
error_name DifferingDtypes = codes "DifferingDtypes"
error_name (NotUtf8 row) = codes "NotUtf8"
error_name (BadBuffer row) = codes "BadBuffer"
error_name (BadStart row) = codes "BadStart"
error_name (BadEnd row) = codes "BadEnd"
error_name (BadPrefix row) = codes "BadPrefix"
error_name LimitTooLarge = codes "LimitTooLarge"
error_name (ValueTooLong row) = codes "ValueTooLong"
error_name LengthsNotExact = codes "LengthsNotExact"
error_name (FallingOffsets row) = codes "FallingOffsets"
error_name (PatchOutOfRange row) = codes "PatchOutOfRange"
error_name DegenerateElements = codes "DegenerateElements"
