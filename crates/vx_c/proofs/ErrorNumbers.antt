-- Want of memory has the number 1, and no other error has.
use Rattle.std.proofs.Common.{◌≡◌, ◌<◌, refl, ap, inl, inr, arith}
use Rattle.std.specs.Prelude.{◌⊎◌, Some, None}
use Rattle.vx_base.specs.declared.errors.VortexError.{VortexError}
use Rattle.vx_base.specs.declared.errors.VortexError.TheVariants.{Memory, MismatchedTypes, LengthMismatch, NullabilityMismatch, OutOfBounds}
use Rattle.vx_base.specs.declared.errors.VortexError.TheVariants.{Negative, Overflow, NotImplemented, HasNulls, UnknownField, EmptyInput}
use Rattle.vx_base.specs.declared.errors.VortexError.TheVariants.{DifferingDtypes, NotUtf8, BadBuffer, BadStart, BadEnd, BadPrefix}
use Rattle.vx_base.specs.declared.errors.VortexError.TheVariants.{LimitTooLarge, ValueTooLong, LengthsNotExact, FallingOffsets}
use Rattle.vx_base.specs.declared.errors.VortexError.TheVariants.{PatchOutOfRange, DegenerateElements}
use Rattle.vx_base.specs.Refusals.{error_number}
use Rattle.vx_c.specs.declared.faults.NodeError.{NodeError}
use Rattle.vx_c.specs.declared.faults.NodeError.TheVariants.{UnknownKind, BadValidity, MissingNodes, NotOneArray, TooManyNodes, BadMode, TooManySteps, Refused}
use Rattle.vx_c.specs.Tables.{NodeFault}
use Rattle.vx_c.specs.Answers.{fault_of, node_error_number}

error_number-memory : (e : VortexError) → (e ≡ Memory) ⊎ (1 < error_number e)
error_number-memory Memory = inl refl
error_number-memory MismatchedTypes = inr (omega arith)
error_number-memory (LengthMismatch expected found) = inr (omega arith)
error_number-memory NullabilityMismatch = inr (omega arith)
error_number-memory (OutOfBounds index len) = inr (omega arith)
error_number-memory (Negative row) = inr (omega arith)
error_number-memory Overflow = inr (omega arith)
error_number-memory NotImplemented = inr (omega arith)
error_number-memory HasNulls = inr (omega arith)
error_number-memory UnknownField = inr (omega arith)
error_number-memory EmptyInput = inr (omega arith)
error_number-memory DifferingDtypes = inr (omega arith)
error_number-memory (NotUtf8 row) = inr (omega arith)
error_number-memory (BadBuffer row) = inr (omega arith)
error_number-memory (BadStart row) = inr (omega arith)
error_number-memory (BadEnd row) = inr (omega arith)
error_number-memory (BadPrefix row) = inr (omega arith)
error_number-memory LimitTooLarge = inr (omega arith)
error_number-memory (ValueTooLong row) = inr (omega arith)
error_number-memory LengthsNotExact = inr (omega arith)
error_number-memory (FallingOffsets row) = inr (omega arith)
error_number-memory (PatchOutOfRange row) = inr (omega arith)
error_number-memory DegenerateElements = inr (omega arith)

pub node_error_number-memory : (e : NodeError) → (e ≡ Refused Memory) ⊎ (1 < node_error_number e)
node_error_number-memory UnknownKind = inr (omega arith)
node_error_number-memory BadValidity = inr (omega arith)
node_error_number-memory MissingNodes = inr (omega arith)
node_error_number-memory NotOneArray = inr (omega arith)
node_error_number-memory TooManyNodes = inr (omega arith)
node_error_number-memory BadMode = inr (omega arith)
node_error_number-memory TooManySteps = inr (omega arith)
node_error_number-memory (Refused e) = refused e (error_number-memory e)
  where
    refused : (v : VortexError) → (v ≡ Memory) ⊎ (1 < error_number v) → (Refused v ≡ Refused Memory) ⊎ (1 < error_number v)
    refused v (inl is) = inl (ap Refused is)
    refused v (inr more) = inr more

pub error_number-some : (e : VortexError) → 0 < error_number e
error_number-some e = some e (error_number-memory e)
  where
    some : (v : VortexError) → (v ≡ Memory) ⊎ (1 < error_number v) → 0 < error_number v
    some v (inl is) = omega (arith, ap error_number is)
    some v (inr more) = omega (arith, more)

pub node_error_number-some : (e : NodeError) → 0 < node_error_number e
node_error_number-some e = some e (node_error_number-memory e)
  where
    some : (f : NodeError) → (f ≡ Refused Memory) ⊎ (1 < node_error_number f) → 0 < node_error_number f
    some f (inl is) = omega (arith, ap node_error_number is)
    some f (inr more) = omega (arith, more)

-- an error that names a fault has another number
pub node_error_number-fault : (e : NodeError) (f : NodeFault) → fault_of e ≡ Some f → 1 < node_error_number e
node_error_number-fault e f named = more (node_error_number-memory e)
  where
    more : (e ≡ Refused Memory) ⊎ (1 < node_error_number e) → 1 < node_error_number e
    more (inl is) = let none : fault_of e ≡ None = ap fault_of is in absurd (cc)
    more (inr greater) = greater
