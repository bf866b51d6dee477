-- Faults that a test decides, and the first of them, as a search that goes row by row finds it.
use Rattle.std.proofs.Common.{◌≡◌, ℕ, ◌<◌, Bool, true, false, if◌then◌else◌, ◌∙◌, sym, subst, refl}
use Rattle.std.specs.Prelude.{Option, Some, None, IsSome}
use Rattle.vx_base.specs.Refusals.{Refusal, first_fault}
use Rattle.vx_base.proofs.FirstFaults.{first_fault-found}

-- a test that has no fault was passed
pub if-none : (b : Bool) (r : Refusal) → (if b then None else Some r) ≡ None → b ≡ true
if-none true r e = refl
if-none false r e = cc

pub if-some : (b : Bool) (r : Refusal) → (if b then Some r else None) ≡ None → b ≡ false
if-some true r e = cc
if-some false r e = refl

-- the rows before have no fault, and this one has that one
pub first_fault-here : (fault : ℕ → Option Refusal) (len row : ℕ) (found : Option Refusal) → first_fault fault row ≡ None → fault row ≡ found → IsSome found → row < len → first_fault fault len ≡ found
first_fault-here fault len row found before here some within = first_fault-found fault len row before (subst IsSome (sym here) some) within ∙ here
