-- The first of several faults, and the fault of the least row that has one.
use Rattle.std.proofs.Common.{◌≡◌, ℕ, zero, suc, ◌+◌, ◌<◌, ◌∙◌, sym, ap, subst, refl, add-one, inl, inr, arith}
use Rattle.std.specs.Prelude.{Option, Some, None, IsSome}
use Rattle.std.proofs.lemmas.Bool.{cases_lt}
use Rattle.vx_base.specs.Refusals.{Refusal, refusal_of, Names, or_else, first_fault}
use Rattle.vx_base.specs.declared.errors.VortexError.{VortexError}

-- ---- the first of two faults

pub or_else-none : (first second : Option Refusal) → or_else first second ≡ None → (first ≡ None) × (second ≡ None)
or_else-none None second none = (refl, none)
or_else-none (Some r) second none = absurd (cc)

pub or_else-first : (first second fault : Option Refusal) → first ≡ fault → IsSome fault → or_else first second ≡ fault
or_else-first None second fault e some = let none = subst IsSome (sym e) some in absurd (cc)
or_else-first (Some r) second fault e some = e

pub or_else-second : (first second fault : Option Refusal) → first ≡ None → second ≡ fault → or_else first second ≡ fault
or_else-second None second fault none e = e
or_else-second (Some r) second fault none e = absurd (cc)

pub Names-or_else_first : (first second : Option Refusal) (e : VortexError) → Names first e → Names (or_else first second) e
Names-or_else_first first second e (some, same) = (some, or_else-first first second (refusal_of e) same some)

pub Names-or_else_second : (first second : Option Refusal) (e : VortexError) → first ≡ None → Names second e → Names (or_else first second) e
Names-or_else_second first second e none (some, same) = (some, or_else-second first second (refusal_of e) none same)

-- ---- the fault of the least faulty row

-- the rows before have no fault, and this one has
pub first_fault-found : (fault : ℕ → Option Refusal) (n row : ℕ) → first_fault fault row ≡ None → IsSome (fault row) → row < n → first_fault fault n ≡ fault row
first_fault-found fault zero row before here within = absurd (omega arith)
first_fault-found fault (suc n) row before here within =
    elim (cases_lt row n) [
      | inl more ↦ or_else-first (first_fault fault n) (fault n) (fault row) (first_fault-found fault n row before here more) here
      | inr last ↦
          let same : n ≡ row = omega arith in
          or_else-second (first_fault fault n) (fault n) (fault row) (ap (first_fault fault) same ∙ before) (ap fault same)
    ]

-- where none is found, no row has one
pub first_fault-none_at : (fault : ℕ → Option Refusal) (n row : ℕ) → first_fault fault n ≡ None → row < n → fault row ≡ None
first_fault-none_at fault zero row none within = absurd (omega arith)
first_fault-none_at fault (suc n) row none within =
    let parts = or_else-none (first_fault fault n) (fault n) none in
    elim (cases_lt row n) [
      | inl more ↦ first_fault-none_at fault n row parts.0 more
      | inr last ↦ let same : row ≡ n = omega arith in ap fault same ∙ parts.1
    ]

-- where no row has a fault, none is found
pub first_fault-of_none : (fault : ℕ → Option Refusal) (n : ℕ) → ((row : ℕ) → row < n → fault row ≡ None) → first_fault fault n ≡ None
first_fault-of_none fault zero none = refl
first_fault-of_none fault (suc n) none =
    or_else-second (first_fault fault n) (fault n) None (first_fault-of_none fault n (λ row within. none row (omega arith))) (none n (omega arith))

-- one row more without a fault
pub first_fault-next : (fault : ℕ → Option Refusal) (n : ℕ) → first_fault fault n ≡ None → fault n ≡ None → first_fault fault (n + 1) ≡ None
first_fault-next fault n before here = rw (add-one, before, here) refl

-- rows that have the same faults have the same first one
pub first_fault-same : (fault other : ℕ → Option Refusal) (n : ℕ) → ((row : ℕ) → row < n → fault row ≡ other row) → first_fault fault n ≡ first_fault other n
first_fault-same fault other zero same = refl
first_fault-same fault other (suc n) same =
    ap (λ first. or_else first (fault n)) (first_fault-same fault other n (λ row within. same row (omega arith)))
    ∙ ap (or_else (first_fault other n)) (same n (omega arith))
