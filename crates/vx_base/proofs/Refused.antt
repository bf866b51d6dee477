-- What is known of a call that gives a value, or is refused memory.
use Rattle.std.proofs.Common.{ℕ, ◌<◌, ◌≡◌, ◌^◌, ◌∙◌, sym, inl, inr, arith}
use Rattle.std.specs.Prelude.{None, Result, Ok, Err, IfOk}
use Rattle.vx_base.proofs.Joined.{counted}
use Rattle.vx_base.specs.Booleans.{count_fault}
use Rattle.vx_base.specs.Refusals.{Gives, refusal_of, IsMemoryOr}
use Rattle.vx_base.specs.declared.errors.VortexError.TheVariants.{Memory}
use Rattle.vx_base.specs.declared.errors.VortexError.{VortexError}

pub Gives-weaker : {A : Type 0} (r : Result A VortexError) (P Q : A → Type 0) → ((x : A) → P x → Q x) → Gives r P → Gives r Q
Gives-weaker (Ok x) P Q more given = more x given
Gives-weaker (Err e) P Q more given = given

pub Gives-IfOk : {A : Type 0} (r : Result A VortexError) (P Q : A → Type 0) → ((x : A) → P x → Q x) → Gives r P → IfOk r Q
Gives-IfOk (Ok x) P Q more given = more x given
Gives-IfOk (Err e) P Q more given = tt

-- an error that names no fault is want of memory
unnamed : (e : VortexError) → refusal_of e ≡ None → e ≡ Memory
unnamed e h = grind arith

-- where so many can be counted, only memory can be refused
pub memory_alone : (n : ℕ) (e : VortexError) → n < 2 ^ 64 → IsMemoryOr (count_fault n) e → e ≡ Memory
memory_alone n e few (inl memory) = memory
memory_alone n e few (inr same) = unnamed e (sym same ∙ counted n few)
