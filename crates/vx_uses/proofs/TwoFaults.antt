-- What is refused where one fault comes before another.
use Rattle.std.proofs.Common.{◌≡◌, Option, Some, None, refl, sym, ◌∙◌, subst, inl, inr}
use Rattle.std.specs.Prelude.{Result}
use Rattle.vx_base.specs.Refusals.{Refusal, refusal_of, IsMemoryOr, Refuses, or_else}
use Rattle.vx_base.specs.declared.errors.VortexError.{VortexError}
use Rattle.vx_base.specs.declared.errors.VortexError.TheVariants.{Memory}
use Rattle.vx_base.proofs.FirstFaults.{or_else-second}

memory_where : (e : VortexError) → None ≡ refusal_of e → e ≡ Memory
memory_where Memory none = refl
memory_where _ none = cc

-- where there is no fault, want of memory alone refuses
pub only_memory : (fault : Option Refusal) (e : VortexError) → fault ≡ None → IsMemoryOr fault e → e ≡ Memory
only_memory fault e none (inl memory) = memory
only_memory fault e none (inr same) = memory_where e (sym none ∙ same)

-- what the first of two faults refuses, both refuse
pub refused_before : (first rest : Option Refusal) (e : VortexError) → IsMemoryOr first e → IsMemoryOr (or_else first rest) e
refused_before first rest e (inl memory) = inl memory
refused_before (Some f) rest e (inr same) = inr same
refused_before None rest e (inr none) = inl (memory_where e none)

-- where the first is none, what the second refuses, both refuse
pub refused_after : (first rest : Option Refusal) (e : VortexError) → first ≡ None → IsMemoryOr rest e → IsMemoryOr (or_else first rest) e
refused_after first rest e none (inl memory) = inl memory
refused_after first rest e none (inr same) = inr (or_else-second first rest (refusal_of e) none same)

pub refuses_after : {A : Type 0} (r : Result A VortexError) (first rest : Option Refusal) → first ≡ None → Refuses r rest → Refuses r (or_else first rest)
refuses_after r first rest none refused = subst (λ fault. Refuses r fault) (sym (or_else-second first rest rest none refl)) refused
