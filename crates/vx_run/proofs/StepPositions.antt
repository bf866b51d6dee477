-- Positions that are looked up one after another.
use Rattle.std.proofs.Common.{◌≡◌, ℕ, ◌+◌, ◌<◌, List, length, drop, get_or, Option, Some, None, refl, sym, ◌∙◌, subst, inl, inr}
use Rattle.std.proofs.lemmas.List.{at_drop_more}
use Rattle.vx_base.specs.declared.errors.VortexError.{VortexError}
use Rattle.vx_base.specs.Refusals.{Refusal, Names, IsMemoryOr, or_else}
use Rattle.vx_tree.specs.Faults.{position_fault}
use Rattle.vx_tree.proofs.Dictionaries.{memory_only}
use Rattle.vx_run.specs.Steps.{positions_fault}

first_named : (a b : Option Refusal) (e : VortexError) → Names a e → IsMemoryOr (or_else a b) e
first_named None b e h = inl (memory_only None e refl (inr h.1))
first_named (Some r) b e h = inr h.1

-- the first position at which nothing stands, where something stands at those before
pub positions-refused : (n : ℕ) (is : List ℕ) (k : ℕ) (e : VortexError) → k < length is → positions_fault n is ≡ positions_fault n (drop k is)
    → Names (position_fault n (get_or is k 0)) e → IsMemoryOr (positions_fault n is) e
positions-refused n is k e inside same named =
    subst (λ f. IsMemoryOr f e) (sym (same ∙ at_drop_more (positions_fault n) is k 0 inside))
    (first_named (position_fault n (get_or is k 0)) (positions_fault n (drop (k + 1) is)) e named)
