use Rattle.std.proofs.Common.{ℕ, zero, suc, ◌<◌, ◌≡◌, inl, inr, Option, Some, None, refl, ap, ◌∙◌, arith}
use Rattle.std.proofs.lemmas.Bool.{cases_lt}
use Rattle.vx_base.specs.Refusals.{Refusal, IsLeastFault, first_fault, or_else}
use Rattle.vx_base.proofs.laws.first_fault_is_least.Goals as goal

-- where no row so far has a fault, the next one decides
decided : (fault : ℕ → Option Refusal) (n : ℕ) (here : Option Refusal) → ((i : ℕ) → i < n → fault i ≡ None) → fault n ≡ here → IsLeastFault fault (suc n) here
decided fault n None none e = λ i h. elim (cases_lt i n) [ inl before ↦ none i before | inr after ↦ let last : i ≡ n = omega arith in ap fault last ∙ e ]
decided fault n (Some r) none e = (n, omega arith, e, none)

-- one row more
one_more : (fault : ℕ → Option Refusal) (n : ℕ) (first : Option Refusal) → IsLeastFault fault n first → IsLeastFault fault (suc n) (or_else first (fault n))
one_more fault n None none = decided fault n (fault n) none refl
one_more fault n (Some r) (i, within, e, none) = (i, omega arith, e, none)

least : (fault : ℕ → Option Refusal) (n : ℕ) → IsLeastFault fault n (first_fault fault n)
least fault zero = λ i h. absurd (omega arith)
least fault (suc n) = one_more fault n (first_fault fault n) (least fault n)

pub returns : goal.returns
returns c = least
