-- Integers that a type has.
use Rattle.std.proofs.Common.{◌≡◌, ℤ, List, ℕ, sym, ◌∙◌, subst, inr}
use Rattle.std.specs.Prelude.{◌↔◌, Option, Some, None, IsSome, IfSome, MatchOption}
use Rattle.vx_base.specs.Integers.{Holds}
use Rattle.vx_base.specs.declared.ptypes.PType.{PType}
use Rattle.vx_run.specs.Words.{IsInteger, IsNoIntegerOf}

-- what a type makes of the integer that a word writes
pub integer-held : {A : Type 0} (t : PType) (word : List ℕ) (z w : ℤ) (value : A → ℤ) (found : Option A) → w ≡ z → IsInteger word z → (IsSome found ↔ Holds t w)
    → IfSome found (λ x. value x ≡ w) → MatchOption found (IsNoIntegerOf t word) (λ x. IsInteger word (value x))
integer-held {A} t word z w value None like is some same = inr (λ held. none_is_none (some.1 (subst (Holds t) (sym (like ∙ is.written)) held)))
  where
    none_is_none : IsSome {T = A} None → ⊥
    none_is_none h = cc
integer-held t word z w value (Some x) like is some same = subst (IsInteger word) (sym (same ∙ like)) is
