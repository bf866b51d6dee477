-- An iterator that hands on what another gives.
use Rattle.std.proofs.Common.{List, [], ◌∷◌}
use Rattle.std.specs.Prelude.{Option}
use Rattle.std.specs.Iterator.{AlwaysYields}
use Rattle.std.proofs.lemmas.Iterator.{YieldsList}

module _ {S U A B : Type 0} (steps : S → Option A → S → Type 0) (v : A → B) (source : U → S) where
  handed_on : (ys : List B) (s : U) → AlwaysYields steps v (source s) ys → AlwaysYields (λ s r t. steps (source s) r (source t)) v s ys
  handed_on [] s e = λ x t p. e x (source t) p
  handed_on (y ∷ ys) s e = ((λ t p. e.0 (source t) p), λ x t p. let m = e.1 x (source t) p in (m.0, handed_on ys t m.1))

  -- what hands on what a source gives, gives what the source gives
  pub YieldsList-handed_on : (ys : List B) (s : U) → YieldsList steps v (source s) ys → YieldsList (λ s r t. steps (source s) r (source t)) v s ys
  YieldsList-handed_on ys s e = record { runs = handed_on ys s e.runs }
