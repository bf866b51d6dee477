-- Bits that are made true one after another.
use Rattle.std.proofs.Common.{ℕ, ◌<◌, ◌≡◌, Bool, true, false, List, [], ◌∷◌, ◌++◌, inl, inr, sym, ◌∙◌, ap, subst, arith}
use Rattle.std.proofs.Math.ListN.{set, length-set}
use Rattle.std.proofs.lemmas.Bool.Decides.{eqb_tells}
use Rattle.std.proofs.lemmas.List.{get_or-set_same, get_or-set_other}
use Rattle.std.proofs.lemmas.List.Elements.{Contains-push, Contains-push_cases, Contains-append_left}
use Rattle.std.specs.Prelude.{◌↔◌, Contains, IsTrue}
use Rattle.vx_base.specs.Bits.{bool_at}
use Rattle.vx_leaves.specs.Iterated.{AreMarked}

true_at : (n : ℕ) (xs : List ℕ) (bits : List Bool) (i k : ℕ) → i < n → AreMarked n xs bits → IsTrue (bool_at (set bits i true) k) ↔ Contains (xs ++ i ∷ []) k
true_at n xs bits i k h m = elim (eqb_tells k i) [
  | inl here ↦
      let made : bool_at (set bits i true) k ≡ true = ap (bool_at (set bits i true)) here.1 ∙ get_or-set_same bits i true false (omega (arith, m.len)) in
      (λ t. subst (Contains (xs ++ i ∷ [])) (sym here.1) (Contains-push xs i), λ t. made)
  | inr other ↦
      let same : bool_at (set bits i true) k ≡ bool_at bits k = get_or-set_other bits i k true false other.1 in (
        λ t. Contains-append_left xs (i ∷ []) k ((m.each k).0 (sym same ∙ t)),
        λ t. same ∙ (m.each k).1 (elim (Contains-push_cases xs i k t) [ inl b ↦ b | inr e ↦ absurd (other.1 (sym e)) ]),
      )
]

pub AreMarked-more : (n : ℕ) (xs : List ℕ) (bits : List Bool) (i : ℕ) → i < n → AreMarked n xs bits → AreMarked n (xs ++ i ∷ []) (set bits i true)
AreMarked-more n xs bits i h m = record { len = length-set bits i true ∙ m.len; each = λ k. true_at n xs bits i k h m }
