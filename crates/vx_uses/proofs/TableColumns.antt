-- Records of the columns that a list has, by an iterator over it.
use Rattle.std.proofs.Common.{◌≡◌, List, ap, subst, sym, ◌∙◌, inl, inr}
use Rattle.std.specs.Prelude.{Option, Result, Ok, Err, IfOk, IfErr}
use Rattle.std.proofs.lemmas.Iterator.{YieldsList}
use Rattle.vx_base.specs.declared.errors.VortexError.{VortexError}
use Rattle.vx_base.specs.Refusals.{Refusal, IsMemoryOr, Refuses}
use Rattle.vx_tree.specs.Tree.{Tree}
use Rattle.vx_structs.specs.Structs.Faults.{IsMadeOf, AreFaulty}
use Rattle.vx_uses.proofs.CollectedItems.{all_came}

module _ {S : Type 0} (steps : S → Option Tree → S → Type 0) (s : S) (columns : List Tree) (given : YieldsList steps (λ t. t) s columns) (fault : List Tree → Option Refusal) (P : List Tree → Tree → Type 0) where
  pub made_of_columns : (made : Tree) → IsMadeOf steps s fault P made → P columns made
  made_of_columns made is = subst (λ ts. P ts made) (all_came steps s is.all columns is.came given) is.is

  refused : (e : VortexError) → AreFaulty steps s fault e → IsMemoryOr (fault columns) e
  refused e (inl memory) = inl memory
  refused e (inr named) = subst (λ ts. IsMemoryOr (fault ts) e) (all_came steps s named.0 columns named.1 given) (inr named.2.1)

  pub columns_refuse : (r : Result Tree VortexError) → IfOk r (IsMadeOf steps s fault P) → IfErr r (AreFaulty steps s fault) → Refuses r (fault columns)
  columns_refuse (Ok made) ok err = ap fault (sym (all_came steps s ok.all columns ok.came given)) ∙ ok.faultless
  columns_refuse (Err e) ok err = refused e err
