-- Records of the columns that an iterator gives, where it gives those of a list.
use Rattle.std.proofs.Common.{◌≡◌, List, [], ◌∷◌, map, refl, sym, ◌∙◌, ap, subst, inl, inr}
use Rattle.std.specs.Prelude.{Option, None}
use Rattle.std.specs.Iterator.{Drains}
use Rattle.std.proofs.lemmas.Iterator.{YieldsList, items_from_drains}
use Rattle.vx_base.specs.declared.errors.VortexError.{VortexError}
use Rattle.vx_base.specs.Refusals.{Refusal, IsMemoryOr}
use Rattle.vx_tree.specs.Tree.{Tree}
use Rattle.vx_structs.specs.Structs.Faults.{IsMadeOf, AreFaulty}

map_same : (ts : List Tree) → map (λ t. t) ts ≡ ts
map_same [] = refl
map_same (t ∷ ts) = ap (λ us. t ∷ us) (map_same ts)

all_columns : {S : Type 0} (steps : S → Option Tree → S → Type 0) (s : S) (all columns : List Tree) → Drains steps s all
    → YieldsList steps (λ t. t) s columns → all ≡ columns
all_columns steps s all columns came given =
    sym (map_same all) ∙ items_from_drains all (came.1.0, came.1.1, λ _. (came.0, came.1.2)) given

pub records-made : {S : Type 0} (steps : S → Option Tree → S → Type 0) (s : S) (columns : List Tree) (fault : List Tree → Option Refusal)
    (P : List Tree → Tree → Type 0) (a : Tree) → YieldsList steps (λ t. t) s columns → IsMadeOf steps s fault P a → P columns a
records-made steps s columns fault P a given made =
    subst (λ ts. P ts a) (all_columns steps s made.all columns made.came given) made.is

pub records-faultless : {S : Type 0} (steps : S → Option Tree → S → Type 0) (s : S) (columns : List Tree) (fault : List Tree → Option Refusal)
    (P : List Tree → Tree → Type 0) (a : Tree) → YieldsList steps (λ t. t) s columns → IsMadeOf steps s fault P a → fault columns ≡ None
records-faultless steps s columns fault P a given made =
    ap fault (sym (all_columns steps s made.all columns made.came given)) ∙ made.faultless

pub records-refused : {S : Type 0} (steps : S → Option Tree → S → Type 0) (s : S) (columns : List Tree) (fault : List Tree → Option Refusal) (e : VortexError)
    → YieldsList steps (λ t. t) s columns → AreFaulty steps s fault e → IsMemoryOr (fault columns) e
records-refused steps s columns fault e given (inl m) = inl m
records-refused steps s columns fault e given (inr named) =
    subst (λ ts. IsMemoryOr (fault ts) e) (all_columns steps s named.0 columns named.1 given) (inr named.2.1)
