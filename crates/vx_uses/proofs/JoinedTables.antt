-- Columns of two tables, one after the other.
use Rattle.std.proofs.Common.{◌≡◌, ℕ, List, [], ◌∷◌, ◌++◌, map, Option, Some, None, refl, sym, ◌∙◌, ap, ap₂, subst, inl, inr, arith, append-nil}
use Rattle.std.specs.Prelude.{IsSome, Result, Ok, Err, IfOk, IfErr}
use Rattle.std.specs.Iterator.{Drains}
use Rattle.std.specs.List.{All, filter_map, flat_map, cons_option}
use Rattle.std.proofs.lemmas.Iterator.{YieldsList, items_from_drains}
use Rattle.std.specs.Borrow.{Bor}
use Rattle.vx_base.specs.declared.errors.VortexError.{VortexError}
use Rattle.vx_base.specs.Refusals.{Refusal, IsMemoryOr, Names, Refuses}
use Rattle.vx_tree.specs.Meaning.{rows}
use Rattle.vx_tree.specs.Tree.{Tree}
use Rattle.vx_structs.specs.Structs.{arrays_of, column_at_place, column_named, IsProjected, with_columns}
use Rattle.vx_structs.specs.Structs.Faults.{unknown_fault, IsMadeOf, AreFaulty}
use Rattle.vx_uses.specs.Tables.{chosen, join_fault, rows_in}

-- ---- a column of each

-- the rows of two columns that are there
pub rows_of_both : (o p : Option Tree) (c d : Tree) → o ≡ Some c → p ≡ Some d → flat_map rows (c ∷ d ∷ []) ≡ rows_in o ++ rows_in p
rows_of_both o p c d first second =
    ap (λ rs. rows c ++ rs) (append-nil (rows d)) ∙ ap₂ (λ rs qs. rs ++ qs) (ap rows_in (sym first)) (ap rows_in (sym second))

-- what is said of two arrays
pub of_first : (P : Tree → Type 0) (c d : Tree) → All P (c ∷ d ∷ []) → P c
of_first P c d all = all 0 c (omega arith)

pub of_second : (P : Tree → Type 0) (c d : Tree) → All P (c ∷ d ∷ []) → P d
of_second P c d all = all 1 d (omega arith)

-- a name that stands nowhere, and is refused
not_found : {A : Type 0} (i : ℕ) (e : VortexError) → Names (unknown_fault (Some i)) e → A
not_found i e (some, same) = let none = subst IsSome (sym same) some in absurd (cc)

pub missing_first : (columns : List Tree) (place : Option ℕ) (d : Option Tree) (e : VortexError) → Names (unknown_fault place) e
    → IsMemoryOr (join_fault (column_at_place columns place) d) e
missing_first columns None d e named = inr named.1
missing_first columns (Some i) d e named = not_found i e named

pub missing_second : (o : Option Tree) (c : Tree) (columns : List Tree) (place : Option ℕ) (e : VortexError) → o ≡ Some c → Names (unknown_fault place) e
    → IsMemoryOr (join_fault o (column_at_place columns place)) e
missing_second None c columns place e there named = absurd (cc)
missing_second (Some b) c columns None e there named = inr named.1
missing_second (Some b) c columns (Some i) e there named = not_found i e named

-- ---- chosen columns

-- what is found of each is found of all
all_found : {A B : Type 0} (f : A → Option B) (xs : List A) (ys : List B) → map Some ys ≡ map f xs → ys ≡ filter_map f xs
all_found f [] [] same = refl
all_found f [] (y ∷ ys) same = absurd (cc)
all_found f (x ∷ xs) [] same = absurd (cc)
all_found {A} {B} f (x ∷ xs) (y ∷ ys) same =
    let here : Some y ≡ f x = cc in
    let rest : map Some ys ≡ map f xs = cc in
    ap (λ zs. y ∷ zs) (all_found f xs ys rest) ∙ ap (λ o. cons_option o (filter_map f xs)) here

pub projected_is_chosen : (t : Tree) (names : List (List ℕ)) (r : Tree) → IsProjected t names r → r ≡ chosen t names
projected_is_chosen t names r (columns, named, same) = same ∙ ap (with_columns t names) (all_found (column_named t) names columns named)

-- ---- what comes of an iterator over arrays

module _ {S : Type 0} (steps : S → Option (Bor Tree) → S → Type 0) (s : S) (ts : List Tree) where
  came_from : (all : List (Bor Tree)) → Drains steps s all → YieldsList steps (λ a. a.now) s ts → arrays_of all ≡ ts
  came_from all came lent = items_from_drains all (came.1.0, came.1.1, λ _. (came.0, came.1.2)) lent

  pub made_of_lent : (fault : List Tree → Option Refusal) (P : List Tree → Tree → Type 0) (made : Tree) → YieldsList steps (λ a. a.now) s ts
      → IsMadeOf steps s (λ all. fault (arrays_of all)) (λ all. P (arrays_of all)) made → P ts made
  made_of_lent fault P made lent is = subst (λ us. P us made) (came_from is.all is.came lent) is.is

  pub lent_are_faultless : (fault : List Tree → Option Refusal) (P : List Tree → Tree → Type 0) (made : Tree) → YieldsList steps (λ a. a.now) s ts
      → IsMadeOf steps s (λ all. fault (arrays_of all)) (λ all. P (arrays_of all)) made → fault ts ≡ None
  lent_are_faultless fault P made lent is = ap fault (sym (came_from is.all is.came lent)) ∙ is.faultless

  pub lent_are_refused : (fault : List Tree → Option Refusal) (e : VortexError) → YieldsList steps (λ a. a.now) s ts
      → AreFaulty steps s (λ all. fault (arrays_of all)) e → IsMemoryOr (fault ts) e
  lent_are_refused fault e lent (inl memory) = inl memory
  lent_are_refused fault e lent (inr named) = subst (λ us. IsMemoryOr (fault us) e) (came_from named.0 named.1 lent) (inr named.2.1)

  pub lent_refuse : (fault : List Tree → Option Refusal) (P : List Tree → Tree → Type 0) (r : Result Tree VortexError) → YieldsList steps (λ a. a.now) s ts
      → IfOk r (IsMadeOf steps s (λ all. fault (arrays_of all)) (λ all. P (arrays_of all))) → IfErr r (AreFaulty steps s (λ all. fault (arrays_of all)))
      → Refuses r (fault ts)
  lent_refuse fault P (Ok made) lent ok err = lent_are_faultless fault P made lent ok
  lent_refuse fault P (Err e) lent ok err = lent_are_refused fault e lent err
