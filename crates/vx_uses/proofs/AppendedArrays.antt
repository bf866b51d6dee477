-- Arrays that are joined in two steps.
use Rattle.std.proofs.Common.{◌≡◌, ◌++◌, List, [], ◌∷◌, map, None, sym, ◌∙◌, ap, ap₂, subst, append-nil, arith}
use Rattle.std.specs.Prelude.{Result, Ok, Err, IfOk}
use Rattle.std.specs.List.{All, flat_map}
use Rattle.std.proofs.lemmas.List.{map-append}
use Rattle.std.proofs.lemmas.List.Elements.{All-nil, All-cons, All-append}
use Rattle.vx_base.specs.declared.errors.VortexError.{VortexError}
use Rattle.vx_base.specs.Refusals.{Refuses, or_else}
use Rattle.vx_tree.specs.Tree.{Tree}
use Rattle.vx_tree.specs.Meaning.{kind_of, rows}
use Rattle.vx_tree.specs.Extents.{extent_of, joined_extent}
use Rattle.vx_canonical.specs.Concatenated.{concat_fault, IsConcatenated}
use Rattle.vx_canonical.specs.Composed.{ConcatsCompose, ExtentsCompose}
use Rattle.vx_uses.proofs.TwoFaults.{refuses_after}

-- d is u, appended to what came of ts
module _ (ts : List Tree) (r d u : Tree) (first : IsConcatenated ts r) (same : d ≡ u) where
  pub appended_rows : flat_map rows (r ∷ d ∷ []) ≡ flat_map rows ts ++ rows u
  appended_rows = ap (λ rs. rows r ++ rs) (append-nil (rows d)) ∙ ap₂ (λ rs qs. rs ++ qs) first.same_rows (ap rows same)

  pub appended_kinds : (made : Result Tree VortexError) → IfOk made (λ a. All (λ t. kind_of t ≡ kind_of a) (r ∷ d ∷ []))
      → IfOk made (λ a. All (λ t. kind_of t ≡ kind_of a) (ts ++ u ∷ []))
  appended_kinds (Err e) kinds = tt
  appended_kinds (Ok a) kinds =
      let is_of : Tree → Type 0 = λ t. kind_of t ≡ kind_of a in
      let joined : kind_of r ≡ kind_of a = kinds 0 r (omega arith) in
      let last : kind_of u ≡ kind_of a = ap kind_of (sym same) ∙ kinds 1 d (omega arith) in
      All-append is_of ts (u ∷ []) (λ i t inside. first.kind i t inside ∙ joined) (All-cons is_of u [] last (All-nil is_of))

  pub appended_extent : (made : Result Tree VortexError) → ExtentsCompose → IfOk made (λ a. All (λ t. kind_of t ≡ kind_of a) (r ∷ d ∷ []))
      → IfOk made (λ a. extent_of a ≡ joined_extent (kind_of a) (map extent_of (r ∷ d ∷ []))) → IfOk made (λ a. extent_of a ≡ joined_extent (kind_of a) (map extent_of (ts ++ u ∷ [])))
  appended_extent (Err e) compose kinds extents = tt
  appended_extent (Ok a) compose kinds extents =
      let k = kind_of a in
      let kind : kind_of r ≡ k = kinds 0 r (omega arith) in
      let mine : extent_of r ≡ joined_extent k (map extent_of ts) = first.extent ∙ ap (λ j. joined_extent j (map extent_of ts)) kind in
      extents ∙ (λ i. joined_extent k (mine i ∷ extent_of (same i) ∷ [])) ∙ compose k (map extent_of ts) (extent_of u ∷ []) ∙ ap (joined_extent k) (sym (map-append extent_of ts (u ∷ [])))

  pub appended_refused : (made : Result Tree VortexError) → ConcatsCompose → concat_fault ts ≡ None → Refuses made (concat_fault (r ∷ d ∷ [])) → Refuses made (or_else (concat_fault ts) (concat_fault (ts ++ u ∷ [])))
  appended_refused made compose none refused =
      refuses_after made (concat_fault ts) (concat_fault (ts ++ u ∷ [])) none
      (subst (Refuses made) (compose ts (d ∷ []) r none first ∙ ap (λ t. concat_fault (ts ++ t ∷ [])) same) refused)
