-- What each layout makes of the arrays on top, and which fault is answered.
use Rattle.std.proofs.Common.{◌≡◌, false, List, [], ◌∷◌, sym, ◌∙◌, ap, subst, inr}
use Rattle.std.specs.Prelude.{Option, None, Ok}
use Rattle.vx_base.specs.declared.errors.VortexError.{VortexError}
use Rattle.vx_base.specs.Refusals.{Refusal, IsMemoryOr}
use Rattle.vx_tree.specs.Tree.{Tree, Valid, non_nullable, dictionary, fixed_list, list_view}
use Rattle.vx_leaves.specs.Dictionaries.{dictionary_fault}
use Rattle.vx_lists.specs.FixedSizeLists.{fixed_list_fault}
use Rattle.vx_lists.specs.ListViews.Faults.{list_view_fault}
use Rattle.vx_c.specs.declared.table.CodraskNode.{CodraskNode}
use Rattle.vx_c.specs.declared.table.NodeKind.TheVariants.{Dictionary, FixedSizeList, ListView}
use Rattle.vx_c.specs.declared.faults.NodeError.TheVariants.{MissingNodes, Refused}
use Rattle.vx_c.specs.Tables.{unless, layout_made, fault_in}
use Rattle.vx_c.specs.Answers.{IsFaultOf}
use Rattle.vx_c.proofs.Nodes.{refused_by}

pub made_by : (fault : Option Refusal) (t a : Tree) (ts : List Tree) → fault ≡ None → a ≡ t → unless fault t ts ≡ Ok (a, ts)
made_by fault t a ts none is = ap (λ f. unless f t ts) none ∙ ap (λ x. Ok (x, ts)) (sym is)

-- ---- dictionaries

dictionary-of : (n : CodraskNode) (s0 s1 s2 : List Tree) (c v : Tree) → s0 ≡ c ∷ s1 → s1 ≡ v ∷ s2
    → layout_made Dictionary n non_nullable s0 ≡ unless (dictionary_fault c v) (dictionary c v false) s2
dictionary-of n s0 s1 s2 c v first second =
    ap (layout_made Dictionary n non_nullable) (first ∙ ap (λ x. c ∷ x) second)

pub dictionary-made : (n : CodraskNode) (s0 s1 s2 : List Tree) (c v a : Tree) → s0 ≡ c ∷ s1 → s1 ≡ v ∷ s2 → dictionary_fault c v ≡ None
    → a ≡ dictionary c v false → layout_made Dictionary n non_nullable s0 ≡ Ok (a, s2)
dictionary-made n s0 s1 s2 c v a first second none is =
    dictionary-of n s0 s1 s2 c v first second ∙ made_by (dictionary_fault c v) (dictionary c v false) a s2 none is

pub dictionary-refused : (n : CodraskNode) (s0 s1 s2 : List Tree) (c v : Tree) (e : VortexError) → s0 ≡ c ∷ s1 → s1 ≡ v ∷ s2
    → IsMemoryOr (dictionary_fault c v) e → IsFaultOf (Refused e) (layout_made Dictionary n non_nullable s0)
dictionary-refused n s0 s1 s2 c v e first second fault =
    subst (IsFaultOf (Refused e)) (sym (dictionary-of n s0 s1 s2 c v first second))
    (refused_by (dictionary_fault c v) e (dictionary c v false) s2 fault)

pub dictionary-no_codes : (n : CodraskNode) (s0 : List Tree) → s0 ≡ [] → IsFaultOf MissingNodes (layout_made Dictionary n non_nullable s0)
dictionary-no_codes n s0 none = inr (ap (λ s. fault_in (layout_made Dictionary n non_nullable s)) none)

pub dictionary-no_values : (n : CodraskNode) (s0 s1 : List Tree) (c : Tree) → s0 ≡ c ∷ s1 → s1 ≡ []
    → IsFaultOf MissingNodes (layout_made Dictionary n non_nullable s0)
dictionary-no_values n s0 s1 c first none =
    inr (ap (λ s. fault_in (layout_made Dictionary n non_nullable s)) (first ∙ ap (λ x. c ∷ x) none))

-- ---- lists of one size

fixed-of : (n : CodraskNode) (v : Valid) (s0 s1 : List Tree) (e : Tree) → s0 ≡ e ∷ s1
    → layout_made FixedSizeList n v s0 ≡ unless (fixed_list_fault e n.size v n.length) (fixed_list e n.size v n.length) s1
fixed-of n v s0 s1 e first = ap (layout_made FixedSizeList n v) first

pub fixed-made : (n : CodraskNode) (v : Valid) (s0 s1 : List Tree) (e a : Tree) → s0 ≡ e ∷ s1 → fixed_list_fault e n.size v n.length ≡ None
    → a ≡ fixed_list e n.size v n.length → layout_made FixedSizeList n v s0 ≡ Ok (a, s1)
fixed-made n v s0 s1 e a first none is =
    fixed-of n v s0 s1 e first ∙ made_by (fixed_list_fault e n.size v n.length) (fixed_list e n.size v n.length) a s1 none is

pub fixed-refused : (n : CodraskNode) (v : Valid) (s0 s1 : List Tree) (e : Tree) (error : VortexError) → s0 ≡ e ∷ s1
    → IsMemoryOr (fixed_list_fault e n.size v n.length) error → IsFaultOf (Refused error) (layout_made FixedSizeList n v s0)
fixed-refused n v s0 s1 e error first fault =
    subst (IsFaultOf (Refused error)) (sym (fixed-of n v s0 s1 e first))
    (refused_by (fixed_list_fault e n.size v n.length) error (fixed_list e n.size v n.length) s1 fault)

pub fixed-no_elements : (n : CodraskNode) (v : Valid) (s0 : List Tree) → s0 ≡ [] → IsFaultOf MissingNodes (layout_made FixedSizeList n v s0)
fixed-no_elements n v s0 none = inr (ap (λ s. fault_in (layout_made FixedSizeList n v s)) none)

-- ---- list views

lists-of : (n : CodraskNode) (v : Valid) (s0 s1 s2 s3 : List Tree) (e o s : Tree) → s0 ≡ e ∷ s1 → s1 ≡ o ∷ s2 → s2 ≡ s ∷ s3
    → layout_made ListView n v s0 ≡ unless (list_view_fault e o s v) (list_view e o s v false) s3
lists-of n v s0 s1 s2 s3 e o s first second third =
    ap (layout_made ListView n v) (first ∙ ap (λ x. e ∷ x) (second ∙ ap (λ x. o ∷ x) third))

pub lists-made : (n : CodraskNode) (v : Valid) (s0 s1 s2 s3 : List Tree) (e o s a : Tree) → s0 ≡ e ∷ s1 → s1 ≡ o ∷ s2 → s2 ≡ s ∷ s3
    → list_view_fault e o s v ≡ None → a ≡ list_view e o s v false → layout_made ListView n v s0 ≡ Ok (a, s3)
lists-made n v s0 s1 s2 s3 e o s a first second third none is =
    lists-of n v s0 s1 s2 s3 e o s first second third ∙ made_by (list_view_fault e o s v) (list_view e o s v false) a s3 none is

pub lists-refused : (n : CodraskNode) (v : Valid) (s0 s1 s2 s3 : List Tree) (e o s : Tree) (error : VortexError) → s0 ≡ e ∷ s1 → s1 ≡ o ∷ s2
    → s2 ≡ s ∷ s3 → IsMemoryOr (list_view_fault e o s v) error → IsFaultOf (Refused error) (layout_made ListView n v s0)
lists-refused n v s0 s1 s2 s3 e o s error first second third fault =
    subst (IsFaultOf (Refused error)) (sym (lists-of n v s0 s1 s2 s3 e o s first second third))
    (refused_by (list_view_fault e o s v) error (list_view e o s v false) s3 fault)

pub lists-no_elements : (n : CodraskNode) (v : Valid) (s0 : List Tree) → s0 ≡ [] → IsFaultOf MissingNodes (layout_made ListView n v s0)
lists-no_elements n v s0 none = inr (ap (λ s. fault_in (layout_made ListView n v s)) none)

pub lists-no_offsets : (n : CodraskNode) (v : Valid) (s0 s1 : List Tree) (e : Tree) → s0 ≡ e ∷ s1 → s1 ≡ []
    → IsFaultOf MissingNodes (layout_made ListView n v s0)
lists-no_offsets n v s0 s1 e first none =
    inr (ap (λ s. fault_in (layout_made ListView n v s)) (first ∙ ap (λ x. e ∷ x) none))

pub lists-no_sizes : (n : CodraskNode) (v : Valid) (s0 s1 s2 : List Tree) (e o : Tree) → s0 ≡ e ∷ s1 → s1 ≡ o ∷ s2 → s2 ≡ []
    → IsFaultOf MissingNodes (layout_made ListView n v s0)
lists-no_sizes n v s0 s1 s2 e o first second none =
    inr (ap (λ s. fault_in (layout_made ListView n v s)) (first ∙ ap (λ x. e ∷ x) (second ∙ ap (λ x. o ∷ x) none)))
