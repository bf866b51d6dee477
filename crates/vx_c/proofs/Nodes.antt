-- One node: the array that it is, and which fault is answered.
use Rattle.std.proofs.Common.{ℕ, suc, ◌≡◌, ◌≢◌, ◌++◌, List, [], ◌∷◌, length, reverse, refl, sym, ◌∙◌, ap, subst, inl, inr, arith, rules}
use Rattle.std.specs.Prelude.{Option, Some, None, Result, Ok, Err, option_map}
use Rattle.std.proofs.lemmas.List.{reverse-append}
use Rattle.vx_base.specs.declared.errors.VortexError.{VortexError}
use Rattle.vx_base.specs.declared.errors.VortexError.TheVariants.{Memory, LengthMismatch}
use Rattle.vx_base.specs.Refusals.{Refusal, refusal_of, IsMemoryOr}
use Rattle.vx_tree.specs.Tree.{Tree, Valid}
use Rattle.vx_tree.specs.Meaning.{tree_len}
use Rattle.vx_tree.proofs.Dictionaries.{memory_only}
use Rattle.vx_c.specs.declared.table.CodraskNode.{CodraskNode}
use Rattle.vx_c.specs.declared.table.NodeKind.{NodeKind}
use Rattle.vx_c.specs.declared.faults.NodeError.{NodeError}
use Rattle.vx_c.specs.declared.faults.NodeError.TheVariants.{UnknownKind, BadValidity, MissingNodes, NotOneArray, TooManyNodes, BadMode, TooManySteps, Refused}
use Rattle.vx_c.specs.NodeKinds.{kind_numbered}
use Rattle.vx_c.specs.Tables.{NodeFault, refused, unless, put, layout_made, valid_of_number, valid_made, kind_made, node_made, fault_in, only}
use Rattle.vx_c.specs.Answers.{fault_of, IsFaultOf}

-- ---- stacks

pub on_top : (ts us : List Tree) (t : Tree) → us ≡ ts ++ t ∷ [] → reverse us ≡ t ∷ reverse ts
on_top ts us t e = ap reverse e ∙ reverse-append ts (t ∷ [])

-- ---- errors

no_refusal : (v : VortexError) (o : Option Refusal) → o ≡ refusal_of v → option_map refused o ≡ None → v ≡ Memory
no_refusal v None is none = memory_only None v refl (inr is)
no_refusal v (Some r) is none = absurd (cc)

-- an error that names no fault is want of memory
pub memory_alone : (e : NodeError) → fault_of e ≡ None → e ≡ Refused Memory
memory_alone UnknownKind none = absurd (cc)
memory_alone BadValidity none = absurd (cc)
memory_alone MissingNodes none = absurd (cc)
memory_alone NotOneArray none = absurd (cc)
memory_alone TooManyNodes none = absurd (cc)
memory_alone BadMode none = absurd (cc)
memory_alone TooManySteps none = absurd (cc)
memory_alone (Refused v) none = ap Refused (no_refusal v (refusal_of v) refl none)

-- the refusal of a call as the error of a node
pub refused_by : (fault : Option Refusal) (v : VortexError) (t : Tree) (ts : List Tree) → IsMemoryOr fault v → IsFaultOf (Refused v) (unless fault t ts)
refused_by fault v t ts (inl m) = inl (ap Refused m)
refused_by None v t ts (inr is) = inl (ap Refused (memory_only None v refl (inr is)))
refused_by (Some r) v t ts (inr is) = inr (ap (option_map refused) is)

-- ---- from the parts to the node

invalid-passed : (k : NodeKind) (n : CodraskNode) (e : NodeError) (r : Result (Valid × List Tree) NodeFault) → IsFaultOf e r → IsFaultOf e (put n (valid_made k n r))
invalid-passed k n e r (inl m) = inl m
invalid-passed k n e (Ok p) (inr is) = inl (memory_alone e (sym is))
invalid-passed k n e (Err f) (inr is) = inr is

refused-passed : (n : CodraskNode) (e : NodeError) (r : Result (Tree × List Tree) NodeFault) → IsFaultOf e r → IsFaultOf e (put n r)
refused-passed n e r (inl m) = inl m
refused-passed n e (Ok p) (inr is) = inl (memory_alone e (sym is))
refused-passed n e (Err f) (inr is) = inr is

known : (n : CodraskNode) (ts : List Tree) (k : NodeKind) → kind_numbered n.kind ≡ Some k → node_made n ts ≡ put n (valid_made k n (valid_of_number n.validity ts))
known n ts k is = ap (λ o. put n (kind_made o n ts)) is

valid : (n : CodraskNode) (ts us : List Tree) (k : NodeKind) (v : Valid) → kind_numbered n.kind ≡ Some k → valid_of_number n.validity ts ≡ Ok (v, us)
    → node_made n ts ≡ put n (layout_made k n v us)
valid n ts us k v is of = known n ts k is ∙ ap (λ r. put n (valid_made k n r)) of

pub node-unknown : (n : CodraskNode) (ts : List Tree) → kind_numbered n.kind ≡ None → IsFaultOf UnknownKind (node_made n ts)
node-unknown n ts is = inr (ap (λ o. fault_in (put n (kind_made o n ts))) is)

pub node-invalid : (n : CodraskNode) (ts : List Tree) (k : NodeKind) (e : NodeError) → kind_numbered n.kind ≡ Some k
    → IsFaultOf e (valid_of_number n.validity ts) → IsFaultOf e (node_made n ts)
node-invalid n ts k e is fault =
    subst (IsFaultOf e) (sym (known n ts k is)) (invalid-passed k n e (valid_of_number n.validity ts) fault)

pub node-refused : (n : CodraskNode) (ts us : List Tree) (k : NodeKind) (v : Valid) (e : NodeError) → kind_numbered n.kind ≡ Some k
    → valid_of_number n.validity ts ≡ Ok (v, us) → IsFaultOf e (layout_made k n v us) → IsFaultOf e (node_made n ts)
node-refused n ts us k v e is of fault =
    subst (IsFaultOf e) (sym (valid n ts us k v is of)) (refused-passed n e (layout_made k n v us) fault)

pub node-made : (n : CodraskNode) (ts us vs : List Tree) (k : NodeKind) (v : Valid) (t : Tree) → kind_numbered n.kind ≡ Some k
    → valid_of_number n.validity ts ≡ Ok (v, us) → layout_made k n v us ≡ Ok (t, vs) → tree_len t ≡ n.length → node_made n ts ≡ Ok (t ∷ vs)
node-made n ts us vs k v t is of made len =
    valid n ts us k v is of ∙ ap (put n) made ∙ as_long
  where
    as_long : put n (Ok (t, vs)) ≡ Ok (t ∷ vs)
    as_long = search (rules, arith, len)

pub node-other_len : (n : CodraskNode) (ts us vs : List Tree) (k : NodeKind) (v : Valid) (t : Tree) (wanted found : ℕ) → kind_numbered n.kind ≡ Some k
    → valid_of_number n.validity ts ≡ Ok (v, us) → layout_made k n v us ≡ Ok (t, vs) → tree_len t ≢ n.length
    → IsFaultOf (Refused (LengthMismatch wanted found)) (node_made n ts)
node-other_len n ts us vs k v t wanted found is of made other =
    inr (ap fault_in (valid n ts us k v is of ∙ ap (put n) made) ∙ too_long)
  where
    too_long : fault_in (put n (Ok (t, vs))) ≡ fault_of (Refused (LengthMismatch wanted found))
    too_long = search (rules, arith, other)

-- ---- the only one

pub only-one : (ts us : List Tree) (t : Tree) → ts ≡ t ∷ us → length ts ≡ 1 → only (Ok ts) ≡ Ok t
only-one ts [] t is one = ap (λ x. only (Ok x)) is
only-one ts (u ∷ us) t is one = let len : suc (suc (length us)) ≡ 1 = sym (ap length is) ∙ one in absurd (omega (arith, len))
