-- A table, node after node from the last, and its first fault.
use Rattle.std.proofs.Common.{ℕ, zero, suc, ◌+◌, ◌<◌, ◌≤◌, ◌≡◌, ◌≢◌, List, [], ◌∷◌, length, drop, get_or, refl, sym, ◌∙◌, ap, subst, inl, inr, arith, rules}
use Rattle.std.specs.Prelude.{Option, Some, None, Result, Ok, Err}
use Rattle.std.proofs.Math.Seq.{drop-cons}
use Rattle.vx_base.specs.declared.errors.VortexError.TheVariants.{Memory}
use Rattle.vx_tree.specs.Tree.{Tree}
use Rattle.vx_c.specs.declared.faults.CodraskFault.{CodraskFault}
use Rattle.vx_c.specs.declared.faults.NodeError.{NodeError}
use Rattle.vx_c.specs.declared.faults.NodeError.TheVariants.{NotOneArray, Refused}
use Rattle.vx_c.specs.declared.reading.TheConstants.{MAX_NODES}
use Rattle.vx_c.specs.declared.table.CodraskNode.{CodraskNode}
use Rattle.vx_c.specs.Tables.{NodeFault, node_made, at_node, then_node, arrays_from, only, column_of, fault_in}
use Rattle.vx_c.specs.Answers.{fault_of, IsFaultOf, IsTableFault, IsRead, with_node, fault_at, as_told, told_of, IsAnswer}
use Rattle.vx_c.proofs.ErrorNumbers.{node_error_number-fault}
use Rattle.vx_c.proofs.Nodes.{memory_alone}

-- the node at a place, read after those behind it
at_place : (nodes : List CodraskNode) (j i : ℕ) (other node : CodraskNode) (ts : List Tree) → j ≡ i + 1 → i < length nodes → node ≡ get_or nodes i other
    → arrays_from j (drop j nodes) ≡ Ok ts → arrays_from i (drop i nodes) ≡ at_node i (node_made node ts)
at_place nodes j i other node ts next inside is before =
    let here : drop i nodes ≡ node ∷ drop (suc i) nodes = drop-cons nodes i other inside ∙ ap (λ x. x ∷ drop (suc i) nodes) (sym is) in
    let same : suc i ≡ j = omega (arith, next) in
    let behind : arrays_from (suc i) (drop (suc i) nodes) ≡ Ok ts = ap (λ x. arrays_from x (drop x nodes)) same ∙ before in
    ap (arrays_from i) here ∙ ap (then_node i node) behind

-- the fault of the nodes from a place on is that of all
faulty-all : (i k m : ℕ) (nodes : List CodraskNode) (p : ℕ × NodeFault) → m ≡ k + i → arrays_from m (drop i nodes) ≡ Err p → arrays_from k nodes ≡ Err p
faulty-all zero k m nodes p at h = let same : k ≡ m = omega (arith, at) in ap (λ x. arrays_from x nodes) same ∙ h
faulty-all (suc i) k m [] p at h = absurd (cc)
faulty-all (suc i) k m (n ∷ nodes) p at h = ap (then_node k n) (faulty-all i (suc k) m nodes p (omega (arith, at)) h)

told-of_all : (i : ℕ) (e : NodeError) (r : Result (List Tree) NodeFault) (all : Result (List Tree) (ℕ × NodeFault))
    → ((p : ℕ × NodeFault) → at_node i r ≡ Err p → all ≡ Err p) → IsFaultOf e r → IsTableFault (i, e) all
told-of_all i e r all up (inl m) = inl m
told-of_all i e (Ok ts) all up (inr is) = inl (memory_alone e (sym is))
told-of_all i e (Err f) all up (inr is) = inr (ap fault_in (up (i, f) refl) ∙ ap (with_node i) is)

pub arrays-faulty : (nodes : List CodraskNode) (j i : ℕ) (other : CodraskNode) (ts : List Tree) (e : NodeError) → j ≡ i + 1 → i < length nodes
    → arrays_from j (drop j nodes) ≡ Ok ts → IsFaultOf e (node_made (get_or nodes i other) ts) → IsTableFault (i, e) (arrays_from 0 nodes)
arrays-faulty nodes j i other ts e next inside before fault =
    let node : CodraskNode = get_or nodes i other in
    told-of_all i e (node_made node ts) (arrays_from 0 nodes)
    (λ p h. faulty-all i 0 i nodes p (omega arith) (at_place nodes j i other node ts next inside refl before ∙ h)) fault

-- ---- the only array

pub not-one : (ts : List Tree) → length ts ≢ 1 → IsTableFault (0, NotOneArray) (only (Ok ts))
not-one [] other = inr refl
not-one (t ∷ []) other = absurd (other refl)
not-one (t ∷ u ∷ us) other = inr refl

pub faulty-only : (p : ℕ × NodeError) (r : Result (List Tree) (ℕ × NodeFault)) → IsTableFault p r → IsTableFault p (only r)
faulty-only p r (inl m) = inl m
faulty-only p (Ok ts) (inr is) = inl (memory_alone p.1 (none_of (fault_of p.1) is))
  where
    none_of : (o : Option NodeFault) → None ≡ with_node p.0 o → o ≡ None
    none_of None h = refl
    none_of (Some f) h = absurd (cc)
faulty-only p (Err f) (inr is) = inr is

-- of no more nodes than a table may have
pub column-faulty : (nodes : List CodraskNode) (p : ℕ × NodeError) → length nodes ≤ MAX_NODES → IsTableFault p (arrays_from 0 nodes)
    → IsTableFault p (column_of nodes)
column-faulty nodes p few fault = subst (IsTableFault p) (sym short) (faulty-only p (arrays_from 0 nodes) fault)
  where
    short : column_of nodes ≡ only (arrays_from 0 nodes)
    short = search (rules, arith, few)

-- ---- what C is told

abbrev node_in : ℕ → Option (ℕ × NodeFault) → ℕ
node_in other None = other
node_in other (Some p) = p.0

abbrev named_in : NodeFault → Option (ℕ × NodeFault) → NodeFault
named_in other None = other
named_in other (Some p) = p.1

-- of another number nothing is left out
told-as : (fault : CodraskFault) → 1 < fault.number → as_told fault ≡ fault
told-as fault more = let other : fault.number ≢ 1 = λ h. omega (arith, h, more) in search (rules, arith, other)

told-one : (i j : ℕ) (e : NodeError) (f : NodeFault) (o : Option NodeFault) → o ≡ fault_of e → Some (j, f) ≡ with_node i o
    → IsAnswer (told_of {A = Unit {0}} (Err (i, e))) (Some (j, f))
told-one i j e f None is same = absurd (cc)
told-one i j e f (Some g) is same =
    let named : g ≡ f = sym (ap (named_in f) same) in
    let place : i ≡ j = sym (ap (node_in j) same) in
    let names : fault_of e ≡ Some f = sym is ∙ ap Some named in
    inr (e, names, told-as (fault_at i e) (node_error_number-fault e f names) ∙ ap (λ k. fault_at k e) place)

told-memory : (i : ℕ) (e : NodeError) (fault : Option (ℕ × NodeFault)) → e ≡ Refused Memory → IsAnswer (told_of {A = Unit {0}} (Err (i, e))) fault
told-memory i e None m = inl (ap (λ (x : NodeError). as_told (fault_at i x)) m)
told-memory i e (Some p) m = inl (ap (λ (x : NodeError). as_told (fault_at i x)) m)

pub told_right : (r : Result (Unit {0}) (ℕ × NodeError)) (fault : Option (ℕ × NodeFault)) → IsRead r fault → IsAnswer (told_of r) fault
told_right (Ok u) fault none = subst (IsAnswer (told_of (Ok u))) (sym none) (inr refl)
told_right (Err p) fault (inl m) = told-memory p.0 p.1 fault m
told_right (Err p) None (inr same) = told-memory p.0 p.1 None (memory_alone p.1 (none_of (fault_of p.1) same))
  where
    none_of : (o : Option NodeFault) → None ≡ with_node p.0 o → o ≡ None
    none_of None h = refl
    none_of (Some f) h = absurd (cc)
told_right (Err p) (Some q) (inr same) = told-one p.0 q.0 p.1 q.1 (fault_of p.1) refl same
