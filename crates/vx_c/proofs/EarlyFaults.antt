-- What is told without asking for memory.
use Rattle.std.proofs.Common.{ℕ, zero, suc, ◌+◌, ◌<◌, ◌≤◌, ◌≡◌, List, [], ◌∷◌, length, drop, get_or, refl, sym, ◌∙◌, ap, subst, inl, inr, arith}
use Rattle.std.specs.Prelude.{◌⊎◌, Option, Some, None, IsSome, Result, Ok, Err, IfErr}
use Rattle.vx_tree.specs.Tree.{Tree}
use Rattle.vx_c.specs.declared.faults.CodraskFault.{CodraskFault}
use Rattle.vx_c.specs.declared.faults.NodeError.{NodeError}
use Rattle.vx_c.specs.declared.faults.NodeError.TheVariants.{UnknownKind, NotOneArray, TooManyNodes}
use Rattle.vx_c.specs.declared.reading.TheConstants.{MAX_NODES}
use Rattle.vx_c.specs.declared.table.CodraskNode.{CodraskNode}
use Rattle.vx_c.specs.declared.table.NodeKind.{NodeKind}
use Rattle.vx_c.specs.NodeKinds.{kind_numbered}
use Rattle.vx_c.specs.Tables.{NodeFault, put, kind_made, at_node, then_node, arrays_from}
use Rattle.vx_c.specs.Answers.{fault_at, as_told, told_of, last_node, IsLastKnown, TakesMemory, IsEarly}

-- ---- nodes that were read are of a kind

pub kind_some : (n : CodraskNode) (k : NodeKind) → kind_numbered n.kind ≡ Some k → IsSome (kind_numbered n.kind)
kind_some n k is = subst IsSome (sym is) refl

kind-known : (o : Option NodeKind) (n : CodraskNode) (at : ℕ) (us ts : List Tree) → at_node at (put n (kind_made o n us)) ≡ Ok ts → IsSome o
kind-known None n at us ts read = absurd (cc)
kind-known (Some k) n at us ts read = refl

behind-read : (n : CodraskNode) (at : ℕ) (r : Result (List Tree) (ℕ × NodeFault)) (ts : List Tree) → then_node at n r ≡ Ok ts → (us : List Tree) × (r ≡ Ok us)
behind-read n at (Ok us) ts read = (us, refl)
behind-read n at (Err f) ts read = absurd (cc)

last-read : (n : CodraskNode) (ns : List CodraskNode) (at : ℕ) (ts : List Tree) → arrays_from at (n ∷ ns) ≡ Ok ts → IsSome (kind_numbered (last_node n ns).kind)
last-read n [] at ts read = kind-known (kind_numbered n.kind) n at [] ts read
last-read n (m ∷ ns) at ts read =
    let behind = behind-read n at (arrays_from (suc at) (m ∷ ns)) ts read in
    last-read m ns (suc at) behind.0 behind.1

-- the last node is of a kind: it was read before, or it is the one that is read
last-known : (n : CodraskNode) (ns : List CodraskNode) (at i : ℕ) (other : CodraskNode) (ts : List Tree) (e : NodeError) → i < length (n ∷ ns)
    → arrays_from at (drop (suc i) (n ∷ ns)) ≡ Ok ts → (e ≡ UnknownKind) ⊎ IsSome (kind_numbered (get_or (n ∷ ns) i other).kind)
    → (e ≡ UnknownKind) ⊎ IsSome (kind_numbered (last_node n ns).kind)
last-known n [] at zero other ts e inside read here = here
last-known n [] at (suc i) other ts e inside read here = absurd (omega (arith, inside))
last-known n (m ∷ ns) at zero other ts e inside read here = inr (last-read m ns at ts read)
last-known n (m ∷ ns) at (suc i) other ts e inside read here = last-known m ns at i other ts e (omega (arith, inside)) read here

pub unknown-last : (nodes : List CodraskNode) (j i : ℕ) (other : CodraskNode) (ts : List Tree) (e : NodeError) → j ≡ i + 1 → i < length nodes
    → arrays_from j (drop j nodes) ≡ Ok ts → (e ≡ UnknownKind) ⊎ IsSome (kind_numbered (get_or nodes i other).kind)
    → (e ≡ UnknownKind) ⊎ IsLastKnown nodes
unknown-last [] j i other ts e next inside before here = absurd (omega (arith, inside))
unknown-last (n ∷ ns) j i other ts e next inside before here =
    let same : suc i ≡ j = omega (arith, next) in
    last-known n ns j i other ts e inside (ap (λ k. arrays_from j (drop k (n ∷ ns))) same ∙ before) here

-- ---- the error of a table

pub early_many : (nodes : List CodraskNode) → IsEarly TooManyNodes ⊎ TakesMemory nodes
early_many nodes = inl (inl refl)

pub early_only : (nodes : List CodraskNode) (r : Result Tree (ℕ × NodeError)) → IfErr r (λ fault. fault.1 ≡ NotOneArray)
    → IfErr r (λ fault. IsEarly fault.1 ⊎ TakesMemory nodes)
early_only nodes (Ok t) is = is
early_only nodes (Err p) is = inl (inr (inl is))

pub early_last : (nodes : List CodraskNode) (e : NodeError) → length nodes ≤ MAX_NODES → (e ≡ UnknownKind) ⊎ IsLastKnown nodes → IsEarly e ⊎ TakesMemory nodes
early_last nodes e few (inl is) = inl (inr (inr is))
early_last nodes e few (inr known) = inr (few, known)

pub ruleset early = (early_many, early_only, early_last)

-- ---- the number of an answer

number-of : (i : ℕ) (e f : NodeError) → e ≡ f → (as_told (fault_at i e)).number ≡ (as_told (fault_at i f)).number
number-of i e f is = ap (λ (x : NodeError). (as_told (fault_at i x)).number) is

early-number : (i : ℕ) (e : NodeError) → IsEarly e → 1 < (as_told (fault_at i e)).number
early-number i e (inl is) = omega (arith, number-of i e TooManyNodes is)
early-number i e (inr (inl is)) = omega (arith, number-of i e NotOneArray is)
early-number i e (inr (inr is)) = omega (arith, number-of i e UnknownKind is)

pub memory_told : (r : Result (Unit {0}) (ℕ × NodeError)) (nodes : List CodraskNode) (told : CodraskFault) → told ≡ told_of r
    → IfErr r (λ p. IsEarly p.1 ⊎ TakesMemory nodes) → told.number ≡ 1 → TakesMemory nodes
memory_told (Ok u) nodes told is said one =
    let none : told.number ≡ 0 = ap (λ (t : CodraskFault). t.number) is in absurd (omega (arith, none, one))
memory_told (Err p) nodes told is (inr takes) one = takes
memory_told (Err p) nodes told is (inl before) one =
    let same : told.number ≡ (as_told (fault_at p.0 p.1)).number = ap (λ (t : CodraskFault). t.number) is in
    absurd (omega (arith, same, one, early-number p.0 p.1 before))
