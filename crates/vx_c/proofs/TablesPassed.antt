-- A table whose nodes are known to have no fault, from the last to the first.
use Rattle.std.proofs.Common.{◌≡◌, ℕ, zero, suc, ◌+◌, ◌<◌, ◌≤◌, List, [], ◌∷◌, length, drop, get_or, refl, ap, sym, subst, arith}
use Rattle.std.specs.Prelude.{None, Result, Ok, Err}
use Rattle.std.proofs.Math.Seq.{drop-cons}
use Rattle.std.proofs.lemmas.Bool.{le-ltb}
use Rattle.vx_tree.specs.Tree.{Tree}
use Rattle.vx_c.specs.declared.parts.Part.{Part}
use Rattle.vx_c.specs.declared.reading.TheConstants.{MAX_NODES}
use Rattle.vx_c.specs.declared.table.CodraskNode.{CodraskNode}
use Rattle.vx_c.specs.Parts.{AreDescribed, IsDescribed}
use Rattle.vx_c.specs.Tables.{NodeFault, node_made, at_node, then_node, arrays_from, only, fault_in, table_fault}
use Rattle.vx_c.specs.Told.{offset_kind_numbered, told_by, IsToldBy, AreToldBy, HasOrder, HaveOrder}

-- ---- node for node

pub as_many : (nodes told : List CodraskNode) → AreToldBy nodes told → length told ≡ length nodes
as_many [] [] are = refl
as_many [] (t ∷ ts) are = absurd are
as_many (n ∷ ns) [] are = absurd are
as_many (n ∷ ns) (t ∷ ts) are = ap suc (as_many ns ts are.1)

-- the node that the node at a place tells of
record IsToldAt (nodes told : List CodraskNode) (other : CodraskNode) (i : ℕ) : Type 0 where
  node : CodraskNode
  here : drop i told ≡ node ∷ drop (suc i) told
  by : IsToldBy (get_or nodes i other) node

told_at : (nodes told : List CodraskNode) (other : CodraskNode) (i : ℕ) → AreToldBy nodes told → i < length nodes → IsToldAt nodes told other i
told_at [] told other i are inside = absurd (omega (arith, inside))
told_at (n ∷ ns) [] other i are inside = absurd are
told_at (n ∷ ns) (t ∷ ts) other zero are inside = record { node = t; here = refl; by = are.0 }
told_at (n ∷ ns) (t ∷ ts) other (suc i) are inside =
    let more = told_at ns ts other i are.1 (omega (arith, inside)) in
    record { node = more.node; here = more.here; by = more.by }

-- ---- a node more

at_node_passed : (i : ℕ) (new : List Part) (r : Result (List Tree) NodeFault) → IsDescribed new r → IsDescribed new (at_node i r)
at_node_passed i new (Ok ts) described = described
at_node_passed i new (Err f) described = absurd described

then_passed : (i : ℕ) (t : CodraskNode) (old new : List Part) (r : Result (List Tree) (ℕ × NodeFault)) → IsDescribed old r
    → ((ts : List Tree) → AreDescribed old ts → IsDescribed new (node_made t ts)) → IsDescribed new (then_node i t r)
then_passed i t old new (Ok ts) described step = at_node_passed i new (node_made t ts) (step ts described)
then_passed i t old new (Err f) described step = absurd described

pub table_more : (nodes told : List CodraskNode) (j i : ℕ) (other : CodraskNode) (old new : List Part) → j ≡ i + 1 → i < length nodes → AreToldBy nodes told
    → IsDescribed old (arrays_from j (drop j told))
    → ((t : CodraskNode) (ts : List Tree) → IsToldBy (get_or nodes i other) t → AreDescribed old ts → IsDescribed new (node_made t ts))
    → IsDescribed new (arrays_from i (drop i told))
table_more nodes told j i other old new next inside are before step =
    let at = told_at nodes told other i are inside in
    let same : j ≡ suc i = omega (arith, next) in
    let behind : IsDescribed old (arrays_from (suc i) (drop (suc i) told)) = subst (λ k. IsDescribed old (arrays_from k (drop k told))) same before in
    subst (λ ns. IsDescribed new (arrays_from i ns)) (sym at.here)
    (then_passed i at.node old new (arrays_from (suc i) (drop (suc i) told)) behind (λ ts described. step at.node ts at.by described))

pub order_more : (nodes : List CodraskNode) (j i : ℕ) (other : CodraskNode) → j ≡ i + 1 → i < length nodes → HasOrder (get_or nodes i other) → HaveOrder (drop j nodes) → HaveOrder (drop i nodes)
order_more nodes j i other next inside here before =
    let same : j ≡ suc i = omega (arith, next) in
    subst HaveOrder (sym (drop-cons nodes i other inside)) (here, subst (λ k. HaveOrder (drop k nodes)) same before)

-- ---- all of them

only_passed : (ps : List Part) (r : Result (List Tree) (ℕ × NodeFault)) → length ps ≡ 1 → IsDescribed ps r → fault_in (only r) ≡ None
only_passed [] r one described = absurd (omega (arith, one))
only_passed (p ∷ q ∷ ps) r one described = absurd (omega (arith, one))
only_passed (p ∷ []) (Ok []) one described = absurd described
only_passed (p ∷ []) (Ok (t ∷ [])) one described = refl
only_passed (p ∷ []) (Ok (t ∷ u ∷ us)) one described = absurd described.1
only_passed (p ∷ []) (Err f) one described = absurd described

pub table_passed : (nodes told : List CodraskNode) (ps : List Part) → length nodes ≤ MAX_NODES → AreToldBy nodes told → length ps ≡ 1
    → IsDescribed ps (arrays_from 0 told) → table_fault told ≡ None
table_passed nodes told ps few are one described =
    rw (le-ltb MAX_NODES (length told) (omega (arith, few, as_many nodes told are))) (only_passed ps (arrays_from 0 told) one described)

-- ---- no node yet

drop_past : (xs : List CodraskNode) (n : ℕ) → length xs ≤ n → drop n xs ≡ []
drop_past [] zero h = refl
drop_past [] (suc n) h = refl
drop_past (x ∷ xs) zero h = absurd (omega (arith, h))
drop_past (x ∷ xs) (suc n) h = drop_past xs n (omega (arith, h))

pub table_none : (nodes told : List CodraskNode) (n : ℕ) (ps : List Part) → length nodes ≤ n → AreToldBy nodes told → ps ≡ [] → IsDescribed ps (arrays_from n (drop n told))
table_none nodes told n ps past are none =
    subst (λ ns. IsDescribed ps (arrays_from n ns)) (sym (drop_past told n (omega (arith, past, as_many nodes told are))))
    (subst (λ (qs : List Part). AreDescribed qs []) (sym none) tt)

pub order_none : (nodes : List CodraskNode) (n : ℕ) → length nodes ≤ n → HaveOrder (drop n nodes)
order_none nodes n past = subst HaveOrder (sym (drop_past nodes n past)) tt

-- ---- tables without offsets

pub plain_more : (nodes : List CodraskNode) (j i : ℕ) (other : CodraskNode) → j ≡ i + 1 → i < length nodes → offset_kind_numbered (get_or nodes i other).kind ≡ None
    → AreToldBy (drop j nodes) (drop j nodes) → AreToldBy (drop i nodes) (drop i nodes)
plain_more nodes j i other next inside none before =
    let same : j ≡ suc i = omega (arith, next) in
    let n = get_or nodes i other in
    let here : IsToldBy n n = subst (λ k. told_by k n n) (sym none) refl in
    subst (λ ns. AreToldBy ns ns) (sym (drop-cons nodes i other inside)) (here, subst (λ k. AreToldBy (drop k nodes) (drop k nodes)) same before)

pub plain_none : (nodes : List CodraskNode) (n : ℕ) → length nodes ≤ n → AreToldBy (drop n nodes) (drop n nodes)
plain_none nodes n past = subst (λ ns. AreToldBy ns ns) (sym (drop_past nodes n past)) tt
