use Rattle.vx_base.proofs.Refused.{Gives-weaker, Gives-IfOk}
use Rattle.vx_canonical.proofs.CanonicalAt.{picked_canonical}
use Rattle.vx_canonical.proofs.CanonicalWithin.{leaf_picked_within}
use Rattle.vx_canonical.proofs.Leaves.{leaf_picked}
use Rattle.vx_canonical.proofs.layouts.leaf.canonical_leaf_at.Goals as goal

pub returns-clause-rows : goal.returns-clause-rows
returns-clause-rows c =
    let t = c.args.array.now in
    let s = c.in_ok-picked.picked in
    let h = c.in_ok-picked.ensures in
    Gives-weaker c.canonical_leaf.result _ _ (λ r x. picked_canonical t s r c.args.selection.now h (leaf_picked t s c.requires.leaf h.shape).1 x) c.canonical_leaf.ensures.plain

pub canonical_leaf-requires : goal.canonical_leaf-requires
canonical_leaf-requires c = (leaf_picked c.args.array.now c.in_ok-picked.picked c.requires.leaf c.in_ok-picked.ensures.shape).0

pub returns-clause-within : goal.returns-clause-within
returns-clause-within c =
    let t = c.args.array.now in
    let s = c.in_ok-picked.picked in
    Gives-IfOk c.canonical_leaf.result _ _ (λ r x. leaf_picked_within t s r c.requires.leaf c.in_ok-picked.ensures.shape x) c.canonical_leaf.ensures.plain
