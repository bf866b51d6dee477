use Rattle.std.proofs.Common.{◌<◌, [], ◌∷◌, ◌++◌, length, sym, subst}
use Rattle.std.proofs.lemmas.List.Elements.{All-push}
use Rattle.vx_leaves.specs.Iterated.{AreMarked}
use Rattle.vx_leaves.proofs.MarkedBits.{AreMarked-more}
use Rattle.vx_leaves.proofs.bool_iterators.mark.Goals as goal

pub loop-index-preserved : goal.loop-index-preserved
loop-index-preserved g c =
    let n = length c.args.bits.now in
    let xs = c.loop-index.yielded in
    let i = c.in-Some.index in
    let h : i < n = subst (λ k. i < k) c.len-len.ensures c.if-index-len.false in
    record {
      below = All-push (λ k. k < n) xs i c.loop-index.invariant.below h;
      marked = subst (AreMarked n (xs ++ i ∷ [])) (sym c.set.ensures) (AreMarked-more n xs c.loop-index.bits i h c.loop-index.invariant.marked);
    }
