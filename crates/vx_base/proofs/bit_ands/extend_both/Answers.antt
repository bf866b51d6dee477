use Rattle.std.proofs.Common.{rules, ℕ}
use Rattle.std.specs.Prelude.{bit_and}
use Rattle.std.proofs.lemmas.Result.{IfOk-at_ok}
use Rattle.std.proofs.lemmas.Iterator.{YieldsList-from_map, YieldsList-from_slice, YieldsList-from_zip}
use Rattle.std.proofs.lemmas.Iterator.Adapters.{items_from_extend}
use Rattle.std.proofs.lemmas.Iterator.Consumers.{YieldsList-at}
use Rattle.vx_base.proofs.bit_ands.extend_both.Goals as goal

pub returns : goal.returns
returns c =
    let left = YieldsList-at c.zip-pairs.ensures.first (YieldsList-from_slice c.args.left.now c.iter.ensures.rest) in
    let right = YieldsList-at c.zip-pairs.ensures.second (YieldsList-from_slice c.args.right.now c.iter-2.ensures.rest) in
    let pairs = YieldsList-at c.map.ensures.source (YieldsList-from_zip left right) in
    (IfOk-at_ok _ c.in_ok-extend.was (items_from_extend _ c.extend.ensures.ran (YieldsList-from_map _ (λ (p : ℕ × ℕ). bit_and p.0 p.1) pairs c.map.ensures.closure (λ x r q k. search rules)))).0
