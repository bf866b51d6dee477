use Rattle.std.proofs.Common.{map, arith}
use Rattle.std.specs.List.{sum_by}
use Rattle.std.proofs.lemmas.List.{at_drop_all}
use Rattle.vx_base.proofs.Joined.{counted}
use Rattle.vx_tree.specs.Extents.{element_count}
use Rattle.vx_canonical.specs.Counted.{piece_extent}
use Rattle.vx_canonical.proofs.Counted.{sum_step, within_count}
use Rattle.vx_canonical.proofs.extents.element_count.Goals as goal

pub loop-piece-preserved : goal.loop-piece-preserved
loop-piece-preserved c =
    let step = sum_step element_count piece_extent c.args.pieces.now c.loop-piece.piece-index c.piece-item.result c.loop-piece-test.true c.piece-item.is in
    let told = c.in_ok-count.ensures in
    (omega (arith, step, c.loop-piece.invariant.0, told.count), omega (arith, told.count, within_count _ told.tests))

pub returns-clause-tests : goal.returns-clause-tests
returns-clause-tests c =
    let none = at_drop_all (λ ps. sum_by element_count (map piece_extent ps)) c.args.pieces.now c.loop-piece.piece-index c.loop-piece-test.false in
    counted (sum_by element_count (map piece_extent c.args.pieces.now)) (omega (arith, none, c.loop-piece.invariant.0, c.loop-piece.invariant.1))
