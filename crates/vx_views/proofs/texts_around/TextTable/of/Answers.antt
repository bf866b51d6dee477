use Rattle.std.proofs.Common.{◌≡◌, ◌+◌, ◌/◌, length, arith, refl, subst}
use Rattle.std.proofs.lemmas.List.{take_rest}
use Rattle.vx_views.specs.TextsAround.{IsLongestFront}
use Rattle.vx_views.proofs.TextsAround.{table_more}
use Rattle.vx_views.proofs.texts_around.TextTable.of.Goals as goal

pub loop-start-preserved : goal.loop-start-preserved
loop-start-preserved c =
    let table = c.loop-start.ranges.items in
    let more = c.resize.new.self.items in
    let long : length more ≡ (c.loop-start.start + c.longest_front.result) / 64 + 1 = omega (arith, c.resize.new.self.ok, c.in_ok-resize.ensures.len) in
    let front = subst (λ bs. IsLongestFront bs c.longest_front.result) (take_rest c.args.bytes.now c.loop-start.start) c.longest_front.ensures in
    table_more c.args.bytes.now table more c.loop-start.start c.longest_front.result c.loop-start-test.true front c.loop-start.invariant long
    (λ k inside was. c.in_ok-resize.ensures.by_index.0 k (0, 0) (omega (arith, inside, long)) (omega (arith, was, c.loop-start.ranges.ok)))
    (λ k inside past. c.in_ok-resize.ensures.by_index.1 k (0, 0) refl (omega (arith, past, c.loop-start.ranges.ok)) (omega (arith, inside, long)))
