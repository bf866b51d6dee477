use Rattle.vx_canonical.proofs.Gathered.{AreGathered-next}
use Rattle.vx_canonical.proofs.canonical_nested.gather_values.Goals as goal

pub loop-value-preserved : goal.loop-value-preserved
loop-value-preserved c =
    AreGathered-next c.args.values.now c.loop-value.value-index c.value-item.result c.loop-value.gathered.items c.gather_value.new.gathered.items c.loop-value.places.items c.push.new.self.items c.in_ok-place.place
    c.loop-value-test.true c.value-item.is c.loop-value.invariant c.in_ok-place.ensures.added c.in_ok-place.ensures.within c.in_ok-place.ensures.place c.in_ok-push.ensures.items
