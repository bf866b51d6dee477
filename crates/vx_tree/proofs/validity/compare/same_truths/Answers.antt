use Rattle.std.specs.Cmp.{booleans_Decides}
use Rattle.std.proofs.lemmas.Slice.Eq.{slice_eq-Decides}
use Rattle.vx_tree.proofs.validity.compare.same_truths.Goals as goal

pub returns : goal.returns
returns c =
    let d = slice_eq-Decides booleans_Decides c.in_ok-mine.mine.bits c.in-Ok.theirs.bits c.eq-same.result c.eq-same.ensures in
    rw (c.in_ok-mine.ensures.bits, c.in-Ok.ensures.bits) at d
