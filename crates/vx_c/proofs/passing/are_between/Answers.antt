use Rattle.std.proofs.Common.{◌≡◌, subst}
use Rattle.vx_base.specs.Integers.{numbers}
use Rattle.vx_views.specs.BuildFaults.{differences}
use Rattle.vx_c.specs.Parts.{Describes, HasNumbers}
use Rattle.vx_c.proofs.passing.are_between.Goals as goal

pub returns : goal.returns
returns g c = λ told o s offsets sizes.
    let here = c.in-Sizes in
    let t = g.P.NativePType.PTYPE in
    let same : here.ptype ≡ t = rw c.PTYPE.ensures at (c.is_type.ensures c.if-not-is_type.false) in
    c.are_told_lists.ensures told o s offsets
    (subst (λ p. HasNumbers (differences (numbers p here.ends.now)) s) same (subst (λ p. Describes p s) here.is sizes))
