use Rattle.std.proofs.Common.{◌≡◌, subst}
use Rattle.vx_c.specs.Parts.{Describes, HasBytes}
use Rattle.vx_c.proofs.passing.are_views.Goals as goal

pub returns : goal.returns
returns g c = λ told o s offsets sizes.
    let here = c.in-Numbers in
    let t = g.P.NativePType.PTYPE in
    let same : here.ptype ≡ t = rw c.PTYPE.ensures at (c.is_type.ensures c.if-not-is_type.false) in
    c.are_plain_lists.ensures told o s offsets
    (subst (λ b. HasBytes t here.sizes.now b s) c.if-null.false (subst (λ p. HasBytes p here.sizes.now here.null s) same (subst (λ p. Describes p s) here.is sizes)))
