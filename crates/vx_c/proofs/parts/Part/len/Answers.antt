use Rattle.std.proofs.Common.{subst, arith}
use Rattle.vx_base.specs.Integers.{numbers}
use Rattle.vx_views.specs.BuildFaults.{differences}
use Rattle.vx_c.specs.Parts.{Describes, HasNumbers}
use Rattle.vx_c.proofs.PartLists.{sizes_len}
use Rattle.vx_c.proofs.parts.Part.len.Goals as goal

pub returns-in-Sizes : goal.returns-in-Sizes
returns-in-Sizes c = λ t d.
    let zs = numbers c.in-Sizes.ptype c.in-Sizes.bytes.now in
    let has : HasNumbers (differences zs) t = subst (λ p. Describes p t) c.in-Sizes.is d in
    omega (arith, sizes_len zs t has, c.saturating_sub.ensures, c.number_count.ensures)
