use Rattle.std.proofs.Common.{subst}
use Rattle.vx_c.specs.Parts.{Describes, HasBytes}
use Rattle.vx_c.proofs.passing.are_lists.Goals as goal

pub returns-else-null : goal.returns-else-null
returns-else-null c = λ told o s offsets sizes.
    let here = c.in-Numbers in
    c.are_by_type.ensures told o s (subst (λ b. HasBytes here.ptype here.bytes.now b o) c.if-null.false (subst (λ p. Describes p o) here.is offsets)) sizes

pub returns-in-Starts : goal.returns-in-Starts
returns-in-Starts c = λ told o s offsets sizes. c.are_told_by_type.ensures told o s (subst (λ p. Describes p o) c.in-Starts.is offsets) sizes
