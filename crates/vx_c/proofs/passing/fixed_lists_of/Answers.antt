use Rattle.std.proofs.Common.{reverse, sym, subst}
use Rattle.vx_c.specs.declared.parts.Part.TheVariants.{Rows}
use Rattle.vx_c.specs.declared.table.NodeKind.TheVariants.{FixedSizeList}
use Rattle.vx_c.specs.Parts.{Makes}
use Rattle.vx_c.proofs.PartsMade.{fixed_made}
use Rattle.vx_c.proofs.passing.fixed_lists_of.Goals as goal

pub returns : goal.returns
returns c = λ null.
    let n = c.args.node.now in
    let left = reverse c.pop.new.parts.items in
    subst (λ before. Makes FixedSizeList n null before (Rows n.length) left) (sym c.in_ok-elements.ensures)
    (fixed_made n c.in_ok-elements.elements c.len.result c.len.ensures (c.are_in_all.ensures c.if-not-are_in_all.false) null left)
