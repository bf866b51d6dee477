use Rattle.std.proofs.Common.{◌≡◌, ◌∙◌, ◌∷◌, List, reverse, ap, sym, subst}
use Rattle.vx_c.specs.declared.parts.Part.{Part}
use Rattle.vx_c.specs.declared.parts.Part.TheVariants.{Rows}
use Rattle.vx_c.specs.declared.table.NodeKind.TheVariants.{ListView}
use Rattle.vx_c.specs.Parts.{Makes}
use Rattle.vx_c.proofs.PartsMade.{lists_made}
use Rattle.vx_c.proofs.passing.lists_of.Goals as goal

pub returns : goal.returns
returns c = λ null.
    let n = c.args.node.now in
    let pe = c.in_ok-elements.elements in
    let po = c.in_ok-offsets.offsets in
    let ps = c.in_ok-sizes.sizes in
    let left = reverse c.pop-3.new.parts.items in
    let old : reverse c.args.parts.now.items ≡ pe ∷ po ∷ ps ∷ left =
    c.in_ok-elements.ensures ∙ ap (λ (rest : List Part). pe ∷ rest) (c.in_ok-offsets.ensures ∙ ap (λ (rest : List Part). po ∷ rest) c.in_ok-sizes.ensures) in
    subst (λ before. Makes ListView n null before (Rows n.length) left) (sym old)
    (lists_made n pe po ps c.len.result c.len.ensures (c.are_lists.ensures c.if-not-are_lists.false) null left)
