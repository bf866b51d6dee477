use Rattle.std.proofs.Common.{◌≡◌, ◌∙◌, ◌∷◌, List, reverse, ap, sym, subst}
use Rattle.vx_c.specs.declared.parts.Part.{Part}
use Rattle.vx_c.specs.declared.parts.Part.TheVariants.{Rows}
use Rattle.vx_c.specs.declared.table.NodeKind.TheVariants.{Dictionary}
use Rattle.vx_c.specs.Parts.{Makes}
use Rattle.vx_c.proofs.PartsMade.{dictionary_made}
use Rattle.vx_c.proofs.passing.dictionary_of.Goals as goal

pub returns : goal.returns
returns c =
    let n = c.args.node.now in
    let pc = c.in_ok-codes.codes in
    let pv = c.in_ok-values.values in
    let left = reverse c.pop-2.new.parts.items in
    let old : reverse c.args.parts.now.items ≡ pc ∷ pv ∷ left = c.in_ok-codes.ensures ∙ ap (λ (rest : List Part). pc ∷ rest) c.in_ok-values.ensures in
    subst (λ before. Makes Dictionary n c.args.null before (Rows n.length) left) (sym old)
    (dictionary_made n pc pv c.len-2.result (λ t d. c.len.ensures t d ∙ c.if-len-node.false) c.len-2.ensures (c.are_codes.ensures c.if-not-are_codes.false) c.args.null c.if-null.false left)
