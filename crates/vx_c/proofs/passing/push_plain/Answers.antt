use Rattle.std.proofs.Common.{◌≡◌, ◌∙◌, reverse, subst, sym}
use Rattle.std.specs.Prelude.{Some}
use Rattle.vx_c.specs.NodeKinds.{kind_numbered}
use Rattle.vx_c.specs.Parts.{IsDescribed}
use Rattle.vx_c.specs.Tables.{node_made}
use Rattle.vx_c.proofs.NodesPassed.{node_passed}
use Rattle.vx_c.proofs.passing.push_plain.Goals as goal

pub returns-in-Some-part_of : goal.returns-in-Some-part_of
returns-in-Some-part_of c = λ ok ts described.
    let n = c.args.node.now in
    let known : kind_numbered n.kind ≡ Some c.in-Some.kind = sym c.numbered.ensures ∙ c.in-Some.is in
    subst (λ ps. IsDescribed ps (node_made n ts)) (sym (c.push.ensures ok))
    (node_passed n c.in-Some.kind c.in-Some-take_validity.null (reverse c.take_validity.new.parts.items) (reverse c.part_of.new.parts.items) c.in-Some-part_of.part ts known
    (c.in-Some-take_validity.ensures ts described) c.in-Some-part_of.ensures)
