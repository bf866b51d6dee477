use Rattle.std.proofs.Common.{◌≡◌, ◌∙◌, sym, ap}
use Rattle.vx_base.specs.Rows.{is_present}
use Rattle.vx_tree.specs.Meaning.{row_at}
use Rattle.vx_tree.specs.Parts.{tree_of}
use Rattle.vx_tree.specs.Tree.{Tree, constant}
use Rattle.vx_pack.proofs.RowForms.{value_presence}
use Rattle.vx_pack.proofs.presence.presence_of.Goals as goal

pub returns-in-Constant : goal.returns-in-Constant
returns-in-Constant c = λ i.
    let s = c.in-Constant.scalar in
    let parts : c.args.array.now ≡ constant s.kind s.row c.in-Constant.len =
    sym c.layout.ensures.parts ∙ ap tree_of c.in-Constant.is in
    ap (λ (t : Tree). is_present (row_at t i)) parts ∙ ap is_present (sym c.value.ensures)
    ∙ sym (value_presence s.kind c.value.result.now) ∙ sym c.is_some.ensures
