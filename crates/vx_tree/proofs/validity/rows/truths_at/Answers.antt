use Rattle.vx_tree.specs.Parts.{valid_of}
use Rattle.vx_base.proofs.Refused.{Gives-weaker}
use Rattle.vx_tree.specs.Operations.{IsSelected}
use Rattle.vx_tree.proofs.Validities.{truths_taken}
use Rattle.vx_tree.proofs.validity.rows.truths_at.Goals as goal

pub returns : goal.returns
returns c =
    let t = c.args.array.now in
    let ps = c.args.positions.now in
    let selected : IsSelected t ps c.in_ok-selected.selected = rw c.selection.ensures at c.in_ok-selected.ensures in
    Gives-weaker c.nulled.result _ _
    (λ w n. truths_taken t c.args.indices.now c.in_ok-selected.selected (valid_of c.args.nulls.now) (valid_of w) ps c.requires.nulls c.requires.positions selected (rw c.len-len.ensures at n))
    c.nulled.ensures
