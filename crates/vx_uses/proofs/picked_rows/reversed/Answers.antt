use Rattle.std.proofs.Common.{◌≡◌, subst, arith}
use Rattle.vx_tree.specs.Meaning.{tree_len}
use Rattle.vx_tree.specs.Operations.{IsSelected}
use Rattle.vx_uses.proofs.PickedRows.{AreLastFirst, rows_reversed}
use Rattle.vx_uses.proofs.picked_rows.reversed.Goals as goal

pub returns-clause-rows : goal.returns-clause-rows
returns-clause-rows c =
    let t = c.args.column.now in
    let r = c.in_ok-select.field-0 in
    let places = c.rows_stand_at_their_places.ensures in
    let all : c.loop-i.i ≡ tree_len t = omega arith in
    rows_reversed places.len places.each t r c.loop-i.order.items (subst (λ n. AreLastFirst (tree_len t) n c.loop-i.order.items) all c.loop-i.invariant) (subst (λ ps. IsSelected t ps r) (cc) c.in_ok-select.ensures.selected)
