use Rattle.std.proofs.Common.{sym, ◌∙◌}
use Rattle.vx_tree.specs.Meaning.{rows}
use Rattle.vx_uses.proofs.PickedRows.{rows_around}
use Rattle.vx_uses.proofs.picked_rows.without_rows.Goals as goal

pub returns-clause-rows : goal.returns-clause-rows
returns-clause-rows c =
    let t = c.args.column.now in
    c.in_ok-take_runs.ensures.rows ∙ rows_around (rows t) c.len.result c.args.gap.start c.args.gap.end (c.rows_stand_at_their_places.ensures.len t ∙ sym c.len.ensures)
