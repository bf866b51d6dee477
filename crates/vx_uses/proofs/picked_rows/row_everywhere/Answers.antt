use Rattle.std.proofs.Common.{replicate, ◌∙◌, ap}
use Rattle.vx_tree.specs.Meaning.{rows}
use Rattle.vx_uses.proofs.picked_rows.row_everywhere.Goals as goal

pub returns-clause-rows : goal.returns-clause-rows
returns-clause-rows c =
    ap rows c.in_ok-constant.ensures ∙ c.rows_of_a_constant.ensures c.in_ok-row.row.kind c.in_ok-row.row.row c.args.len
    ∙ ap (λ s. replicate c.args.len s.row) c.in_ok-row.ensures.row
