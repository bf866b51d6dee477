use Rattle.std.proofs.Common.{◌∙◌, ap}
use Rattle.vx_tree.specs.Meaning.{rows}
use Rattle.vx_uses.proofs.kernel.repeated_row.Goals as goal

pub returns-clause-rows : goal.returns-clause-rows
returns-clause-rows c = ap rows c.in_ok-constant.ensures ∙ c.rows_of_a_constant.ensures c.args.row.kind c.args.row.row c.args.len
