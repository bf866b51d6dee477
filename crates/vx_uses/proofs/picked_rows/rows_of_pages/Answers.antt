use Rattle.std.proofs.Common.{subst}
use Rattle.vx_tree.specs.Meaning.{tree_len}
use Rattle.vx_tree.specs.Operations.{IsSelected}
use Rattle.vx_tree.proofs.Runs.{rows_of_runs}
use Rattle.vx_uses.proofs.PickedRows.{runs_within}
use Rattle.vx_uses.proofs.picked_rows.rows_of_pages.Goals as goal

pub returns-clause-rows : goal.returns-clause-rows
returns-clause-rows c =
    let t = c.args.column.now in
    let r = c.in_ok-filter.field-0 in
    let pages = c.args.pages.items in
    rows_of_runs t r pages (runs_within (tree_len t) pages c.requires) (subst (λ ps. IsSelected t ps r) c.from_runs-mask.ensures.trues c.in_ok-filter.ensures.by_row)
