use Rattle.std.proofs.Common.{◌∙◌, ap, ◌≡◌, ◌-◌, arith}
use Rattle.std.specs.List.{slice_range}
use Rattle.vx_tree.specs.Meaning.{tree_len, rows}
use Rattle.vx_uses.proofs.RowLists.{slice_within}
use Rattle.vx_uses.proofs.kernel.inner_page.Goals as goal

pub returns-clause-rows : goal.returns-clause-rows
returns-clause-rows c =
    let t = c.args.column.now in
    let len : tree_len c.in_ok-page.page ≡ c.args.outer.end - c.args.outer.start = c.in_ok-page.ensures.by_row.len in
    let inner = slice_within (tree_len c.in_ok-page.page) c.args.inner.start c.args.inner.end c.in_ok-slice.ensures.refuses in
    c.in_ok-slice.ensures.rows ∙ ap (λ rs. slice_range rs c.args.inner.start c.args.inner.end) c.in_ok-page.ensures.rows
    ∙ c.parts_of_parts_of_rows.ensures (rows t) c.args.outer.start c.args.outer.end c.args.inner.start c.args.inner.end inner.0 (omega (arith, inner.1, len))
