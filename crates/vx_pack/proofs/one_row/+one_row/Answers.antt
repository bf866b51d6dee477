use Rattle.std.proofs.Common.{◌≡◌, ◌≤◌, ◌+◌, sym, ◌∙◌, ap, subst, arith, below_more}
use Rattle.std.proofs.lemmas.List.{get_or_default}
use Rattle.vx_tree.specs.Meaning.{row_at, trees_from}
use Rattle.vx_tree.specs.Parts.{tree_of, valid_of}
use Rattle.vx_tree.specs.Tree.{Tree, depth, trees_depth}
use Rattle.vx_tree.proofs.Columns.{depth-at}
use Rattle.vx_pack.proofs.OneRow.{one_fixed_list, one_list_view, one_record}
use Rattle.vx_pack.proofs.one_row.+one_row.Goals as goal
use Rattle.vx_pack.proofs.one_row.+one_row.Goals.{has_one_row-then-is_full-2, has_one_row-else-is_full-2}

pub have_one_row-loop-column-preserved : goal.have_one_row-loop-column-preserved
have_one_row-loop-column-preserved t c =
    below_more _ _ c.loop-column.invariant
    (λ d i. subst (λ (x : Tree). row_at x i ≡ row_at x 0)
    (c.column-item.is ∙ get_or_default c.args.columns.now c.loop-column.column-index c.column-item.result d c.loop-column-test.true)
    (c.has_one_row.ensures c.if-not-has_one_row.false i))

pub have_one_row-returns : goal.have_one_row-returns
have_one_row-returns t c = λ yes. one_record c.args.columns.now (λ j l. c.loop-column.invariant j (omega (arith, c.loop-column-test.false)))

pub has_one_row-returns-then-is_full : goal.has_one_row-returns-then-is_full
has_one_row-returns-then-is_full t c = λ yes.
    one_fixed_list c.args.array.now c.in-FixedSizeList.elements c.in-FixedSizeList.size (valid_of c.in-FixedSizeList.validity) c.in-FixedSizeList.len
    (sym c.layout.ensures.parts ∙ ap tree_of c.in-FixedSizeList.is) (c.is_full.ensures c.if-is_full.true) (c.has_one_row-then-is_full.ensures yes)

pub has_one_row-returns-then-has_one_row : goal.has_one_row-returns-then-has_one_row
has_one_row-returns-then-has_one_row t c = λ yes.
    elim c.if-is_full-2.branch [
      | has_one_row-then-is_full-2 w ↦
          one_list_view c.args.array.now c.in-ListView.elements c.in-ListView.offsets c.in-ListView.sizes (valid_of c.in-ListView.validity) c.in-ListView.flag
          (sym c.layout.ensures.parts ∙ ap tree_of c.in-ListView.is) (c.is_full-in-ListView.ensures w.if-is_full-2.true)
          (w.has_one_row-then-is_full-2.ensures (sym w.value-is ∙ c.if-has_one_row.true)) (c.has_one_row-then-has_one_row.ensures yes)
      | has_one_row-else-is_full-2 w ↦ λ i. cc
    ]

pub have_one_row-has_one_row-requires : goal.have_one_row-has_one_row-requires
have_one_row-has_one_row-requires t c =
    let P : Tree → Type 0 = λ x. depth x + 1 ≤ trees_depth (trees_from c.args.columns.now) in
    let below = subst P (sym c.column-item.is) (depth-at c.args.columns.now c.loop-column.column-index c.column-item.result c.loop-column-test.true) in
    omega (arith, below, c.decreases)
