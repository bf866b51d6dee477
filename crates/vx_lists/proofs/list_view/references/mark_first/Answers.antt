use Rattle.std.proofs.Common.{◌≡◌, ◌+◌, ◌≤◌, ◌++◌, [], ◌∷◌, sym, subst, ◌∙◌, ap, arith}
use Rattle.vx_base.specs.Rows.{count_in}
use Rattle.vx_tree.specs.Meaning.{tree_len, row_at}
use Rattle.vx_lists.specs.ListViews.References.{AreMarked}
use Rattle.vx_lists.proofs.ListViews.RepeatedLists.{run_marked, none_marked}
use Rattle.vx_lists.proofs.list_view.references.mark_first.Goals as goal
use Rattle.vx_lists.proofs.list_view.references.mark_first.Goals.{then-start-end+in_ok-push, else-start-end}

pub returns : goal.returns
returns c =
    let o = c.args.offsets.now in
    let s = c.args.sizes.now in
    let start = c.count_at-start.result in
    let end = start + c.count_at.result in
    let last : end ≡ start + count_in (row_at s 0) = ap (λ n. start + n) c.count_at.ensures.value in
    let within : end ≤ c.args.count = omega (arith, c.count_at-start.ensures.value, c.count_at.ensures.value, c.requires.within) in
    subst (AreMarked (λ i. count_in (row_at o i)) (λ i. count_in (row_at o i) + count_in (row_at s i)) (tree_len o) c.args.count) (sym c.from_runs.ensures.marked)
    (elim c.if-start-end.branch [
      | then-start-end+in_ok-push w ↦
          run_marked o s start end c.args.count c.requires.repeated c.count_at-start.ensures.value last within c.if-start-end.runs.items
          (ap (λ r. r.items) w.runs-is ∙ w.in_ok-push.ensures.items ∙ ap (λ rs. rs ++ (start, end) ∷ []) c.new-runs.ensures.items)
      | else-start-end w ↦
          none_marked o s start end c.args.count c.requires.repeated c.count_at-start.ensures.value last within c.if-start-end.runs.items
          (ap (λ r. r.items) w.runs-is ∙ c.new-runs.ensures.items) (omega (arith, w.if-start-end.false))
    ])
