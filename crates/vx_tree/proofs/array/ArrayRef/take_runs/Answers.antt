use Rattle.std.proofs.Common.{sym, ◌∙◌, subst}
use Rattle.vx_base.specs.Refusals.{Refuses}
use Rattle.vx_tree.specs.Meaning.{tree_len}
use Rattle.vx_tree.specs.Operations.{IsSelected, AreBelow}
use Rattle.vx_tree.proofs.Refusing.{IfOk-weaker}
use Rattle.vx_tree.proofs.Runs.{length_of_runs, below_of_runs, rows_of_runs, runs_fault-counted}
use Rattle.vx_tree.proofs.array.ArrayRef.take_runs.Goals as goal

pub of_runs-selection-requires : goal.of_runs-selection-requires
of_runs-selection-requires c = c.in_ok-len.ensures.len ∙ sym (length_of_runs c.args.runs.now)

pub select-requires : goal.select-requires
select-requires c = subst (AreBelow (tree_len c.args.self.now)) (sym c.of_runs-selection.ensures) (below_of_runs (tree_len c.args.self.now) c.args.runs.now c.requires)

pub returns-clause-rows : goal.returns-clause-rows
returns-clause-rows c =
    let t = c.args.self.now in
    IfOk-weaker c.select.result _ _ (λ a h. rows_of_runs t a c.args.runs.now c.requires (subst (λ ps. IsSelected t ps a) c.of_runs-selection.ensures h)) c.select.ensures.selected

pub returns-clause-kind : goal.returns-clause-kind
returns-clause-kind c = IfOk-weaker c.select.result _ _ (λ a h. h.kind) c.select.ensures.selected

pub returns-clause-by_row : goal.returns-clause-by_row
returns-clause-by_row c = IfOk-weaker c.select.result _ _ (λ a h. subst (λ ps. IsSelected c.args.self.now ps a) c.of_runs-selection.ensures h) c.select.ensures.selected

pub returns-clause-refuses : goal.returns-clause-refuses
returns-clause-refuses c =
    subst (Refuses c.select.result) (runs_fault-counted c.args.self.now c.args.runs.now c.of_runs-selection.result c.of_runs-selection.ensures c.in_ok-len.ensures.tests) c.select.ensures.refuses
