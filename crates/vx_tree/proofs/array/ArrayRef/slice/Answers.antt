use Rattle.std.proofs.Common.{◌≡◌, None, arith}
use Rattle.std.proofs.lemmas.Grind.{common_steps}
use Rattle.vx_base.proofs.Refused.{Gives-IfOk}
use Rattle.vx_tree.specs.Faults.{slice_fault}
use Rattle.vx_tree.specs.Meaning.{tree_len}
use Rattle.vx_tree.proofs.Refusing.{Gives-Refuses}
use Rattle.vx_tree.proofs.Sliced.{rows_sliced}
use Rattle.vx_tree.proofs.array.ArrayRef.slice.Goals as goal

pub returns-clause-rows : goal.returns-clause-rows
returns-clause-rows c =
    Gives-IfOk c.slice_within.result _ _ (λ a h. rows_sliced c.args.self.now c.args.range.start c.args.range.end a (omega arith) (omega arith) h) c.slice_within.ensures

pub returns-clause-kind : goal.returns-clause-kind
returns-clause-kind c = Gives-IfOk c.slice_within.result _ _ (λ a h. h.kind) c.slice_within.ensures

pub returns-clause-shape : goal.returns-clause-shape
returns-clause-shape c = Gives-IfOk c.slice_within.result _ _ (λ a h. h.shape) c.slice_within.ensures

pub returns-clause-by_row : goal.returns-clause-by_row
returns-clause-by_row c = Gives-IfOk c.slice_within.result _ _ (λ a h. h) c.slice_within.ensures

pub returns-clause-refuses : goal.returns-clause-refuses
returns-clause-refuses c =
    let none : slice_fault (tree_len c.args.self.now) c.args.range.start c.args.range.end ≡ None = grind (arith, common_steps) in
    Gives-Refuses c.slice_within.result _ _ none c.slice_within.ensures
