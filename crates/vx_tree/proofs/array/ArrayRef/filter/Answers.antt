use Rattle.std.proofs.Common.{◌≡◌, None, length, arith}
use Rattle.std.proofs.lemmas.Grind.{common_steps}
use Rattle.vx_base.proofs.Refused.{Gives-IfOk}
use Rattle.vx_tree.specs.Faults.{length_fault}
use Rattle.vx_tree.specs.Meaning.{tree_len}
use Rattle.vx_tree.proofs.Filtered.{rows_filtered}
use Rattle.vx_tree.proofs.Refusing.{Gives-Refuses}
use Rattle.vx_tree.proofs.array.ArrayRef.filter.Goals as goal

pub returns-clause-rows : goal.returns-clause-rows
returns-clause-rows c = rows_filtered c.args.self.now c.in_ok-filtered.filtered c.args.mask.now (omega arith) c.in_ok-filtered.ensures

pub returns-then-matches-clause-rows : goal.returns-then-matches-clause-rows
returns-then-matches-clause-rows c =
    let mask = c.args.mask.now in
    let long : length mask ≡ tree_len c.args.self.now = omega arith in
    Gives-IfOk c.filter_constant.result _ _ (λ a h. rows_filtered c.args.self.now a mask long h) c.filter_constant.ensures

pub returns-clause-kind : goal.returns-clause-kind
returns-clause-kind c = c.in_ok-filtered.ensures.kind

pub returns-clause-shape : goal.returns-clause-shape
returns-clause-shape c = c.in_ok-filtered.ensures.shape

pub returns-clause-by_row : goal.returns-clause-by_row
returns-clause-by_row c = c.in_ok-filtered.ensures

pub returns-then-matches-clause-kind : goal.returns-then-matches-clause-kind
returns-then-matches-clause-kind c = Gives-IfOk c.filter_constant.result _ _ (λ a h. h.kind) c.filter_constant.ensures

pub returns-then-matches-clause-shape : goal.returns-then-matches-clause-shape
returns-then-matches-clause-shape c = Gives-IfOk c.filter_constant.result _ _ (λ a h. h.shape) c.filter_constant.ensures

pub returns-then-matches-clause-by_row : goal.returns-then-matches-clause-by_row
returns-then-matches-clause-by_row c = Gives-IfOk c.filter_constant.result _ _ (λ a h. h) c.filter_constant.ensures

pub returns-then-matches-clause-refuses : goal.returns-then-matches-clause-refuses
returns-then-matches-clause-refuses c =
    let none : length_fault (tree_len c.args.self.now) (length c.args.mask.now) ≡ None = grind (arith, common_steps) in
    Gives-Refuses c.filter_constant.result _ _ none c.filter_constant.ensures
