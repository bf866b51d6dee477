use Rattle.std.proofs.Common.{◌≡◌, None, length, arith}
use Rattle.std.proofs.lemmas.Grind.{common_steps}
use Rattle.vx_base.proofs.Refused.{Gives-IfOk}
use Rattle.vx_tree.specs.Faults.{take_overflow}
use Rattle.vx_tree.proofs.Refusing.{Gives-Refuses}
use Rattle.vx_tree.proofs.array.ArrayRef.select.Goals as goal

pub returns-clause-selected : goal.returns-clause-selected
returns-clause-selected c = Gives-IfOk c.select_within.result _ _ (λ a h. h) c.select_within.ensures

pub returns-clause-refuses : goal.returns-clause-refuses
returns-clause-refuses c =
    let none : take_overflow c.args.self.now (length c.args.selection.now) ≡ None = grind (arith, common_steps) in
    Gives-Refuses c.select_within.result _ _ none c.select_within.ensures
