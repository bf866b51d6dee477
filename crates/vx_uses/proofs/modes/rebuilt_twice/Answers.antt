use Rattle.std.proofs.Common.{◌∙◌, inl}
use Rattle.std.proofs.lemmas.Result.{err_from_is_err_and}
use Rattle.vx_lists.specs.ListViews.Faults.{rebuild_fault}
use Rattle.vx_uses.proofs.TwoFaults.{only_memory}
use Rattle.vx_uses.proofs.modes.rebuilt_twice.Goals as goal

pub returns-clause-alike : goal.returns-clause-alike
returns-clause-alike c =
    c.rebuilt_twice_is_rebuilt_once.ensures.alike c.args.mode c.args.lists.now c.in_ok-once.once c.in_ok-twice.twice c.in_ok-once.ensures.rebuilt c.in_ok-twice.ensures.rebuilt

pub returns-clause-rows : goal.returns-clause-rows
returns-clause-rows c = (c.in_ok-once.ensures.rows, c.in_ok-twice.ensures.rows ∙ c.in_ok-once.ensures.rows)

pub returns-in_err-twice-clause-refuses : goal.returns-in_err-twice-clause-refuses
returns-in_err-twice-clause-refuses c =
    let once = c.in_ok-once.once in
    let none = c.rebuilt_lists_are_not_refused.ensures c.args.mode c.args.lists.now once c.in_ok-once.ensures.rebuilt in
    let p = err_from_is_err_and c.from_residual-in_err-twice.result c.from_residual-in_err-twice.ensures.1 in
    rw (p.1, p.2) (inl (only_memory (rebuild_fault c.args.mode once) c.in_err-twice.field-0.0 none c.in_err-twice.ensures.refuses))
