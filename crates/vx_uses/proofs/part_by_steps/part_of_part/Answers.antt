use Rattle.std.proofs.Common.{◌++◌, ◌∷◌, [], ◌∙◌, ap}
use Rattle.vx_tree.specs.Meaning.{rows}
use Rattle.vx_uses.proofs.SliceSteps.{part_of_part, inner_within, accepted, cuts-refused}
use Rattle.vx_uses.proofs.part_by_steps.part_of_part.Goals as goal

pub returns-in-Ok-clause-rows : goal.returns-in-Ok-clause-rows
returns-in-Ok-clause-rows c =
    let t = c.args.column in
    let outer = c.args.outer in
    let inner = c.args.inner in
    let given = c.in_ok-push.ensures.items ∙ ap (λ ts. ts ++ t ∷ []) c.in_ok-columns.ensures.items in
    let parts = part_of_part t outer.start outer.end inner.start inner.end c.push.new.self.items c.in-Ok.results.items c.swap_remove.result given
    c.in-Ok.ensures.ok c.swap_remove.ensures.value in
    let within = inner_within t c.swap_remove.result outer.start outer.end inner.start inner.end parts in
    parts.same ∙ c.parts_of_parts_of_rows.ensures (rows t) outer.start outer.end inner.start inner.end within.0 within.1

pub returns-in-Ok-clause-refuses : goal.returns-in-Ok-clause-refuses
returns-in-Ok-clause-refuses c =
    let t = c.args.column in
    let outer = c.args.outer in
    let inner = c.args.inner in
    let given = c.in_ok-push.ensures.items ∙ ap (λ ts. ts ++ t ∷ []) c.in_ok-columns.ensures.items in
    accepted t c.swap_remove.result outer.start outer.end inner.start inner.end (part_of_part t outer.start outer.end inner.start inner.end
    c.push.new.self.items c.in-Ok.results.items c.swap_remove.result given c.in-Ok.ensures.ok c.swap_remove.ensures.value)

pub returns-clause-refuses : goal.returns-clause-refuses
returns-clause-refuses c =
    let t = c.args.column in
    let outer = c.args.outer in
    let inner = c.args.inner in
    let given = c.in_ok-push.ensures.items ∙ ap (λ ts. ts ++ t ∷ []) c.in_ok-columns.ensures.items in
    cuts-refused t outer.start outer.end inner.start inner.end c.in-Err.fault.step c.push.new.self.items c.in-Err.fault.arrays.items c.in-Err.fault.error given
    c.in-Err.ensures.before c.in-Err.ensures.stops
