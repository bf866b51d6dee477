use Rattle.std.proofs.Common.{◌≡◌, sym, ◌∙◌, ap, subst, rules, arith}
use Rattle.std.specs.Prelude.{pos, unwrap_or}
use Rattle.vx_lists.specs.ListViews.Faults.{whole_at}
use Rattle.vx_uses.specs.FaultyRows.{EndsAt}
use Rattle.vx_uses.proofs.FaultyLists.{ends_at, first_faulty_list, some_list_ends}
use Rattle.vx_uses.proofs.faulty_rows.row_of_refused_list.Goals as goal

pub returns-then-offset-size-clause-first : goal.returns-then-offset-size-clause-first
returns-then-offset-size-clause-first c =
    let o = c.args.offsets.now in
    let s = c.args.sizes.now in
    let row = c.loop-row.row in
    let offset : whole_at o row ≡ c.unwrap-offset.result = ap (λ n. unwrap_or n (pos 0)) (sym c.int_at.ensures.value ∙ c.unwrap-offset.ensures) in
    let size : whole_at s row ≡ c.unwrap-size.result = ap (λ n. unwrap_or n (pos 0)) (sym c.int_at-in-loop-row.ensures.value ∙ c.unwrap-size.ensures) in
    let here : EndsAt c.unwrap-offset.result c.unwrap-size.result c.args.end = ends_at c.unwrap-offset.result c.unwrap-size.result c.args.end (search rules) (search rules) (search rules) in
    (search rules, subst (λ z. EndsAt z (whole_at s row) c.args.end) (sym offset) (subst (λ z. EndsAt c.unwrap-offset.result z c.args.end) (sym size) here), c.loop-row.invariant)

pub returns-then-offset-size-clause-refused : goal.returns-then-offset-size-clause-refused
returns-then-offset-size-clause-refused c = λ count refused.
    let first = returns-then-offset-size-clause-first c in
    first_faulty_list c.first_fault_is_least.ensures c.args.offsets.now c.args.sizes.now count c.args.end refused c.loop-row.row first.0 first.1 first.2

pub returns-clause-first : goal.returns-clause-first
returns-clause-first c = λ i inside. c.loop-row.invariant i (omega arith)

pub returns-clause-refused : goal.returns-clause-refused
returns-clause-refused c = λ count refused.
    absurd (some_list_ends c.first_fault_is_least.ensures c.args.offsets.now c.args.sizes.now count c.args.end refused (λ i inside. c.loop-row.invariant i (omega arith)))
