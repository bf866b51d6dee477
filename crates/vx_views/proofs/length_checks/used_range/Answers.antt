use Rattle.std.proofs.Common.{◌≡◌, ◌<◌, ◌-◌, length, map, unsigned_abs, refl, ap, sym, ◌∙◌, subst, IsTrue, arith, rules}
use Rattle.std.specs.Int.{is_negative}
use Rattle.std.proofs.lemmas.List.{length-map}
use Rattle.vx_views.specs.BuildFaults.{first_offset, last_offset}
use Rattle.vx_base.specs.Integers.{number_nth}
use Rattle.vx_views.proofs.NoFaults.{number_of_item}
use Rattle.vx_views.proofs.OffsetFacts.{no_used_range, refuses, not_natural}
use Rattle.vx_views.proofs.length_checks.used_range.Goals as goal

pub returns-in_err-first-clause-none : goal.returns-in_err-first-clause-none
returns-in_err-first-clause-none g c =
    let offsets = map g.P.Number.value c.args.offsets.now in
    let some : 0 < length c.args.offsets.now = search rules in
    let is : number_nth offsets 0 ≡ g.P.Number.value c.index-offsets-0.result = number_of_item g.P.Number.value c.args.offsets.now 0 c.index-offsets-0.result (g.P.Number.value c.index-offsets-0.result) some c.index-offsets-0.is refl in
    refuses c.args.heap_len offsets c.from_residual.result
    (λ range. not_natural offsets 0 (first_offset offsets) range.first_is (subst (λ z. IsTrue (is_negative z)) (sym is) c.in_err-first.ensures.negative))

pub returns-in_err-last-clause-none : goal.returns-in_err-last-clause-none
returns-in_err-last-clause-none g c =
    let offsets = map g.P.Number.value c.args.offsets.now in
    let some : 0 < length c.args.offsets.now = search rules in
    let long : length offsets ≡ length c.args.offsets.now = length-map c.args.offsets.now g.P.Number.value in
    let is : number_nth offsets (length c.args.offsets.now - 1) ≡ g.P.Number.value c.index-offsets-offsets.result = number_of_item g.P.Number.value c.args.offsets.now (length c.args.offsets.now - 1) c.index-offsets-offsets.result (g.P.Number.value c.index-offsets-offsets.result) (omega arith) c.index-offsets-offsets.is refl in
    refuses c.args.heap_len offsets c.from_residual-in_err-last.result
    (λ range. not_natural offsets (length offsets - 1) (last_offset offsets) range.last_is (subst (λ z. IsTrue (is_negative z)) (sym (ap (λ n. number_nth offsets (n - 1)) long ∙ is)) c.in_err-last.ensures.negative))

pub returns-else-first-last-clause-none : goal.returns-else-first-last-clause-none
returns-else-first-last-clause-none g c = λ limit e.
    let offsets = map g.P.Number.value c.args.offsets.now in
    let some : 0 < length c.args.offsets.now = search rules in
    let long : length offsets ≡ length c.args.offsets.now = length-map c.args.offsets.now g.P.Number.value in
    let low : number_nth offsets 0 ≡ g.P.Number.value c.index-offsets-0.result = number_of_item g.P.Number.value c.args.offsets.now 0 c.index-offsets-0.result (g.P.Number.value c.index-offsets-0.result) some c.index-offsets-0.is refl in
    let high : number_nth offsets (length c.args.offsets.now - 1) ≡ g.P.Number.value c.index-offsets-offsets.result = number_of_item g.P.Number.value c.args.offsets.now (length c.args.offsets.now - 1) c.index-offsets-offsets.result (g.P.Number.value c.index-offsets-offsets.result) (omega arith) c.index-offsets-offsets.is refl in
    let range = no_used_range limit c.args.heap_len offsets e in
    let first : first_offset offsets ≡ c.in_ok-first.first = ap unsigned_abs (low ∙ c.in_ok-first.ensures.length) in
    let last : last_offset offsets ≡ c.in_ok-last.last = ap unsigned_abs (ap (λ n. number_nth offsets (n - 1)) long ∙ high ∙ c.in_ok-last.ensures.length) in
    omega (arith, range.in_order, range.within, c.else-first-last.either)

pub returns-then-is_empty-clause-none : goal.returns-then-is_empty-clause-none
returns-then-is_empty-clause-none g c = λ limit e.
    let offsets = map g.P.Number.value c.args.offsets.now in
    let none : length c.args.offsets.now ≡ 0 = search rules in
    let range = no_used_range limit c.args.heap_len offsets e in
    omega (arith, range.some, length-map c.args.offsets.now g.P.Number.value)

pub returns-then-last-heap_len-clause-some : goal.returns-then-last-heap_len-clause-some
returns-then-last-heap_len-clause-some g c =
    let offsets = map g.P.Number.value c.args.offsets.now in
    let some : 0 < length c.args.offsets.now = search rules in
    let long : length offsets ≡ length c.args.offsets.now = length-map c.args.offsets.now g.P.Number.value in
    let low : number_nth offsets 0 ≡ g.P.Number.value c.index-offsets-0.result = number_of_item g.P.Number.value c.args.offsets.now 0 c.index-offsets-0.result (g.P.Number.value c.index-offsets-0.result) some c.index-offsets-0.is refl in
    let high : number_nth offsets (length c.args.offsets.now - 1) ≡ g.P.Number.value c.index-offsets-offsets.result = number_of_item g.P.Number.value c.args.offsets.now (length c.args.offsets.now - 1) c.index-offsets-offsets.result (g.P.Number.value c.index-offsets-offsets.result) (omega arith) c.index-offsets-offsets.is refl in
    record {
      some = omega arith;
      first_is = low ∙ c.in_ok-first.ensures.length;
      last_is = ap (λ n. number_nth offsets (n - 1)) long ∙ high ∙ c.in_ok-last.ensures.length;
      in_order = omega arith;
      within = omega arith;
    }
