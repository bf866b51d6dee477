use Rattle.std.proofs.Common.{◌≡◌, ◌<◌, ◌-◌, IfNone, IsTrue, length, map, refl, sym, subst, arith, rules}
use Rattle.std.specs.Int.{is_negative}
use Rattle.std.proofs.lemmas.List.{length-map}
use Rattle.std.proofs.lemmas.Result.{err_from_is_err_and}
use Rattle.vx_base.specs.Refusals.{Tests}
use Rattle.vx_base.specs.Integers.{number_nth}
use Rattle.vx_views.proofs.LengthFaults.{is_length, last_offset-is}
use Rattle.vx_views.proofs.NoFaults.{number_of_item}
use Rattle.vx_views.proofs.OffsetFacts.{offsets_fault-past, offsets_fault-long, differences-none, Names-negative_offset, Names-falling_offset}
use Rattle.vx_views.proofs.length_checks.check_offsets.Goals as goal

pub returns-then-heap_len-last : goal.returns-then-heap_len-last
returns-then-heap_len-last g c =
    let offsets = map g.P.Number.value c.args.offsets.now in
    let some : 0 < length c.args.offsets.now = search rules in
    let last = last_offset-is g.P.Number.value c.args.offsets.now c.index-offsets-offsets.result c.unwrap-last.result c.natural.result some c.index-offsets-offsets.is c.unwrap-last.ensures c.natural.ensures.length in
    (refl, offsets_fault-past c.args.limit c.args.heap_len offsets c.unwrap-last.result (omega (arith, length-map c.args.offsets.now g.P.Number.value)) c.in_ok-check_natural.ensures c.in_ok-check_rising.ensures last c.if-heap_len-last.true)

pub check_short-requires : goal.check_short-requires
check_short-requires g c = differences-none (map g.P.Number.value c.args.offsets.now) c.in_ok-check_natural.ensures c.in_ok-check_rising.ensures

pub returns : goal.returns
returns g c =
    let offsets = map g.P.Number.value c.args.offsets.now in
    let some : 0 < length c.args.offsets.now = search rules in
    let last = last_offset-is g.P.Number.value c.args.offsets.now c.index-offsets-offsets.result c.unwrap-last.result c.natural.result some c.index-offsets-offsets.is c.unwrap-last.ensures c.natural.ensures.length in
    subst (Tests c.check_short.result)
    (sym (offsets_fault-long c.args.limit c.args.heap_len offsets (omega (arith, length-map c.args.offsets.now g.P.Number.value)) c.in_ok-check_natural.ensures c.in_ok-check_rising.ensures (omega (arith, last))))
    c.check_short.ensures

pub returns-in_err-check_natural : goal.returns-in_err-check_natural
returns-in_err-check_natural g c =
    let p = err_from_is_err_and c.from_residual.result c.from_residual.ensures.1 in
    let some : 0 < length c.args.offsets.now = search rules in
    rw (p.1, p.2) (Names-negative_offset c.args.limit c.args.heap_len (map g.P.Number.value c.args.offsets.now) _ (omega (arith, length-map c.args.offsets.now g.P.Number.value)) c.in_err-check_natural.ensures)

pub returns-in_err-check_rising : goal.returns-in_err-check_rising
returns-in_err-check_rising g c =
    let p = err_from_is_err_and c.from_residual-in_err-check_rising.result c.from_residual-in_err-check_rising.ensures.1 in
    let some : 0 < length c.args.offsets.now = search rules in
    rw (p.1, p.2) (Names-falling_offset c.args.limit c.args.heap_len (map g.P.Number.value c.args.offsets.now) _ (omega (arith, length-map c.args.offsets.now g.P.Number.value)) c.in_ok-check_natural.ensures c.in_err-check_rising.ensures)

pub unwrap-last-requires : goal.unwrap-last-requires
unwrap-last-requires g c =
    let offsets = map g.P.Number.value c.args.offsets.now in
    let some : 0 < length c.args.offsets.now = search rules in
    let long : length offsets ≡ length c.args.offsets.now = length-map c.args.offsets.now g.P.Number.value in
    let is : number_nth offsets (length c.args.offsets.now - 1) ≡ g.P.Number.value c.index-offsets-offsets.result = number_of_item g.P.Number.value c.args.offsets.now (length c.args.offsets.now - 1) c.index-offsets-offsets.result (g.P.Number.value c.index-offsets-offsets.result) (omega arith) c.index-offsets-offsets.is refl in
    is_length offsets (length c.args.offsets.now - 1) c.natural.result c.in_ok-check_natural.ensures (omega arith) (subst (λ z. IfNone c.natural.result (IsTrue (is_negative z))) (sym is) c.natural.ensures.negative)
