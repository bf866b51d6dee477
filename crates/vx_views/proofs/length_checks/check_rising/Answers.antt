use Rattle.std.proofs.Common.{◌≡◌, true, false, int_lt, FitsSigned, map, refl, arith, rules}
use Rattle.std.specs.Int.{w128}
use Rattle.std.proofs.lemmas.List.{length-map}
use Rattle.vx_views.specs.BuildFaults.{falling_at}
use Rattle.vx_base.proofs.FirstFaults.{first_fault-next}
use Rattle.vx_views.proofs.LengthFaults.{first_falling-here, falls-at}
use Rattle.vx_views.proofs.NativeRanges.{test-cast}
use Rattle.vx_views.proofs.OffsetFacts.{falling_at-none}
use Rattle.vx_views.proofs.length_checks.check_rising.Goals as goal

pub returns-then-as_i128 : goal.returns-then-as_i128
returns-then-as_i128 g c =
    let wide : FitsSigned w128 c.as_i128.result = search rules in
    let wide_before : FitsSigned w128 c.as_i128-in-loop-row.result = search rules in
    let less : int_lt c.as_i128.result c.as_i128-in-loop-row.result ≡ true = test-cast c.as_i128.result c.as_i128-in-loop-row.result true wide wide_before c.if-as_i128.true in
    let falls = falls-at g.P.Number.value c.args.offsets.now c.loop-row.row c.index-offsets-row.result c.index-offsets-row-in-loop-row.result c.as_i128.result c.as_i128-in-loop-row.result true (omega arith) (omega arith)
    c.index-offsets-row.is c.index-offsets-row-in-loop-row.is c.as_i128.ensures.value c.as_i128-in-loop-row.ensures.value less in
    (refl, first_falling-here (map g.P.Number.value c.args.offsets.now) c.loop-row.row c.loop-row.invariant falls (omega (arith, length-map c.args.offsets.now g.P.Number.value)))

pub loop-row-preserved : goal.loop-row-preserved
loop-row-preserved g c =
    let wide : FitsSigned w128 c.as_i128.result = search rules in
    let wide_before : FitsSigned w128 c.as_i128-in-loop-row.result = search rules in
    let not_less : int_lt c.as_i128.result c.as_i128-in-loop-row.result ≡ false = test-cast c.as_i128.result c.as_i128-in-loop-row.result false wide wide_before c.if-as_i128.false in
    let rises = falls-at g.P.Number.value c.args.offsets.now c.loop-row.row c.index-offsets-row.result c.index-offsets-row-in-loop-row.result c.as_i128.result c.as_i128-in-loop-row.result false (omega arith) (omega arith)
    c.index-offsets-row.is c.index-offsets-row-in-loop-row.is c.as_i128.ensures.value c.as_i128-in-loop-row.ensures.value not_less in
    first_fault-next (falling_at (map g.P.Number.value c.args.offsets.now)) c.loop-row.row c.loop-row.invariant (falling_at-none (map g.P.Number.value c.args.offsets.now) c.loop-row.row rises)
