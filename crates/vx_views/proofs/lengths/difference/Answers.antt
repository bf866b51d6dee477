use Rattle.std.proofs.Common.{◌≡◌, ℤ, pos, ◌+◌, ◌-◌, ◌^◌, ◌-ℤ◌, ◌≤ℤ◌, ap, sym, subst, ◌∙◌, map, arith}
use Rattle.vx_base.specs.Integers.{Holds, number_nth}
use Rattle.vx_views.proofs.NativeRanges.{difference-le, difference-holds, difference-cast, IsNative-holds}
use Rattle.vx_views.proofs.NoFaults.{number_of_item}
use Rattle.vx_views.proofs.lengths.difference.Goals as goal

pub returns-clause-bound : goal.returns-clause-bound
returns-clause-bound g c =
    let cast = difference-cast c.as_i128-offset.result c.as_i128-next.result (IsNative-holds g.P.NativePType.PTYPE c.as_i128-offset.result c.as_i128-offset.ensures.holds) (IsNative-holds g.P.NativePType.PTYPE c.as_i128-next.result c.as_i128-next.ensures.holds) in
    subst (λ (z : ℤ). z ≤ℤ pos (2 ^ 64 - 1)) (sym cast) (difference-le g.P.NativePType.PTYPE c.as_i128-offset.result c.as_i128-next.result c.as_i128-offset.ensures.holds c.as_i128-next.ensures.holds)

pub returns-clause-value : goal.returns-clause-value
returns-clause-value g c =
    let cast = difference-cast c.as_i128-offset.result c.as_i128-next.result (IsNative-holds g.P.NativePType.PTYPE c.as_i128-offset.result c.as_i128-offset.ensures.holds) (IsNative-holds g.P.NativePType.PTYPE c.as_i128-next.result c.as_i128-next.ensures.holds) in
    let low : number_nth (map g.P.Number.value c.args.offsets.now) c.args.row ≡ c.as_i128-offset.result = number_of_item g.P.Number.value c.args.offsets.now c.args.row c.index-offsets-row.result c.as_i128-offset.result (omega arith) c.index-offsets-row.is c.as_i128-offset.ensures.value in
    let high : number_nth (map g.P.Number.value c.args.offsets.now) (c.args.row + 1) ≡ c.as_i128-next.result = number_of_item g.P.Number.value c.args.offsets.now (c.args.row + 1) c.index-offsets-row-2.result c.as_i128-next.result (omega arith) c.index-offsets-row-2.is c.as_i128-next.ensures.value in
    cast ∙ ap (λ z. z -ℤ c.as_i128-offset.result) (sym high) ∙ ap (λ z. number_nth (map g.P.Number.value c.args.offsets.now) (c.args.row + 1) -ℤ z) (sym low)

pub returns-clause-holds : goal.returns-clause-holds
returns-clause-holds g c = λ natural rising.
    let cast = difference-cast c.as_i128-offset.result c.as_i128-next.result (IsNative-holds g.P.NativePType.PTYPE c.as_i128-offset.result c.as_i128-offset.ensures.holds) (IsNative-holds g.P.NativePType.PTYPE c.as_i128-next.result c.as_i128-next.ensures.holds) in
    let low : number_nth (map g.P.Number.value c.args.offsets.now) c.args.row ≡ c.as_i128-offset.result = number_of_item g.P.Number.value c.args.offsets.now c.args.row c.index-offsets-row.result c.as_i128-offset.result (omega arith) c.index-offsets-row.is c.as_i128-offset.ensures.value in
    let high : number_nth (map g.P.Number.value c.args.offsets.now) (c.args.row + 1) ≡ c.as_i128-next.result = number_of_item g.P.Number.value c.args.offsets.now (c.args.row + 1) c.index-offsets-row-2.result c.as_i128-next.result (omega arith) c.index-offsets-row-2.is c.as_i128-next.ensures.value in
    subst (Holds g.P.NativePType.PTYPE) (sym cast) (difference-holds g.P.NativePType.PTYPE c.as_i128-offset.result c.as_i128-next.result (subst (λ z. pos 0 ≤ℤ z) low natural) (subst (λ z. c.as_i128-offset.result ≤ℤ z) high (subst (λ z. z ≤ℤ number_nth (map g.P.Number.value c.args.offsets.now) (c.args.row + 1)) low rising)) c.as_i128-next.ensures.holds)
