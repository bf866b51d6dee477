use Rattle.std.proofs.Common.{◌≡◌, ◌+◌, ◌-◌, ◌<◌, ◌^◌, ℕ, length, get_or, ap, arith}
use Rattle.std.proofs.lemmas.Grind.{common_steps}
use Rattle.std.proofs.lemmas.List.Folds.{length-flat_map-take}
use Rattle.std.proofs.lemmas.Result.{err_from_is_err_and}
use Rattle.vx_base.proofs.Refused.{memory_alone}
use Rattle.vx_canonical.specs.Joined.{bits_in}
use Rattle.vx_canonical.proofs.JoinedLeaves.{length-bits}
use Rattle.vx_canonical.proofs.layouts.bool.joined_bits.Goals as goal

pub loop-array-preserved : goal.loop-array-preserved
loop-array-preserved c = grind (arith, common_steps)

pub returns : goal.returns
returns c = grind (arith, common_steps)

pub returns-in_err-append_slice : goal.returns-in_err-append_slice
returns-in_err-append_slice c =
    let p = err_from_is_err_and c.from_residual-in_err-append_slice.result c.from_residual-in_err-append_slice.ensures.1 in
    let ts = c.args.arrays.now in
    let i = c.loop-array.array-index in
    let t = c.array-item.result in
    let n : ℕ = length c.loop-array.joined + (c.len.result - 0) in
    let here : length (bits_in (get_or ts i t)) ≡ c.len.result = grind (arith, common_steps) in
    let more = length-flat_map-take bits_in ts i t c.loop-array-test.true in
    let few : n < 2 ^ 64 = omega (arith, ap length c.loop-array.invariant, more, here, length-bits ts c.requires.layout, c.requires.len) in
    rw (p.1, p.2) (memory_alone n c.in_err-append_slice.field-0.0 few c.in_err-append_slice.ensures.refuses)
