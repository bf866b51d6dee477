use Rattle.std.proofs.Common.{ℕ, ◌+◌, ◌-◌, ◌<◌, ◌^◌, ◌++◌, false, length, ap, ◌∙◌, arith}
use Rattle.std.proofs.lemmas.List.FromFn.{length-range_with_len}
use Rattle.std.proofs.lemmas.Result.{err_from_is_err_and}
use Rattle.vx_base.proofs.Runs.{in_run, part_by_places}
use Rattle.vx_base.proofs.Refused.{memory_alone}
use Rattle.vx_base.proofs.gathered_bits.append_run.Goals as goal

pub append_slice-requires-clause-in_bounds : goal.append_slice-requires-clause-in_bounds
append_slice-requires-clause-in_bounds c =
    let last = in_run (λ k. k < length c.args.bits.now.bits) (c.args.start, c.args.end) (c.args.end - 1) c.requires.within (omega arith) (omega arith) in
    omega arith

pub returns-in_ok-append_slice : goal.returns-in_ok-append_slice
returns-in_ok-append_slice c =
    let last = in_run (λ k. k < length c.args.bits.now.bits) (c.args.start, c.args.end) (c.args.end - 1) c.requires.within (omega arith) (omega arith) in
    c.in_ok-append_slice.ensures.ok ∙ ap (λ bs. c.args.picked.now ++ bs) (part_by_places c.args.bits.now.bits false c.args.start c.args.end (omega arith) (omega arith))

pub returns-in_err-append_slice : goal.returns-in_err-append_slice
returns-in_err-append_slice c =
    let p = err_from_is_err_and c.from_residual.result c.from_residual.ensures.1 in
    let n : ℕ = length c.args.picked.now + (c.args.end - c.args.start) in
    let few : n < 2 ^ 64 = omega (arith, c.requires.countable, length-range_with_len c.args.start (c.args.end - c.args.start)) in
    rw (p.1, p.2) (memory_alone n c.in_err-append_slice.field-0.0 few c.in_err-append_slice.ensures.refuses)
