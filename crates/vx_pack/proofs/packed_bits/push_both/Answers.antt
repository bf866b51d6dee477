use Rattle.std.proofs.Common.{◌≡◌, ◌+◌, ◌++◌, length, ap, subst, arith}
use Rattle.std.specs.Prelude.{◌&&◌}
use Rattle.std.proofs.lemmas.List.FromFn.{length-map-range_with_len}
use Rattle.vx_base.specs.Bits.{bool_at}
use Rattle.vx_base.specs.Refusals.{Gives}
use Rattle.vx_pack.proofs.StoredBits.{bits_again, both_parts}
use Rattle.vx_pack.proofs.packed_bits.push_both.Goals as goal

pub push_range-requires-clause-within : goal.push_range-requires-clause-within
push_range-requires-clause-within c =
    let start = c.args.start in
    let len = c.args.len in
    let valid = c.args.valid.now.bits in
    let truths = c.args.truths.now.bits in
    let are = both_parts valid truths c.in_ok-slice.field-0.bits c.in_ok-truths.truths.bits c.in_ok-both.both.bits start len
    c.requires.valid c.requires.truths c.in_ok-slice.ensures.bits c.in_ok-truths.ensures.bits c.in_ok-both.ensures.bits in
    omega (arith, ap length are, length-map-range_with_len (λ i. bool_at valid (start + i) && bool_at truths (start + i)) 0 len)

pub returns : goal.returns
returns c =
    let start = c.args.start in
    let len = c.args.len in
    let valid = c.args.valid.now.bits in
    let truths = c.args.truths.now.bits in
    let are = both_parts valid truths c.in_ok-slice.field-0.bits c.in_ok-truths.truths.bits c.in_ok-both.both.bits start len
    c.requires.valid c.requires.truths c.in_ok-slice.ensures.bits c.in_ok-truths.ensures.bits c.in_ok-both.ensures.bits in
    subst (λ xs. Gives c.push_range.result (λ x. c.push_range.new.bits ≡ c.args.bits.now ++ xs))
    (bits_again c.in_ok-both.both.bits len (λ i. bool_at valid (start + i) && bool_at truths (start + i)) are) c.push_range.ensures
