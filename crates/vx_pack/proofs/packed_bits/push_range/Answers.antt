use Rattle.std.proofs.Common.{◌≡◌, ◌+◌, ◌-◌, ◌<◌, ◌^◌, ◌++◌, length, map, subst, arith}
use Rattle.std.specs.List.{range_with_len}
use Rattle.std.specs.Prelude.{IfOk}
use Rattle.vx_base.specs.Bits.{bool_at}
use Rattle.vx_pack.proofs.StoredBits.{bits_part, counted_gives}
use Rattle.vx_pack.proofs.packed_bits.push_range.Goals as goal

pub returns : goal.returns
returns c =
    let start = c.args.start in
    let len = c.args.len in
    let source = c.args.source.now.bits in
    let old = c.args.bits.now in
    let new = c.append_slice.new.self in
    let few : length old + (start + len - start) < 2 ^ 64 = omega (arith, c.requires.fits) in
    counted_gives c.append_slice.result (length old + (start + len - start))
    (λ x. new ≡ old ++ map (λ i. bool_at source (start + i)) (range_with_len 0 len)) few
    (subst (λ xs. IfOk c.append_slice.result (λ x. new ≡ old ++ xs)) (bits_part source start len c.requires.within) c.append_slice.ensures.ok)
    c.append_slice.ensures.refuses
