use Rattle.std.proofs.Common.{ℕ, ◌∙◌, length, get_or, map, sym, arith}
use Rattle.std.proofs.lemmas.List.{length-map, get_or-map}
use Rattle.vx_base.specs.Bits.{bool_at}
use Rattle.vx_base.proofs.Packing.{eight_packed, packed_all}
use Rattle.vx_base.proofs.gathered_bits.put_bits_at.Goals as goal

pub loop-j-preserved : goal.loop-j-preserved
loop-j-preserved g c =
    let f = λ (k : ℕ). bool_at c.args.bits.now.bits (get_or (g.P.Places.positions c.args.places) k 0) in
    eight_packed c.loop-j.out f c.loop-j.j c.byte_of.result (omega arith)
    (rw (← c.bit_at.ensures, ← c.bit_at-in-loop-j.ensures, ← c.bit_at-in-loop-j-2.ensures, ← c.bit_at-in-loop-j-3.ensures, ← c.bit_at-in-loop-j-4.ensures, ← c.bit_at-in-loop-j-5.ensures, ← c.bit_at-in-loop-j-6.ensures, ← c.bit_at-in-loop-j-7.ensures) c.byte_of.ensures)
    c.loop-j.invariant

pub returns-clause-bits : goal.returns-clause-bits
returns-clause-bits g c =
    let bits = c.args.bits.now.bits in
    let ps = g.P.Places.positions c.args.places in
    packed_all c.loop-i.out (map (bool_at bits) ps) (length ps) (length-map ps (bool_at bits))
    (λ k h. c.loop-i.invariant k (omega arith) ∙ sym (get_or-map (bool_at bits) ps k 0 _ h))
