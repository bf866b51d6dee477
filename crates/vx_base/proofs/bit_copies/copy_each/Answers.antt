use Rattle.std.proofs.Common.{◌+◌, ◌-◌, ◌∙◌, arith}
use Rattle.vx_base.specs.Bits.{bit_of}
use Rattle.vx_base.proofs.Filling.{written_none, written_bit}
use Rattle.vx_base.proofs.bit_copies.copy_each.Goals as goal

pub loop-k-init : goal.loop-k-init
loop-k-init c = written_none c.args.out.now c.args.start (λ k. bit_of c.args.source.now (c.args.from + (k - c.args.at)))

pub loop-k-preserved : goal.loop-k-preserved
loop-k-preserved c =
    written_bit c.args.out.now c.loop-k.out c.put_bit.new.bytes c.args.start c.loop-k.k (λ k. bit_of c.args.source.now (c.args.from + (k - c.args.at))) (omega arith) c.loop-k.invariant
    (c.put_bit.ensures.written ∙ c.read_bit.ensures) c.put_bit.ensures.others
