use Rattle.std.proofs.Common.{◌+◌, ◌-◌}
use Rattle.vx_base.specs.Bits.{bit_of, Written}
use Rattle.vx_base.proofs.bit_copies.copy_each.Given as goal

abbrev pub invariant-loop-k : goal.invariant-loop-k
invariant-loop-k l = Written l.initial.out l.out l.fn.start l.k (λ k. bit_of l.source (l.from + (k - l.at)))
