use Rattle.std.proofs.Common.{◌≡◌, length, take, drop}
use Rattle.vx_pack.specs.CountBytes.{counts_of}
use Rattle.vx_pack.proofs.count_bytes.put_typed_counts.Given as goal

abbrev pub invariant-loop-i : goal.invariant-loop-i
invariant-loop-i g l =
    record {
      room : length l.out ≡ length l.fn.out;
      put : take l.i l.out ≡ take l.i (drop l.first (counts_of g.T.NativePType.PTYPE l.bytes));
    }
