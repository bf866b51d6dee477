use Rattle.std.proofs.Common.{◌≡◌}
use Rattle.vx_tree.specs.Operations.{masked_numbers}
use Rattle.vx_tree.proofs.Positions.{AreRead}
use Rattle.vx_tree.proofs.indices.fill_masked.Given as goal

abbrev pub invariant-loop-row : goal.invariant-loop-row
invariant-loop-row g l =
    record {
      same : l.valid ≡ l.mask;
      read : AreRead (masked_numbers g.T.NativePType.PTYPE l.bytes l.mask) l.len l.row l.out;
    }
