use Rattle.std.proofs.Common.{◌≡◌, length, take}
use Rattle.vx_base.specs.Booleans.{joined}
use Rattle.vx_base.specs.MaskRuns.{marked, AreRuns}
use Rattle.vx_base.proofs.mask.joined_runs.Given as goal

abbrev pub invariant-loop-mask : goal.invariant-loop-mask
invariant-loop-mask l =
    record {
      len : l.len ≡ length (joined (take l.mask-index l.masks));
      apart : AreRuns l.len l.runs.items;
      rows : marked l.len l.runs.items ≡ joined (take l.mask-index l.masks);
    }
