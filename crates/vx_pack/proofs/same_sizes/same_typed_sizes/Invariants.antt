use Rattle.std.proofs.Common.{◌≡◌, ◌<◌, ℕ}
use Rattle.std.specs.Prelude.{slice_index}
use Rattle.vx_pack.specs.CountBytes.{counts_of}
use Rattle.vx_pack.proofs.same_sizes.same_typed_sizes.Given as goal

abbrev pub invariant-loop-i : goal.invariant-loop-i
invariant-loop-i g l =
    (j : ℕ) → j < l.i → slice_index (counts_of g.A.NativePType.PTYPE l.a) j ≡ slice_index (counts_of g.B.NativePType.PTYPE l.b) j
