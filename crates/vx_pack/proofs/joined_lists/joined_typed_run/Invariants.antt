use Rattle.vx_pack.proofs.JoinedRuns.{AreJoinedUpTo}
use Rattle.vx_pack.proofs.joined_lists.joined_typed_run.Given as goal

abbrev pub invariant-loop-i : goal.invariant-loop-i
invariant-loop-i g l = AreJoinedUpTo g.O.NativePType.PTYPE g.S.NativePType.PTYPE l.offsets l.sizes l.len l.start l.i l.end
