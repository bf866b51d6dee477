use Rattle.vx_pack.proofs.RunPieces.{AreRunsUpTo}
use Rattle.vx_pack.specs.CountBytes.{counts_of}
use Rattle.vx_pack.proofs.run_pieces.push_typed_runs.Given as goal

abbrev pub invariant-loop-i : goal.invariant-loop-i
invariant-loop-i g l =
    AreRunsUpTo l.elements (counts_of g.O.NativePType.PTYPE l.offsets) (counts_of g.S.NativePType.PTYPE l.sizes) l.i l.start l.end
    l.initial.lists.items l.lists.items
