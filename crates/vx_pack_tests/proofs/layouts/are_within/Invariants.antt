use Rattle.vx_pack_tests.proofs.ListsWithin.{EndWithin}
use Rattle.vx_pack_tests.proofs.layouts.are_within.Given as goal

abbrev pub invariant-loop-i : goal.invariant-loop-i
invariant-loop-i l = EndWithin l.len l.offsets l.sizes l.i
