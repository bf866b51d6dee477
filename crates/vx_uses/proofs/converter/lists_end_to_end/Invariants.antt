use Rattle.std.proofs.Common.{◌≡◌, take}
use Rattle.vx_lists.specs.ListViews.{counts_in, offsets_of}
use Rattle.vx_uses.proofs.converter.lists_end_to_end.Given as goal

abbrev pub invariant-loop-i : goal.invariant-loop-i
invariant-loop-i l = l.offsets.items ≡ take l.i (counts_in (offsets_of l.rebuilt-inside.array))
