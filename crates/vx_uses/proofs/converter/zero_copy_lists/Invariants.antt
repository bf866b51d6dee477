use Rattle.std.proofs.Common.{◌≡◌, ℕ, ◌+◌, take, get_or}
use Rattle.vx_lists.specs.ListViews.{counts_in, offsets_of, sizes_of}
use Rattle.vx_uses.proofs.converter.zero_copy_lists.Given as goal

abbrev pub invariant-loop-i : goal.invariant-loop-i
invariant-loop-i l = record {
  starts : l.offsets.items ≡ take l.i (counts_in (offsets_of l.lists));
  last : (i : ℕ) → i + 1 ≡ l.i → l.end ≡ get_or (counts_in (offsets_of l.lists)) i 0 + get_or (counts_in (sizes_of l.lists)) i 0;
  none : l.i ≡ 0 → l.end ≡ 0;
}
