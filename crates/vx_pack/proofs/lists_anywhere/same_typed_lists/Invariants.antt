use Rattle.std.proofs.Common.{◌<◌, ◌+◌, ℕ}
use Rattle.std.specs.Prelude.{slice_index}
use Rattle.vx_pack.specs.CountBytes.{counts_of}
use Rattle.vx_pack.specs.SameElements.{IsSameList}
use Rattle.vx_pack.proofs.lists_anywhere.same_typed_lists.Given as goal

abbrev pub invariant-loop-i : goal.invariant-loop-i
invariant-loop-i g l =
    let starts = counts_of g.O.NativePType.PTYPE l.offsets in
    let sizes = counts_of g.S.NativePType.PTYPE l.sizes in
    (j : ℕ) → j < l.i
    → IsSameList l.elements (slice_index l.block.starts.now j) (slice_index l.block.sizes.now j) (slice_index starts (l.first + j))
    (slice_index sizes (l.first + j))
