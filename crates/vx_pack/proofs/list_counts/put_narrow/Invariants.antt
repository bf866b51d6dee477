use Rattle.std.proofs.Common.{◌≡◌, ◌+◌, ◌++◌, ℕ, List, length, sum, take, drop}
use Rattle.std.specs.List.{flat_map}
use Rattle.vx_pack.specs.CountBytes.{counts_of}
use Rattle.vx_pack.specs.ListItems.{AreCountsUpTo}
use Rattle.vx_pack.proofs.list_counts.put_narrow.Given as goal

abbrev pub invariant-loop-i : goal.invariant-loop-i
invariant-loop-i g l =
    let sizes = drop l.first (counts_of g.T.NativePType.PTYPE l.sizes) in
    record {
      offsets : length l.offsets ≡ length l.fn.offsets;
      lens : length l.lens ≡ length l.fn.lens;
      total : l.at ≡ l.next + sum (take l.i sizes);
      put :
          (ns os ss : List ℕ) → AreCountsUpTo ns l.next os ss
          → AreCountsUpTo (ns ++ take l.i sizes) l.at (os ++ flat_map (λ b. b) (take l.i l.offsets)) (ss ++ flat_map (λ b. b)
          (take l.i l.lens));
    }
