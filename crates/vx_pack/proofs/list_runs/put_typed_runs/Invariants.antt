use Rattle.std.proofs.Common.{◌≡◌, ◌+◌, length, sum, take}
use Rattle.std.specs.List.{flat_map, range_with_len}
use Rattle.vx_base.specs.Selections.{run_positions}
use Rattle.vx_pack.specs.CountBytes.{counts_of}
use Rattle.vx_pack.specs.StoredLists.{positions_of}
use Rattle.vx_pack.proofs.list_runs.put_typed_runs.Given as goal

abbrev pub invariant-loop-i : goal.invariant-loop-i
invariant-loop-i g l =
    let starts = counts_of g.O.NativePType.PTYPE l.offsets in
    let sizes = counts_of g.S.NativePType.PTYPE l.sizes in
    record {
      room : length l.runs ≡ length l.fn.runs;
      put : flat_map run_positions (take l.i l.runs) ≡ flat_map (positions_of starts sizes) (range_with_len l.first l.i);
      count : l.len ≡ length (flat_map (positions_of starts sizes) (range_with_len l.first l.i));
      total : sum (take l.first sizes) + l.len ≡ sum (take (l.first + l.i) sizes);
    }
