use Rattle.std.proofs.Common.{◌≡◌, ◌≤◌, ◌++◌, ◌-◌}
use Rattle.std.specs.List.{flat_map, range_with_len}
use Rattle.vx_base.specs.Integers.{byte_width}
use Rattle.vx_base.specs.Selections.{bytes_of_position}
use Rattle.vx_pack.specs.StoredLists.{positions_of, stored_sizes, stored_starts}
use Rattle.vx_pack.proofs.list_runs.extend_with_lists.Given as goal

abbrev pub invariant-loop-first : goal.invariant-loop-first
invariant-loop-first l =
    record {
      within : l.first ≤ l.end;
      bytes :
          l.all.items
          ≡ l.fn.before.items ++ flat_map (bytes_of_position (byte_width l.ptype) l.elements)
          (flat_map (positions_of (stored_starts l.lists) (stored_sizes l.lists)) (range_with_len 0 l.first));
    }

abbrev pub decreases-loop-first : goal.decreases-loop-first
decreases-loop-first l = l.end - l.first
