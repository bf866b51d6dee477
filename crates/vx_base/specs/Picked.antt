-- The positions that a selection stands for, in each of its forms.
use Rattle.std.specs.Prelude.{ℕ, List, map, replicate, unsigned_abs}
use Rattle.std.specs.List.{flat_map}
use Rattle.vx_base.specs.declared.selection.Picks.{Picks}
use Rattle.vx_base.specs.declared.selection.Picks.TheVariants as picks
use Rattle.vx_base.specs.Integers.{numbers}
use Rattle.vx_base.specs.Selections.{run_positions, list_positions}

abbrev pub positions_of : Picks → List ℕ
positions_of (picks.Positions ps) = ps.now
positions_of (picks.Numbers t bs) = map unsigned_abs (numbers t bs.now)
positions_of (picks.Repeated k n) = replicate n k
positions_of (picks.Runs rs) = flat_map run_positions rs.now
positions_of (picks.OwnRuns rs) = flat_map run_positions rs.items
positions_of (picks.ListRepeated k n size) = flat_map (list_positions size) (replicate n k)
positions_of (picks.ListsAt ps n) = flat_map (list_positions n) ps.now
positions_of (picks.ListsAtNumbers t bs n) = flat_map (list_positions n) (map unsigned_abs (numbers t bs.now))
