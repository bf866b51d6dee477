use Rattle.std.proofs.Common.{◌≡◌, take, map}
use Rattle.vx_c.specs.Tables.{view_bytes}
use Rattle.vx_c.specs.TablesOf.{view_with}
use Rattle.vx_c.proofs.writing.view_list.Given as goal

abbrev pub invariant-loop-view : goal.invariant-loop-view
invariant-loop-view l = (map view_bytes l.copies.items ≡ take l.view-index l.views) × (l.copies.items ≡ map view_with (take l.view-index l.views))
