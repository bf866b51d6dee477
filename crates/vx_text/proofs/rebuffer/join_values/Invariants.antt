use Rattle.std.proofs.Common.{◌≡◌, take}
use Rattle.std.specs.List.{flat_map}
use Rattle.vx_views.specs.Views.{view_value}
use Rattle.vx_text.proofs.rebuffer.join_values.Given as goal

abbrev pub invariant-loop-row : goal.invariant-loop-row
invariant-loop-row l = l.heap.items ≡ flat_map (view_value l.buffers) (take l.row l.views)
