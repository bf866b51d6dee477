use Rattle.std.proofs.Common.{map, take}
use Rattle.vx_views.specs.Views.{view_value}
use Rattle.vx_pack.specs.StoredTexts.{ArePushed, filled}
use Rattle.vx_pack.proofs.packed_texts.push_views.Given as goal

abbrev pub invariant-loop-row : goal.invariant-loop-row
invariant-loop-row l = ArePushed (filled l.initial.texts) (map (view_value l.buffers) (take l.row l.views)) (filled l.texts)
