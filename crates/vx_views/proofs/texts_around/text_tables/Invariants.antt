use Rattle.vx_views.specs.TextsAround.{AreTextTables}
use Rattle.vx_views.proofs.TextsAround.{ReachTo}
use Rattle.vx_views.proofs.texts_around.text_tables.Given as goal

abbrev pub invariant-loop-block : goal.invariant-loop-block
invariant-loop-block l = AreTextTables l.buffers l.tables.items × ReachTo l.texts l.buffers l.tables.items l.block
