use Rattle.std.proofs.Common.{◌≡◌, ◌≤◌, ◌*◌, ◌^◌, take}
use Rattle.std.specs.List.{sum_by, zip}
use Rattle.vx_views.specs.TextsAround.{open_len}
use Rattle.vx_views.proofs.texts_around.open_bytes.Given as goal

abbrev pub invariant-loop-block : goal.invariant-loop-block
invariant-loop-block l = (l.count ≡ sum_by open_len (take l.block (zip l.texts l.buffers))) × (l.count ≤ l.block * 2 ^ 64)
