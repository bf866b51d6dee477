use Rattle.std.proofs.Common.{◌≡◌, ◌+◌, length, take}
use Rattle.std.specs.List.{range_with_len, sum_by}
use Rattle.vx_views.specs.TextsAround.{open_size_at}
use Rattle.vx_views.proofs.texts_around.name_more.Given as goal

-- what is left of the limit after the rows so far
abbrev pub invariant-loop-row : goal.invariant-loop-row
invariant-loop-row l = (l.valid ≡ l.mask)
    × (l.left + sum_by (open_size_at l.texts l.mask l.views) (take l.row (range_with_len 0 (length l.views))) ≡ l.limit)
