use Rattle.std.proofs.Common.{ℕ, ◌<◌}
use Rattle.vx_lists.specs.ListViews.Faults.{whole_at}
use Rattle.vx_uses.specs.FaultyRows.{EndsAt}
use Rattle.vx_uses.proofs.faulty_rows.row_of_refused_list.Given as goal

abbrev pub invariant-loop-row : goal.invariant-loop-row
invariant-loop-row l = (i : ℕ) → i < l.row → EndsAt (whole_at l.offsets i) (whole_at l.sizes i) l.end → ⊥
