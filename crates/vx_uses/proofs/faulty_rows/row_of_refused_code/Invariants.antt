use Rattle.std.proofs.Common.{ℕ, ◌<◌, Some}
use Rattle.std.specs.Prelude.{◌≢◌, pos}
use Rattle.vx_base.specs.Rows.{number_in}
use Rattle.vx_tree.specs.Meaning.{row_at}
use Rattle.vx_uses.proofs.faulty_rows.row_of_refused_code.Given as goal

abbrev pub invariant-loop-row : goal.invariant-loop-row
invariant-loop-row l = (i : ℕ) → i < l.row → number_in (row_at l.codes i) ≢ Some (pos l.code)
