use Rattle.std.proofs.Common.{◌≡◌, ◌<◌, ℕ}
use Rattle.vx_base.specs.Kinds.{Kind}
use Rattle.vx_base.specs.Rows.{number_in}
use Rattle.vx_pack.specs.Parts.{part_row}
use Rattle.vx_pack.proofs.same_numbers.same_each_number.Given as goal

abbrev pub invariant-loop-i : goal.invariant-loop-i
invariant-loop-i l = (k : Kind) (j : ℕ) → j < l.i → number_in (part_row k l.a j) ≡ number_in (part_row k l.b j)
