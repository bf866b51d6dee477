use Rattle.std.proofs.Common.{◌≡◌, ◌++◌, length}
use Rattle.vx_c.proofs.layouts.columns_of.Given as goal

abbrev pub invariant-loop-place : goal.invariant-loop-place
invariant-loop-place l = (l.initial.stack ≡ l.columns.items ++ l.stack) × (length l.columns.items ≡ l.place)
