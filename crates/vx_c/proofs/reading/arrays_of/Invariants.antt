use Rattle.std.proofs.Common.{◌≡◌, ◌-◌, drop, length}
use Rattle.std.specs.Prelude.{Ok}
use Rattle.vx_c.specs.Tables.{arrays_from}
use Rattle.vx_c.proofs.reading.arrays_of.Given as goal

abbrev pub invariant-loop-read : goal.invariant-loop-read
invariant-loop-read l = arrays_from (length l.nodes - l.read) (drop (length l.nodes - l.read) l.nodes) ≡ Ok l.stack
