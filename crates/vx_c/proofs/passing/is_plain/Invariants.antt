use Rattle.std.proofs.Common.{◌-◌, length, drop}
use Rattle.vx_c.specs.Told.{AreToldBy}
use Rattle.vx_c.proofs.passing.is_plain.Given as goal

abbrev pub invariant-loop-read : goal.invariant-loop-read
invariant-loop-read l = AreToldBy (drop (length l.nodes - l.read) l.nodes) (drop (length l.nodes - l.read) l.nodes)
