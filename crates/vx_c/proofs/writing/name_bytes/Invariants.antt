use Rattle.std.proofs.Common.{◌≡◌, take, map}
use Rattle.std.specs.Prelude.{None}
use Rattle.vx_base.specs.Refusals.{first_fault}
use Rattle.vx_c.specs.Tables.{name_fault}
use Rattle.vx_c.proofs.writing.name_bytes.Given as goal

abbrev pub invariant-loop-i : goal.invariant-loop-i
invariant-loop-i l = (map (λ b. b.items) l.copies.items ≡ take l.i l.names) × (first_fault (name_fault l.names) l.i ≡ None)
