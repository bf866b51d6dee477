use Rattle.std.proofs.Common.{◌≡◌, take, map}
use Rattle.std.specs.Prelude.{None}
use Rattle.vx_base.specs.Refusals.{first_fault}
use Rattle.vx_c.specs.Tables.{name_fault}
use Rattle.vx_c.proofs.steps.field_names.Given as goal

abbrev pub invariant-loop-i : goal.invariant-loop-i
invariant-loop-i l =
    (l.names.items ≡ map (λ b. b.bytes.now) (take l.i l.buffers))
    × (first_fault (name_fault (map (λ b. b.bytes.now) l.buffers)) l.i ≡ None)
