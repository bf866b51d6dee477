use Rattle.std.proofs.Common.{sym, ◌∙◌, arith}
use Rattle.std.proofs.lemmas.List.{at_drop_all}
use Rattle.vx_tree.specs.Joins.{types_fault}
use Rattle.vx_tree.proofs.Joins.{types_each}
use Rattle.vx_tree.proofs.validity.concat.check_types.Goals as goal

pub returns-clause-each : goal.returns-clause-each
returns-clause-each c =
    let parts = c.args.parts.now in
    types_each parts (sym c.loop-part.invariant ∙ at_drop_all types_fault parts c.loop-part.part-index (omega arith))
