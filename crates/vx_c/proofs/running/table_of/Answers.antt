use Rattle.std.proofs.Common.{◌≤◌, List, [], ◌∷◌, subst, rules}
use Rattle.vx_tree.specs.Meaning.{kind_of}
use Rattle.vx_c.specs.declared.reading.TheConstants.{MAX_NODES}
use Rattle.vx_c.specs.declared.written.WrittenNode.{WrittenNode}
use Rattle.vx_c.specs.Unflagged.{unflagged, least_count, node_count}
use Rattle.vx_c.specs.Written.{IsWritten}
use Rattle.vx_c.proofs.ExactRuns.{exact_made}
use Rattle.vx_c.proofs.RunParts.{lent_there, made_plain, table_made}
use Rattle.vx_c.proofs.running.table_of.Goals as goal

pub returns-clause-ok : goal.returns-clause-ok
returns-clause-ok c =
    let nodes = c.write.new.nodes.items in
    let is = lent_there c.args.results.now c.args.position c.get.result c.in_ok-array.array c.get.ensures.lookup c.in_ok-array.ensures.ok_part in
    let none : List WrittenNode → Type 0 = λ old. IsWritten old (unflagged c.in_ok-plain.plain ∷ []) nodes in
    let few : least_count (kind_of c.in_ok-array.array.now) ≤ MAX_NODES = search rules in
    let short : node_count c.in_ok-plain.plain ≤ MAX_NODES = search rules in
    let made = made_plain c.in_ok-array.array.now c.in_ok-plain.plain c.in_ok-plain.ensures.canonical c.in_ok-plain.ensures.within
    c.in_ok-plain.ensures.shared c.known.ensures in
    table_made c.args.results.now c.args.position c.in_ok-array.array.now c.in_ok-plain.plain nodes c.in_ok-of.field-0.nodes.items is few
    c.in_ok-plain.ensures.refuses made (subst none c.new-nodes.ensures.items c.in_ok-write.ensures.written) short c.in_ok-of.ensures

pub returns-clause-exact : goal.returns-clause-exact
returns-clause-exact c =
    let nodes = c.write.new.nodes.items in
    let none : List WrittenNode → Type 0 = λ old. IsWritten old (unflagged c.in_ok-plain.plain ∷ []) nodes in
    let short : node_count c.in_ok-plain.plain ≤ MAX_NODES = search rules in
    exact_made c.in_ok-plain.plain nodes c.in_ok-of.field-0.nodes.items (subst none c.new-nodes.ensures.items c.in_ok-write.ensures.written) short c.in_ok-of.ensures
