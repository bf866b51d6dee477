use Rattle.std.proofs.Common.{◌≡◌, rules}
use Rattle.vx_tree.specs.Meaning.{trees_from}
use Rattle.vx_tree.specs.Parts.{valid_of}
use Rattle.vx_tree.specs.Tree.{structure}
use Rattle.vx_structs.proofs.Structs.Parts.{columns_of-parts}
use Rattle.vx_structs.proofs.array.StructArray.parts.Goals as goal

pub returns-clause-columns : goal.returns-clause-columns
returns-clause-columns c =
    let same : c.args.self.now ≡ structure c.in-Struct.names (trees_from c.deref.result.now) (valid_of c.in-Struct.validity) c.in-Struct.len = search rules in
    columns_of-parts c.args.self.now c.in-Struct.names c.deref.result.now (valid_of c.in-Struct.validity) c.in-Struct.len same
