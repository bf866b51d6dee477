use Rattle.std.proofs.Common.{sym, ◌∙◌, ap}
use Rattle.vx_base.proofs.Refused.{Gives-weaker}
use Rattle.vx_tree.specs.Parts.{tree_of}
use Rattle.vx_tree.proofs.Filtered.{constant_filtered}
use Rattle.vx_tree.proofs.array.ArrayRef.filter_constant.Goals as goal

pub returns : goal.returns
returns c =
    let scalar = c.in-Constant.scalar in
    let same = sym c.layout.ensures.parts ∙ ap tree_of c.in-Constant.is in
    Gives-weaker c.shared_constant.result _ _
    (λ a e. constant_filtered c.args.self.now a scalar.kind scalar.row c.in-Constant.len c.true_count.result c.args.mask.now same e c.true_count.ensures)
    c.shared_constant.ensures
