use Rattle.std.proofs.Common.{sym, ap, ◌∙◌}
use Rattle.vx_tree.specs.Parts.{valid_of, tree_of}
use Rattle.vx_leaves.proofs.ValueRows.{valid_mask-bools}
use Rattle.vx_leaves.proofs.bool_ext.valid_bits.Goals as goal

pub returns-in-Bool : goal.returns-in-Bool
returns-in-Bool c = λ n fits. valid_mask-bools (valid_of c.args.validity.now) c.in-Array.array c.in-Bool.bits.bits (valid_of c.in-Bool.validity) n
    (ap valid_of c.in-Array.is) (sym c.layout.ensures.parts ∙ ap tree_of c.in-Bool.is) fits
