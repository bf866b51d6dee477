use Rattle.std.proofs.Common.{ap}
use Rattle.vx_tree.specs.Parts.{valid_of}
use Rattle.vx_base.proofs.Refused.{Gives-weaker}
use Rattle.vx_canonical.proofs.CanonicalArrays.{array_canonical}
use Rattle.vx_canonical.proofs.canonical.canonical_validity.Goals as goal

pub returns-in_ok-plain_bits-in-Array : goal.returns-in_ok-plain_bits-in-Array
returns-in_ok-plain_bits-in-Array c =
    Gives-weaker c.told_by.result _ _
    (λ w e. array_canonical (valid_of c.args.validity.now) (valid_of w) c.in-Array.array c.in_ok-plain_bits-in-Array.field-0.bits c.args.len (ap valid_of c.in-Array.is) e c.in_ok-plain_bits-in-Array.ensures.bits c.requires)
    c.told_by.ensures
