use Rattle.std.proofs.Common.{sym, ap, subst}
use Rattle.vx_base.proofs.Defaults.{default_of_dtype}
use Rattle.vx_base.specs.DTypes.{dtype_meaning}
use Rattle.vx_base.specs.Kinds.{Fits}
use Rattle.vx_base.specs.Scalars.{typed_row}
use Rattle.vx_base.proofs.scalar.Scalar.default_value.Goals as goal

pub invariant_of-result : goal.invariant_of-result
invariant_of-result c =
    let fits = default_of_dtype c.args.dtype in
    subst (Fits (dtype_meaning c.args.dtype)) (sym (c.in_ok-value.ensures fits)) fits

pub returns : goal.returns
returns c = ap (typed_row (dtype_meaning c.args.dtype)) (c.in_ok-value.ensures (default_of_dtype c.args.dtype))
